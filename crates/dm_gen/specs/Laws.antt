-- What follows from the definitions: the first draws of one number, and how long the lists are.
use Rattle.std.specs.Prelude.{ℕ, ◌≡◌, ◌+◌, ◌-◌, ◌*◌, ◌/◌, ◌^◌, length}
use Rattle.dm_rows.specs.declared.messages.Message.TheVariants.{DelayEvent}
use Rattle.dm_feed.specs.declared.grammar.Line.TheVariants.{Say}
use Rattle.dm_gen.specs.Draws.{state_after}
use Rattle.dm_gen.specs.Trains.{events_of}
use Rattle.dm_gen.specs.Activities.{activities_of}
use Rattle.dm_gen.specs.Feed.{feed_line, feed_of}

-- what is drawn first from 7, and the line that it makes of 2,000 trains
pub record FirstOfSeven : Type 0 where
  pub state : state_after 7 1 ≡ 9098160460397411210
  pub shifted : state_after 7 1 / 2 ^ 33 ≡ 1059165278
  pub line : feed_line 7 2000 0 ≡ Say (DelayEvent (record { 0 = 5279 }) 432)

-- headways take trains that are eight apart, and changes trains that follow each other
pub record Sizes : Type 0 where
  pub events : (trains : ℕ) → length (events_of trains) ≡ 20 * trains
  pub activities : (trains : ℕ) → length (activities_of trains) ≡ 19 * trains + 20 * (trains - 8) + (trains - 1)
  pub feed : (number trains : ℕ) → length (feed_of number trains) ≡ 500
  pub of_one : length (activities_of 1) ≡ 19
  pub of_most : length (activities_of 2000) ≡ 79839
