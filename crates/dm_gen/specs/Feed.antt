-- The feed: 500 events are delayed, by up to 900 seconds each.
use Rattle.std.specs.Prelude.{ℕ, ◌+◌, ◌*◌, List, map}
use Rattle.std.specs.List.{range_with_len}
use Rattle.dm_rows.specs.declared.messages.Message.TheVariants.{DelayEvent}
use Rattle.dm_feed.specs.declared.grammar.Line.{Line}
use Rattle.dm_feed.specs.declared.grammar.Line.TheVariants.{Say}
use Rattle.dm_gen.specs.Draws.{draw_at}

-- a line takes two draws, the event and then the delay; lines are numbered from 0
abbrev pub feed_line : ℕ → ℕ → ℕ → Line
feed_line number trains line =
    Say (DelayEvent (record { 0 = draw_at number (2 * line + 1) (20 * trains) + 1 }) (draw_at number (2 * line + 2) 900 + 1))

unfoldable pub feed_of : ℕ → ℕ → List Line
feed_of number trains = map (feed_line number trains) (range_with_len 0 500)
