-- What a generated day comes to after its feed.
use Rattle.std.specs.Prelude.{ℕ, ◌≡◌, List, [], length, map, sum}
use Rattle.dm_feed.specs.declared.grammar.Line.TheVariants.{Say}
use Rattle.dm_gen.specs.Trains.{events_of}
use Rattle.dm_gen.specs.Activities.{activities_of}
use Rattle.dm_gen.specs.Feed.{feed_of}
use Rattle.dm_network.specs.Build.{IsBuiltFrom}
use Rattle.dm_network.specs.Net.{Net}
use Rattle.dm_report.specs.declared.summaries.Summary.{Summary}
use Rattle.dm_rows.specs.declared.messages.Entry.{Entry}
use Rattle.dm_rows.specs.Cost.{cost_of}
use Rattle.dm_rows.specs.Decide.{free_choices_of}
use Rattle.dm_rows.specs.History.{rows_at, IsLegal}
use Rattle.dm_rows.specs.Rows.{RowsValue, start_rows_of}
use Rattle.dm_rows.specs.Timetable.{IsLeast}

-- The rows are those after a legal history of a day that starts without delays, whose messages are the lines of the feed.
pub record AreRowsAfterFeed (number trains : ℕ) (net : Net) (history : List Entry) (rows : RowsValue) : Type 0 where
  pub lines : map (λ entry. Say entry.message) history ≡ feed_of number trains
  pub legal : IsLegal net (start_rows_of net [] []) history
  pub are : rows ≡ rows_at net (start_rows_of net [] []) history (length history)

-- The summary tells how many events and activities the network of so many trains has, how many choices are free after the
-- feed of the number, how many entries that has made, what the least timetable of the rows after it costs at the penalty,
-- and the sum of its times.
pub record IsSummaryOf (number trains penalty : ℕ) (summary : Summary) : Type 0 where
  pub net : Net
  pub built : IsBuiltFrom (events_of trains) (activities_of trains) net
  pub history : List Entry
  pub rows : RowsValue
  pub after_feed : AreRowsAfterFeed number trains net history rows
  pub times : List ℕ
  pub least : IsLeast net rows times
  pub events : summary.events ≡ length net.events
  pub activities : summary.activities ≡ length net.activities
  pub choices : summary.choices ≡ length (free_choices_of net rows)
  pub entries : summary.entries ≡ length history
  pub cost : summary.cost ≡ cost_of net rows times penalty
  pub sum : summary.sum ≡ sum times
