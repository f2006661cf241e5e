-- A table that lines are entered in one after the other.
use Rattle.std.specs.Prelude.{ℕ, ◌≡◌, ◌++◌, ◌∷◌, List, [], length, map, None, sum}
use Rattle.dm_feed.specs.declared.grammar.Line.{Line}
use Rattle.dm_feed.specs.declared.grammar.Line.TheVariants.{Say}
use Rattle.dm_base.specs.declared.ids.EventId.{EventId}
use Rattle.dm_rows.specs.declared.messages.Entry.{Entry}
use Rattle.dm_rows.specs.declared.messages.Message.TheVariants.{DelayEvent}
use Rattle.dm_network.specs.Net.{Net}
use Rattle.dm_report.specs.declared.summaries.Summary.{Summary}
use Rattle.dm_rows.specs.Cost.{cost_of}
use Rattle.dm_rows.specs.Decide.{free_choices_of}
use Rattle.dm_rows.specs.Rows.{RowsValue, passed_at, start_rows_of}
use Rattle.dm_table.specs.Value.{TableValue, IsTable}

-- what the entries say, as lines
abbrev pub lines_of : List Entry → List Line
lines_of history = map (λ entry. Say entry.message) history

-- the line delays some event
pub record IsDelay (line : Line) : Type 0 where
  pub event : EventId
  pub delay : ℕ
  pub says : line ≡ Say (DelayEvent event delay)

abbrev pub NonePassed : RowsValue → Type 0
NonePassed rows = (i : ℕ) → passed_at rows i ≡ None

-- a table without entries, of a day of this network that starts without delays
pub record IsOpened (net : Net) (price : ℕ) (table : TableValue) : Type 0 where
  pub network : table.network ≡ net
  pub start : table.start ≡ start_rows_of net [] []
  pub penalty : table.penalty ≡ price
  pub history : table.history ≡ []
  pub rows : table.rows ≡ start_rows_of net [] []

-- a line more was entered, and no event has passed by it
pub record Gains (said : Line) (before now : TableValue) : Type 0 where
  pub network : now.network ≡ before.network
  pub start : now.start ≡ before.start
  pub penalty : now.penalty ≡ before.penalty
  pub line : lines_of now.history ≡ lines_of before.history ++ said ∷ []
  pub passed : now.rows.passed ≡ before.rows.passed

-- these lines were entered in a table that had no entry
pub record HasEntered (before : TableValue) (said : List Line) (now : TableValue) : Type 0 where
  pub network : now.network ≡ before.network
  pub start : now.start ≡ before.start
  pub penalty : now.penalty ≡ before.penalty
  pub lines : lines_of now.history ≡ said
  pub none_passed : NonePassed now.rows

-- what a table tells of its day
pub record IsSummaryIn (table : TableValue) (summary : Summary) : Type 0 where
  pub events : summary.events ≡ length table.network.events
  pub activities : summary.activities ≡ length table.network.activities
  pub choices : summary.choices ≡ length (free_choices_of table.network table.rows)
  pub entries : summary.entries ≡ length table.history
  pub cost : summary.cost ≡ cost_of table.network table.rows table.times table.penalty
  pub sum : summary.sum ≡ sum table.times

-- what a table tells of its day after these lines, of which none had been entered
pub record IsSummaryAfter (before : TableValue) (said : List Line) (summary : Summary) : Type 0 where
  pub table : TableValue
  pub is_table : IsTable table
  pub entered : HasEntered before said table
  pub told : IsSummaryIn table summary

-- what a day of this network that starts without delays comes to after these lines
pub record IsSummaryOver (net : Net) (said : List Line) (penalty : ℕ) (summary : Summary) : Type 0 where
  pub table : TableValue
  pub opened : IsOpened net penalty table
  pub after : IsSummaryAfter table said summary
