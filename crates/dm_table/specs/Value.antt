-- What contracts see of a table, and what holds of it.
use Rattle.std.specs.Prelude.{ℕ, ◌≡◌, ◌<◌, ◌≤◌, ◌⊎◌, Bool, false, List, length, slice_index_or, Contains}
use Rattle.dm_base.specs.declared.limits.TheConstants.{PENALTY}
use Rattle.dm_network.specs.Net.{Net}
use Rattle.dm_rows.specs.declared.messages.Entry.{Entry}
use Rattle.dm_rows.specs.declared.messages.Message.{Message}
use Rattle.dm_rows.specs.declared.messages.Message.TheVariants.{Adopt}
use Rattle.dm_rows.specs.Active.{HasNoCycle}
use Rattle.dm_rows.specs.History.{rows_at, IsLegal}
use Rattle.dm_rows.specs.Rows.{RowsValue, IsSized}
use Rattle.dm_rows.specs.Timetable.{IsLeast}

-- the network, the rows at the start and the penalty of a day, its entries so far, the rows after them and their least
-- timetable, and for how many further entries, and for how many decisions of an entry, there is room
pub record TableValue : Type 0 where
  pub network : Net
  pub start : RowsValue
  pub penalty : ℕ
  pub history : List Entry
  pub rows : RowsValue
  pub times : List ℕ
  pub spare_entries : ℕ
  pub spare_decisions : ℕ

-- The history is legal, the rows are those after all its entries, they have no cycle, and the times are their least
-- timetable.
pub record IsTable (table : TableValue) : Type 0 where
  pub sized : IsSized table.network table.start
  pub within : table.penalty ≤ PENALTY
  pub legal : IsLegal table.network table.start table.history
  pub replayed : table.rows ≡ rows_at table.network table.start table.history (length table.history)
  pub no_cycle : HasNoCycle table.network table.rows
  pub least : IsLeast table.network table.rows table.times

-- how many decisions a message has
abbrev pub decisions_in : Message → ℕ
decisions_in (Adopt ds) = length ds
decisions_in _ = 0

-- there is room for an entry with this message
pub record HasRoomFor (table : TableValue) (m : Message) : Type 0 where
  pub entries : 1 ≤ table.spare_entries
  pub decisions : decisions_in m ≤ table.spare_decisions

-- the places of all events are listed that are cancelled otherwise than last, where something is known of last
abbrev pub ListsMarked : List Bool → List Bool → List ℕ → Type 0
ListsMarked last cancelled places =
    (i : ℕ) → i < length last → (slice_index_or last i false ≡ slice_index_or cancelled i false) ⊎ Contains places i
