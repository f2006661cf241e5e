-- What contracts see of a history.
use Rattle.std.specs.Prelude.{ℕ, List}
use Rattle.dm_rows.specs.declared.messages.Entry.{Entry}

-- the entries in their order, and for how many further ones there is room
pub record HistoryValue : Type 0 where
  pub entries : List Entry
  pub spare : ℕ
