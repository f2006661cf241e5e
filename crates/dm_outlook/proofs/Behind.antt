-- Rows that stand behind entries.
use Rattle.std.proofs.Common.{◌≡◌, ℕ, List}
use Rattle.dm_network.specs.Net.{Net}
use Rattle.dm_rows.specs.declared.messages.Entry.{Entry}
use Rattle.dm_rows.specs.History.{rows_at}
use Rattle.dm_rows.specs.Rows.{RowsValue, IsSized}

-- the rows after the first n entries
pub record StandBehind (net : Net) (start : RowsValue) (entries : List Entry) (n : ℕ) (rows : RowsValue) : Type 0 where
  pub sized : IsSized net rows
  pub are : rows ≡ rows_at net start entries n
