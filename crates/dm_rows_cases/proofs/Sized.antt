-- Entries leave the sizes of rows as they were.
use Rattle.std.proofs.Common.{◌≡◌, List, length, sym, subst}
use Rattle.std.specs.Prelude.{take}
use Rattle.dm_network.specs.Net.{Net}
use Rattle.dm_rows.specs.declared.messages.Entry.{Entry}
use Rattle.dm_rows.specs.History.{rows_at}
use Rattle.dm_rows.specs.Rows.{RowsValue, IsSized}
use Rattle.dm_table.proofs.Kept.{entries_keep_sizes}

-- the rows after entries are of the network of the rows before
pub replayed_sizes : (net : Net) (start rows : RowsValue) (entries : List Entry) → rows ≡ rows_at net start entries (length entries) →
    IsSized net start → IsSized net rows
replayed_sizes net start rows entries is sized = subst (IsSized net) (sym is) (entries_keep_sizes net start (take (length entries) entries) sized)
