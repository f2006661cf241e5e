use Rattle.std.proofs.Common.{length}
use Rattle.dm_lintim.specs.Inside.Reader.{SplitsPlainly, records_of}
use Rattle.dm_lintim.specs.Inside.Rows.{HasRows}
use Rattle.dm_lintim.specs.Pieces.{split_records}
use Rattle.dm_lintim.proofs.rows.read_records.Given as goal

abbrev pub invariant-loop-rows : goal.invariant-loop-rows
invariant-loop-rows g l =
    HasRows g.R.Row.is_known g.R.Row.is_row l.columns (split_records l.bytes) (records_of l.reader) l.rows.items × SplitsPlainly l.reader

abbrev pub decreases-loop-rows : goal.decreases-loop-rows
decreases-loop-rows g l = length (records_of l.reader)
