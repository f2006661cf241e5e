use Rattle.std.proofs.Common.{drop}
use Rattle.dm_lintim.specs.Files.{IsGood, RefusesFirst}
use Rattle.dm_lintim.specs.Inside.Values.{AreWithin, LeadsTo}
use Rattle.dm_lintim.specs.Inside.Reader.{cells_of}
use Rattle.dm_lintim.specs.declared.fault.FileKind.{FileKind}
use Rattle.dm_lintim.proofs.rows.read_cells.Given as goal

abbrev pub invariant-loop-place : goal.invariant-loop-place
invariant-loop-place g l =
    let fields = cells_of l.fields in
    (IsGood g.R.Row.is_known (drop l.place l.columns) (drop l.place fields) → IsGood g.R.Row.is_known l.columns fields)
    × ((k : FileKind) → RefusesFirst g.R.Row.is_known (drop l.place l.columns) (drop l.place fields) k → RefusesFirst g.R.Row.is_known l.columns fields k)
    × LeadsTo g.R.Row.names l.values.numbers l.values.kind (drop l.place l.columns) (drop l.place fields) l.columns fields
    × AreWithin l.values.numbers
