use Rattle.std.proofs.Common.{drop}
use Rattle.dm_lintim.specs.Columns.{FirstMissing, HasAll}
use Rattle.dm_lintim.specs.declared.columns.Column.{Column}
use Rattle.dm_lintim.proofs.words.first_missing.Given as goal

abbrev pub invariant-loop-column : goal.invariant-loop-column
invariant-loop-column l =
    let rest = drop l.column-index l.required in
    (HasAll l.layout rest → HasAll l.layout l.required) × ((c : Column) → FirstMissing l.layout rest c → FirstMissing l.layout l.required c)
