use Rattle.std.proofs.Common.{◌≡◌, Some, map, take}
use Rattle.dm_lintim.proofs.layout.Layout.of.Given as goal

abbrev pub invariant-loop-column : goal.invariant-loop-column
invariant-loop-column l = l.layout ≡ map Some (take l.column-index l.columns)
