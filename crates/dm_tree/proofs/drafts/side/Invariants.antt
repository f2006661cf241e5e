use Rattle.std.specs.Prelude.{◌++◌, ◌∷◌, []}
use Rattle.dm_tree.specs.Inside.Assembling.{IsSide}
use Rattle.dm_tree.proofs.drafts.side.Given as goal

abbrev pub invariant-loop-i : goal.invariant-loop-i
invariant-loop-i l = IsSide l.leaves (l.path ++ l.decision ∷ []) l.group l.places.items l.i
