use Rattle.dm_tree.specs.Inside.Assembling.{IsUpTo}
use Rattle.dm_tree.proofs.drafts.every_place.Given as goal

abbrev pub invariant-loop-i : goal.invariant-loop-i
invariant-loop-i l = IsUpTo l.places.items l.i
