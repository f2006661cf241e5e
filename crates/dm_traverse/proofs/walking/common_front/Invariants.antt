use Rattle.dm_traverse.specs.Inside.Walking.{AreFronts}
use Rattle.dm_traverse.proofs.walking.common_front.Given as goal

abbrev pub invariant-loop-i : goal.invariant-loop-i
invariant-loop-i l = AreFronts l.one l.other l.i
