use Rattle.dm_live.specs.Inside.Aligning.{HoldsNoOthersBefore}
use Rattle.dm_live.proofs.aligning.release_others.Given as goal

abbrev pub invariant-loop-a : goal.invariant-loop-a
invariant-loop-a l = HoldsNoOthersBefore l.net l.order l.constraints l.a
