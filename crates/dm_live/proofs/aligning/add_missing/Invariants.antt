use Rattle.dm_live.specs.Inside.Aligning.{HoldsAlikeBefore}
use Rattle.dm_live.proofs.aligning.add_missing.Given as goal

abbrev pub invariant-loop-a : goal.invariant-loop-a
invariant-loop-a l = HoldsAlikeBefore l.net l.order l.constraints l.a
