use Rattle.dm_live.specs.Inside.Taking.{HasTaken}
use Rattle.dm_live.proofs.taking.add_out_of.Given as goal

abbrev pub invariant-loop-a : goal.invariant-loop-a
invariant-loop-a l = HasTaken l.net l.constraints l.event l.out_of l.a-index l.initial.order l.order
