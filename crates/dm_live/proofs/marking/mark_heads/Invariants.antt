use Rattle.dm_settle.specs.Constraints.{arcs_given}
use Rattle.dm_settle.specs.Inside.Sweep.{HasMarked}
use Rattle.dm_live.proofs.marking.mark_heads.Given as goal

abbrev pub invariant-loop-a : goal.invariant-loop-a
invariant-loop-a g l = HasMarked (arcs_given l.net l.constraints) (λ e. e) l.event l.a-items l.a-index l.initial.marks l.marks
