use Rattle.std.proofs.Common.{slice_index}
use Rattle.dm_settle.specs.Constraints.{graph_given}
use Rattle.dm_settle.specs.Inside.Sweep.{HasMarked, pulling}
use Rattle.dm_settle.proofs.sweep.Sweep.mark_heads.Given as goal

abbrev pub invariant-loop-a : goal.invariant-loop-a
invariant-loop-a l =
    HasMarked (pulling (graph_given l.self.net.now l.to.constraints.now) l.to.times.now l.to.event l.to.time) (slice_index l.self.ranks.now)
    l.to.event l.to.out_of.now l.a-index l.initial.marks l.marks
