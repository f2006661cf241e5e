use Rattle.std.proofs.Common.{◌-◌, length}
use Rattle.dm_live.specs.Inside.Placing.{ArePlacedBefore}
use Rattle.dm_live.proofs.placing.place_marks.Given as goal

abbrev pub invariant-loop-event : goal.invariant-loop-event
invariant-loop-event l = ArePlacedBefore (length l.initial.marks) l.ranks l.initial.marks l.fixed l.marks l.placed l.from

abbrev pub decreases-loop-event : goal.decreases-loop-event
decreases-loop-event l = length l.ranks - l.from
