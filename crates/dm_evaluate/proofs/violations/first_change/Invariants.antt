use Rattle.std.proofs.Common.{◌-◌, length}
use Rattle.dm_rows.specs.Cost.{comes_too_early}
use Rattle.dm_evaluate.specs.Inside.Marking.{Clears, NoneBetween}
use Rattle.dm_evaluate.proofs.violations.first_change.Given as goal

abbrev pub invariant-loop-a : goal.invariant-loop-a
invariant-loop-a l = record {
  cleared : Clears (comes_too_early l.net l.rows l.times) l.initial.marks l.marks;
  none : NoneBetween l.changes (comes_too_early l.net l.rows l.times) 0 l.from;
}

abbrev pub decreases-loop-a : goal.decreases-loop-a
decreases-loop-a l = length l.changes - l.from
