use Rattle.std.proofs.Common.{◌-◌, length}
use Rattle.dm_paths.specs.Decisions.{is_unmet_pair}
use Rattle.dm_evaluate.specs.Inside.Marking.{Clears, NoneBetween}
use Rattle.dm_evaluate.proofs.violations.first_pair.Given as goal

abbrev pub invariant-loop-p : goal.invariant-loop-p
invariant-loop-p g l = record {
  cleared : Clears (is_unmet_pair l.net l.rows l.times) l.initial.marks l.marks;
  none : NoneBetween l.pairs (is_unmet_pair l.net l.rows l.times) 0 l.from;
}

abbrev pub decreases-loop-p : goal.decreases-loop-p
decreases-loop-p g l = length l.pairs - l.from
