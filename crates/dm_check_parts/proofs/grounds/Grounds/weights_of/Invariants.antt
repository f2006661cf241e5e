use Rattle.std.proofs.Common.{◌+◌, ◌*◌}
use Rattle.dm_base.specs.declared.ids.ActId.{ActId}
use Rattle.dm_base.specs.declared.limits.TheConstants.{WEIGHT}
use Rattle.dm_network.specs.Net.{activity_place}
use Rattle.dm_rows.specs.Cost.{charged_weight, missed_weight}
use Rattle.dm_rows.specs.Relax.{is_relaxed_lost}
use Rattle.dm_parts.specs.Sums.{at_place}
use Rattle.dm_check_plans.specs.RelaxedProblems.{times_of}
use Rattle.dm_check_parts.proofs.Summed.{IsSumTo}
use Rattle.dm_check_parts.proofs.grounds.Grounds.weights_of.Given as goal

abbrev pub invariant-loop-id : goal.invariant-loop-id
invariant-loop-id l = IsSumTo (λ (id : ActId). at_place (charged_weight l.self.net.now (is_relaxed_lost l.self.net.now l.self.rows.now l.problem.path)) (activity_place l.self.net.now id) + at_place (missed_weight l.self.net.now l.self.rows.now (times_of l.problem)) (activity_place l.self.net.now id)) l.ids (2 * WEIGHT) l.id-index l.total
