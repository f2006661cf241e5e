use Rattle.std.proofs.Common.{◌+◌, ◌*◌}
use Rattle.dm_base.specs.declared.ids.ActId.{ActId}
use Rattle.dm_base.specs.declared.limits.TheConstants.{WEIGHT}
use Rattle.dm_network.specs.Net.{activity_place}
use Rattle.dm_rows.specs.Cost.{charged_weight, missed_weight}
use Rattle.dm_rows.specs.Relax.{is_relaxed_lost}
use Rattle.dm_parts.specs.Sums.{at_place}
use Rattle.dm_check_plans.specs.RelaxedProblems.{times_of}
use Rattle.dm_check_parts.proofs.Summed.{sum_next, sum_all}
use Rattle.dm_check_parts.proofs.grounds.Grounds.weights_of.Goals as goal

pub loop-id-preserved : goal.loop-id-preserved
loop-id-preserved c =
    sum_next (λ (id : ActId). at_place (charged_weight c.args.self.now.net.now (is_relaxed_lost c.args.self.now.net.now c.args.self.now.rows.now c.args.problem.now.path)) (activity_place c.args.self.now.net.now id) + at_place (missed_weight c.args.self.now.net.now c.args.self.now.rows.now (times_of c.args.problem.now)) (activity_place c.args.self.now.net.now id)) c.args.ids.now (2 * WEIGHT) c.loop-id.id-index c.loop-id.total c.weight_at-total.result _
    c.loop-id-test.true c.weight_at-total.ensures.weight c.weight_at-total.ensures.limit c.loop-id.invariant

pub returns-clause-weights : goal.returns-clause-weights
returns-clause-weights c =
    sum_all (λ (id : ActId). at_place (charged_weight c.args.self.now.net.now (is_relaxed_lost c.args.self.now.net.now c.args.self.now.rows.now c.args.problem.now.path)) (activity_place c.args.self.now.net.now id) + at_place (missed_weight c.args.self.now.net.now c.args.self.now.rows.now (times_of c.args.problem.now)) (activity_place c.args.self.now.net.now id)) c.args.ids.now (2 * WEIGHT) c.loop-id.id-index c.loop-id.total
    c.loop-id-test.false c.loop-id.invariant
