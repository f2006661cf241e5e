use Rattle.dm_check_plans.specs.RelaxedProblems.{times_of}
use Rattle.dm_check_parts.proofs.Summed.{cost_is}
use Rattle.dm_check_parts.proofs.grounds.Grounds.cost_within.Goals as goal

pub returns-clause-cost : goal.returns-clause-cost
returns-clause-cost c =
    cost_is c.args.self.now.net.now c.args.self.now.rows.now c.args.problem.now.path c.args.share.now (times_of c.args.problem.now) c.args.self.now.penalty
    c.lateness_of-late.result c.cancelled_of.result c.weights_of.result c.reveal.ensures.network c.requires.share
    (rw (c.times.ensures, c.as_slice-arrivals.ensures) at c.lateness_of-late.ensures.cost)
    (rw c.as_slice-arrivals.ensures at c.cancelled_of.ensures.weights) (rw c.as_slice.ensures at c.weights_of.ensures.weights)
