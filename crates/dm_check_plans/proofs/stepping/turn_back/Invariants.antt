use Rattle.std.proofs.Common.{◌≡◌, length}
use Rattle.dm_tree.specs.Pending.{pending}
use Rattle.dm_check_plans.specs.RelaxedProblems.{IsRelaxedProblemOf}
use Rattle.dm_check_plans.proofs.stepping.turn_back.Given as goal

abbrev pub invariant-loop-decision : goal.invariant-loop-decision
invariant-loop-decision l = record {
  problem : IsRelaxedProblemOf l.net l.rows l.problem;
  same : pending l.initial.problem.path ≡ pending l.problem.path;
}

abbrev pub decreases-loop-decision : goal.decreases-loop-decision
decreases-loop-decision l = length l.problem.path
