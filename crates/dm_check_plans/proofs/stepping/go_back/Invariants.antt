use Rattle.std.proofs.Common.{length}
use Rattle.dm_check_plans.specs.RelaxedProblems.{IsRelaxedProblemOf}
use Rattle.dm_check_plans.proofs.stepping.go_back.Given as goal

abbrev pub invariant-loop-decision : goal.invariant-loop-decision
invariant-loop-decision l = IsRelaxedProblemOf l.net l.rows l.problem

abbrev pub decreases-loop-decision : goal.decreases-loop-decision
decreases-loop-decision l = length l.problem.path
