use Rattle.std.proofs.Common.{ℕ, drop}
use Rattle.dm_tree.specs.Plans.{whole_task}
use Rattle.dm_check_plans.specs.RelaxedProblems.{IsRelaxedProblemOf}
use Rattle.dm_check_plans.specs.Visiting.{IsLeftToVisit}
use Rattle.dm_check_plans.specs.Inside.Visiting.{IsTrueNode}
use Rattle.dm_check_plans.proofs.grounds.Grounds.are_all_true.Given as goal

abbrev pub invariant-loop-node : goal.invariant-loop-node
invariant-loop-node l = record {
  problem : IsRelaxedProblemOf l.self.net.now l.self.rows.now l.problem;
  left : (budget : ℕ) → IsLeftToVisit (IsTrueNode (whole_task l.self.net.now l.self.rows.now l.self.penalty budget) l.self.plan) l.nodes (drop l.node-index l.nodes) l.problem.path;
}
