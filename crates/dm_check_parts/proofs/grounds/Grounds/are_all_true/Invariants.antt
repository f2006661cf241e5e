use Rattle.std.proofs.Common.{drop}
use Rattle.dm_check_plans.specs.RelaxedProblems.{IsRelaxedProblemOf}
use Rattle.dm_check_plans.specs.Visiting.{IsLeftToVisit}
use Rattle.dm_check_parts.specs.Inside.Grounds.{task_of}
use Rattle.dm_check_parts.specs.Inside.Nodes.{IsTruePartNode}
use Rattle.dm_check_parts.proofs.grounds.Grounds.are_all_true.Given as goal

abbrev pub invariant-loop-node : goal.invariant-loop-node
invariant-loop-node l = record {
  problem : IsRelaxedProblemOf l.self.net.now l.self.rows.now l.problem;
  left : IsLeftToVisit (IsTruePartNode (task_of l.self) l.share) l.nodes (drop l.node-index l.nodes) l.problem.path;
}
