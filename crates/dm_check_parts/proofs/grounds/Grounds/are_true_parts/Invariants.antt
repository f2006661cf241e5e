use Rattle.std.proofs.Common.{take, All}
use Rattle.dm_parts.specs.Parts.{IsTruePart}
use Rattle.dm_check_plans.specs.RelaxedProblems.{IsRelaxedProblemOf}
use Rattle.dm_check_parts.specs.Inside.Grounds.{task_of}
use Rattle.dm_check_parts.proofs.grounds.Grounds.are_true_parts.Given as goal

abbrev pub invariant-loop-part : goal.invariant-loop-part
invariant-loop-part l = record {
  problem : IsRelaxedProblemOf l.self.net.now l.self.rows.now l.problem;
  all : All (IsTruePart (task_of l.self)) (take l.part-index l.parts);
}
