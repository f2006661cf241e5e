use Rattle.std.proofs.Common.{◌≡◌, ◌+◌, take}
use Rattle.std.specs.Prelude.{sum_by}
use Rattle.dm_tree.specs.Relaxed.{relaxed_cost_of}
use Rattle.dm_parts.specs.declared.parts.Part.{Part}
use Rattle.dm_parts.specs.Shares.{within}
use Rattle.dm_check_plans.specs.RelaxedProblems.{times_of}
use Rattle.dm_check_parts.proofs.grounds.Grounds.cost_beside.Given as goal

abbrev pub invariant-loop-part : goal.invariant-loop-part
invariant-loop-part l =
    l.left + sum_by (λ (part : Part). relaxed_cost_of (within l.self.net.now part.share) l.self.rows.now l.problem.path (times_of l.problem) l.self.penalty) (take l.part-index l.parts)
    ≡ relaxed_cost_of l.self.net.now l.self.rows.now l.problem.path (times_of l.problem) l.self.penalty
