use Rattle.std.specs.Prelude.{◌≡◌, ◌≤◌, ◌*◌, ◌^◌, sum_by, take}
use Rattle.dm_evaluate.specs.Evaluator.{times_of}
use Rattle.dm_tree.specs.Relaxed.{relaxed_cost_of}
use Rattle.dm_parts.specs.Parts.{shares_of}
use Rattle.dm_parts.specs.Shares.{within}
use Rattle.dm_part_plans.proofs.gathering.cost_of_shares.Given as goal

abbrev pub invariant-loop-part : goal.invariant-loop-part
invariant-loop-part l =
    record {
      sum : l.sum ≡ sum_by (λ share. relaxed_cost_of (within l.net share) l.fn.evaluator.rows l.fn.evaluator.path
          (times_of l.fn.evaluator) l.penalty) (take l.part-index (shares_of l.fn.parts));
      low : l.sum ≤ l.part-index * 2 ^ 100;
    }
