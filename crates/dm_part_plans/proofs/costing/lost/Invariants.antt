use Rattle.std.specs.Prelude.{◌≡◌, ◌≤◌, ◌*◌}
use Rattle.dm_base.specs.declared.limits.TheConstants.{WEIGHT}
use Rattle.dm_part_plans.specs.Inside.Sums.{lost_up_to}
use Rattle.dm_part_plans.proofs.costing.lost.Given as goal

abbrev pub invariant-loop-id : goal.invariant-loop-id
invariant-loop-id l = record { sum : l.sum ≡ lost_up_to l.net l.share l.rows l.path l.id-index; low : l.sum ≤ l.id-index * WEIGHT }
