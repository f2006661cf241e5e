use Rattle.std.specs.Prelude.{◌≡◌, ◌≤◌, ◌*◌}
use Rattle.dm_base.specs.declared.limits.TheConstants.{WEIGHT}
use Rattle.dm_part_plans.specs.Inside.Sums.{missed_up_to}
use Rattle.dm_part_plans.proofs.costing.missed.Given as goal

abbrev pub invariant-loop-id : goal.invariant-loop-id
invariant-loop-id l = record { sum : l.sum ≡ missed_up_to l.net l.share l.rows l.times l.id-index; low : l.sum ≤ l.id-index * WEIGHT }
