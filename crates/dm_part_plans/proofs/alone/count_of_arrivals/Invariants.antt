use Rattle.std.specs.Prelude.{◌≡◌, ◌≤◌}
use Rattle.dm_part_bounds.specs.OnePart.{arrives}
use Rattle.dm_part_plans.proofs.Listing.{counted}
use Rattle.dm_part_plans.proofs.alone.count_of_arrivals.Given as goal

abbrev pub invariant-loop-i : goal.invariant-loop-i
invariant-loop-i l = record { count : l.count ≡ counted (arrives l.net) l.i; low : l.count ≤ l.i }
