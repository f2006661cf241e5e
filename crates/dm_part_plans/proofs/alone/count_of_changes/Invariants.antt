use Rattle.std.specs.Prelude.{◌≡◌, ◌≤◌}
use Rattle.dm_part_bounds.specs.OnePart.{changes}
use Rattle.dm_part_plans.proofs.Listing.{counted}
use Rattle.dm_part_plans.proofs.alone.count_of_changes.Given as goal

abbrev pub invariant-loop-a : goal.invariant-loop-a
invariant-loop-a l = record { count : l.count ≡ counted (changes l.net) l.a; low : l.count ≤ l.a }
