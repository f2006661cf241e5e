use Rattle.dm_network.specs.Net.{activity_at}
use Rattle.dm_part_bounds.specs.OnePart.{changes}
use Rattle.dm_part_plans.proofs.Listing.{IsListed}
use Rattle.dm_part_plans.proofs.alone.all_changes.Given as goal

abbrev pub invariant-loop-a : goal.invariant-loop-a
invariant-loop-a l = IsListed (changes l.net) (λ a. (activity_at l.net a).id) l.a l.ids.items
