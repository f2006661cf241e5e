use Rattle.dm_network.specs.Net.{event_at}
use Rattle.dm_part_bounds.specs.OnePart.{arrives}
use Rattle.dm_part_plans.proofs.Listing.{IsListed}
use Rattle.dm_part_plans.proofs.alone.all_arrivals.Given as goal

abbrev pub invariant-loop-i : goal.invariant-loop-i
invariant-loop-i l = IsListed (arrives l.net) (λ i. (event_at l.net i).id) l.i l.ids.items
