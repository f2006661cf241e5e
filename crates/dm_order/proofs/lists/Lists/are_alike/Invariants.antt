use Rattle.std.proofs.Common.{ℕ, ◌<◌, slice_index_or}
use Rattle.dm_order.specs.Inside.Placing.{IsForwardOrAlike}
use Rattle.dm_order.proofs.lists.Lists.are_alike.Given as goal

abbrev pub invariant-loop-a : goal.invariant-loop-a
invariant-loop-a l = (k d : ℕ) → k < l.a-index → IsForwardOrAlike l.net l.self.places.ranks.items l.first (slice_index_or l.arcs k d)
