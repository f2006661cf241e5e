use Rattle.std.proofs.Common.{ℕ, ◌<◌, slice_index_or}
use Rattle.dm_order.specs.Orders.{GoesForward}
use Rattle.dm_order.proofs.lists.Lists.first_behind.Given as goal

abbrev pub invariant-loop-a : goal.invariant-loop-a
invariant-loop-a l = (k d : ℕ) → k < l.a-index → GoesForward l.net l.self.places.ranks.items (slice_index_or l.arcs k d)
