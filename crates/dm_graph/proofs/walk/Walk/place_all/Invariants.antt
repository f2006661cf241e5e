use Rattle.std.proofs.Common.{◌≡◌, ℕ, ◌<◌, length, slice_index}
use Rattle.dm_graph.specs.Inside.Walk.{IsWalk}
use Rattle.dm_graph.proofs.walk.Walk.place_all.Given as goal

abbrev pub invariant-loop-event : goal.invariant-loop-event
invariant-loop-event l = record {
  holds : IsWalk l.by_head l.self;
  is_empty : l.self.top ≡ length l.self.order.items;
  as_many : length l.self.order.items ≡ length l.fn.self.order.items;
  is_end : l.event-end ≡ length l.fn.self.order.items;
  met : (e : ℕ) → e < l.event → slice_index l.self.rank.items e < length l.self.order.items;
}
