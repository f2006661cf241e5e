use Rattle.std.proofs.Common.{◌≡◌, ◌+◌, ◌<◌, ◌≤◌, true, length, drop, slice_index}
use Rattle.dm_graph.specs.Arcs.{Chain}
use Rattle.dm_network.specs.Net.{activity_at}
use Rattle.dm_network.specs.Held.{arcs_of, is_held}
use Rattle.dm_order.specs.Inside.Reaching.{is_reached}
use Rattle.dm_order.proofs.way.Way.close.Given as goal

abbrev pub invariant-loop-event : goal.invariant-loop-event
invariant-loop-event l = record {
  is_event : l.event < length l.net.events;
  not_before : l.low ≤ slice_index l.ranks l.event;
  not_behind : slice_index l.ranks l.event ≤ slice_index l.ranks (activity_at l.net l.first).tail;
  reached : is_reached l.causes (slice_index l.ranks l.event) ≡ true;
  chain : Chain (arcs_of l.net (is_held l.held)) l.event (drop l.self.start l.self.arcs.items) (activity_at l.net l.first).tail;
  room : slice_index l.ranks l.event < l.self.start + l.low;
  within : l.self.start ≤ length l.self.arcs.items;
  as_many : length l.self.arcs.items ≡ length l.initial.self.arcs.items;
}

abbrev pub decreases-loop-event : goal.decreases-loop-event
decreases-loop-event l = slice_index l.ranks l.event
