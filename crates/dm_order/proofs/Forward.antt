-- Orders in which the held activities go forward.
use Rattle.std.proofs.Common.{ℕ, Bool, List, length, slice_index}
use Rattle.dm_graph.specs.Arcs.{IsOrder}
use Rattle.dm_graph.specs.Arrays.{AreRanks}
use Rattle.dm_graph.proofs.Ranks.{ranks_rise, order_of_ranks}
use Rattle.dm_graph.proofs.Chains.{no_cycle_where_rank_rises}
use Rattle.dm_network.specs.Net.{Net, EndsAreKnown}
use Rattle.dm_network.specs.Held.{arcs_of, is_held, HasNoCycleOf}
use Rattle.dm_order.specs.Orders.{GoForward}

-- in an order of the held activities, each goes forward
pub order_is_forward : (net : Net) (held : List Bool) (order ranks : List ℕ) → EndsAreKnown net →
    AreRanks (length net.events) order ranks → IsOrder (arcs_of net (is_held held)) order → GoForward net held ranks
order_is_forward net held order ranks known ranked is a lt is_held_a =
    ranks_rise (arcs_of net (is_held held)) order ranks ranked is a
    (record { is_arc = lt; is_held = is_held_a; from_event = known.tails a lt; to_event = known.heads a lt })

-- where each held activity goes forward, the list is an order of them
pub forward_is_order : (net : Net) (held : List Bool) (order ranks : List ℕ) →
    AreRanks (length net.events) order ranks → GoForward net held ranks → IsOrder (arcs_of net (is_held held)) order
forward_is_order net held order ranks ranked forward =
    order_of_ranks (arcs_of net (is_held held)) order ranks ranked (λ a binds. forward a binds.is_arc binds.is_held)

-- where each held activity goes forward, they have no cycle
pub forward_has_no_cycle : (net : Net) (held : List Bool) (ranks : List ℕ) → GoForward net held ranks → HasNoCycleOf net (is_held held)
forward_has_no_cycle net held ranks forward =
    no_cycle_where_rank_rises (arcs_of net (is_held held)) (slice_index ranks) (λ a binds. forward a binds.is_arc binds.is_held)
