-- Orders by ranks: a list in which each event has its rank for its place, and ranks that rise along the arcs.
use Rattle.std.proofs.Common.{◌≡◌, ℕ, ◌<◌, List, length, sym, ap, ◌∙◌, arith, Some, slice_index}
use Rattle.std.proofs.lemmas.Grind.{get_or_default_zero}
use Rattle.std.proofs.lemmas.Option.{slice_get_within, get_or_from_slice_get, slice_get-get_or}
use Rattle.dm_graph.specs.Arcs.{Arcs, IsOrder}
use Rattle.dm_graph.specs.Arrays.{AreRanks}
use Rattle.dm_graph.proofs.Chains.{Rises}

-- where the ranks rise along each arc that binds, the list is an order
pub order_of_ranks : (g : Arcs) (order rank : List ℕ) → AreRanks g.events order rank → Rises g (slice_index rank) → IsOrder g order
order_of_ranks g order rank r up =
    let count = r.order_count in
    record {
      as_many = count;
      has_each = λ e lt.
          let place : slice_index rank e < length order = let p = r.has_place e lt in omega arith in
          (slice_index rank e, place, get_or_default_zero order (slice_index rank e) e place ∙ r.stands_there e lt);
      forward = λ a binds i j at_i at_j.
          let rises = up a binds in
          let i_in = slice_get_within order i (g.tail a) at_i in
          let j_in = slice_get_within order j (g.head a) at_j in
          let i_is : slice_index order i ≡ g.tail a = get_or_from_slice_get order i (g.tail a) 0 at_i in
          let j_is : slice_index order j ≡ g.head a = get_or_from_slice_get order j (g.head a) 0 at_j in
          let i_rank : slice_index rank (g.tail a) ≡ i = ap (slice_index rank) (sym i_is) ∙ r.is_ranked i (omega arith) in
          let j_rank : slice_index rank (g.head a) ≡ j = ap (slice_index rank) (sym j_is) ∙ r.is_ranked j (omega arith) in
          omega arith;
    }

-- in an order, the ranks rise along each arc that binds
pub ranks_rise : (g : Arcs) (order rank : List ℕ) → AreRanks g.events order rank → IsOrder g order → Rises g (slice_index rank)
ranks_rise g order rank r is a binds =
    let count = r.order_count in
    let tail_in = r.has_place (g.tail a) binds.from_event in
    let head_in = r.has_place (g.head a) binds.to_event in
    is.forward a binds (slice_index rank (g.tail a)) (slice_index rank (g.head a))
    (slice_get-get_or order (slice_index rank (g.tail a)) 0 (omega arith) ∙ ap Some (r.stands_there (g.tail a) binds.from_event))
    (slice_get-get_or order (slice_index rank (g.head a)) 0 (omega arith) ∙ ap Some (r.stands_there (g.head a) binds.to_event))
