-- The graph that constraints give: its bounds, its orders and cycles, and the times and marks of a computation from scratch.
use Rattle.std.proofs.Common.{◌≡◌, ℕ, zero, suc, ◌<◌, Bool, true, List, [], ◌∷◌, length, replicate, refl, ap, ◌∙◌, arith, slice_index}
use Rattle.dm_graph.specs.Arcs.{Arcs, Chain, IsCycle}
use Rattle.dm_graph.specs.Arrays.{AreRanks}
use Rattle.dm_graph.specs.Graph.{Graph}
use Rattle.dm_network.specs.Net.{Net, IsWithinLimits}
use Rattle.dm_settle.specs.Constraints.{ConstraintsValue, AreWithinLimits, IsBounded, graph_given}
use Rattle.dm_marks.specs.Marked.{is_marked}
use Rattle.dm_settle.specs.Settling.{MarksUnsettled}

pub given_is_bounded : (net : Net) (given : ConstraintsValue) → IsWithinLimits net → AreWithinLimits given.floors given.spans → IsBounded (graph_given net given)
given_is_bounded net given within limits = record {
  few = within.events;
  floors = λ e lt. limits.of_events e;
  spans = λ a binds. limits.of_activities a;
}

-- where every place is marked, no event needs to have its time
marked_in : (n k : ℕ) → k < n → is_marked (replicate n true) k ≡ true
marked_in zero k lt = absurd (omega arith)
marked_in (suc n) zero lt = refl
marked_in (suc n) (suc k) lt = marked_in n k (omega arith)

pub all_marked : (g : Graph) (order ranks times : List ℕ) (marks : List Bool) → AreRanks g.shape.events order ranks → marks ≡ replicate g.shape.events true →
    length marks ≡ g.shape.events → length times ≡ g.shape.events → MarksUnsettled g ranks marks times
all_marked g order ranks times marks ranked are as_many as_many_times = record {
  as_many_marks = as_many;
  as_many_times = as_many_times;
  settled = λ e lt clear.
      let marked : is_marked marks (slice_index ranks e) ≡ true =
      ap (λ (ms : List Bool). is_marked ms (slice_index ranks e)) are ∙ marked_in g.shape.events (slice_index ranks e) (ranked.has_place e lt) in
      absurd cc;
}

-- a cycle of held activities names activities alone
chain_names : (g : Arcs) (i : ℕ) (chain : List ℕ) (j : ℕ) → Chain g i chain j → (k : ℕ) → k < length chain → slice_index chain k < g.arcs
chain_names g i [] j c k lt = absurd (omega arith)
chain_names g i (a ∷ rest) j c zero lt = c.0.is_arc
chain_names g i (a ∷ rest) j c (suc k) lt = chain_names g (g.head a) rest j c.2 k (omega arith)

pub cycle_names : (g : Arcs) (cycle : List ℕ) → IsCycle g cycle → (k : ℕ) → k < length cycle → slice_index cycle k < g.arcs
cycle_names g [] c k lt = absurd c
cycle_names g (a ∷ rest) c k lt = chain_names g (g.tail a) (a ∷ rest) (g.tail a) c k lt
