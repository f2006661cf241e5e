-- Held activities can be met exactly where they have no cycle.
use Rattle.std.proofs.Common.{◌≡◌, ℕ, ◌+◌, ◌<◌, ◌≤◌, List, length, map, Option, None, IsTrue, true, false, arith, refl, Bool, cond, inl, inr, sym}
use Rattle.std.specs.Prelude.{◌⊎◌}
use Rattle.std.specs.List.{range_with_len}
use Rattle.std.proofs.lemmas.List.FromFn.{get_or-map-range_with_len, length-map-range_with_len}
use Rattle.dm_graph.specs.Arcs.{Binds, BindsIn}
use Rattle.dm_graph.specs.Graph.{HasPositiveCycles}
use Rattle.dm_graph.proofs.Rounds.{round, round_is_least}
use Rattle.dm_graph.proofs.Timetables.{met_has_no_cycle}
use Rattle.dm_graph.proofs.Transfers.{positive_beyond, least_same_times}
use Rattle.dm_network.specs.Net.{Net, activity_at, is_headway}
use Rattle.dm_network.specs.Held.{arcs_of}
use Rattle.dm_network.specs.Start.{IsNetwork, IsFormed, is_start_active, binds_at_start}
use Rattle.dm_rows.specs.Rows.{RowsValue}
use Rattle.dm_rows.specs.Timetable.{span_of, time_at, graph_holding}
use Rattle.dm_rows.specs.Laws.{BindsAtStartOrTakesTime, MetExactlyWithoutCycle, LeastExistsWithoutCycle}
use Rattle.dm_rows.proofs.AsGraph.{to_graph, back_list, back_list_meets, least_from_graph}

-- what is no headway has no pair, and binds at the start
binds_without_pair : (net : Net) (tail lower delay : ℕ) (place pair : Option ℕ) (b : Bool) → pair ≡ cond b place None → (b ≡ true → 1 ≤ lower) →
    IsTrue (binds_at_start net pair tail) ⊎ (1 ≤ lower + delay)
binds_without_pair net tail lower delay place pair true is apart = inr (let e : 1 ≤ lower = apart refl in omega arith)
binds_without_pair net tail lower delay place pair false is apart = inl (rw is refl)

pub binds_at_start_or_takes_time : BindsAtStartOrTakesTime
binds_at_start_or_takes_time net rows a formed below =
    binds_without_pair net (activity_at net a).tail (activity_at net a).lower _ _ (activity_at net a).pair (is_headway (activity_at net a).kind)
    (formed.is_paired.belongs a below) (formed.headways_are_apart a below)

each_arc : (net : Net) (rows : RowsValue) (held : ℕ → Bool) → IsFormed net → (a : ℕ) → Binds (arcs_of net held) a →
    (0 < span_of net rows a) ⊎ BindsIn (arcs_of net held) (arcs_of net (is_start_active net)) a
each_arc net rows held formed a binds =
    elim (binds_at_start_or_takes_time net rows a formed binds.is_arc) [
      | inl starts ↦ inr (record {
        binds = record { is_arc = binds.is_arc; is_held = starts; from_event = binds.from_event; to_event = binds.to_event };
        same_tail = refl;
        same_head = refl;
      })
      | inr takes ↦ inl (omega arith)
    ]

pub cycles_are_positive : (net : Net) (rows : RowsValue) (held : ℕ → Bool) → IsNetwork net → HasPositiveCycles (graph_holding net rows held)
cycles_are_positive net rows held network =
    positive_beyond (graph_holding net rows held) (arcs_of net (is_start_active net)) (each_arc net rows held network.formed) network.no_start_cycle

pub held_is_met_exactly_without_cycle : MetExactlyWithoutCycle
held_is_met_exactly_without_cycle net rows held network enters = (
  λ met. met_has_no_cycle (graph_holding net rows held) (time_at met.0) (cycles_are_positive net rows held network) (to_graph net rows held met.0 met.1),
  λ none.
      let least = round_is_least (graph_holding net rows held) none in (
        back_list net rows (round (graph_holding net rows held) (length net.events)),
        back_list_meets net rows held _ network.formed.ends_are_known enters least.meets,
      ),
)

as_list : (ℕ → ℕ) → ℕ → List ℕ
as_list x n = map x (range_with_len 0 n)

as_list-at : (x : ℕ → ℕ) (n i : ℕ) → i < n → x i ≡ time_at (as_list x n) i
unfolding as_list
as_list-at x n i below = sym (get_or-map-range_with_len x 0 n i i 0 below (omega arith))

as_list-length : (x : ℕ → ℕ) (n : ℕ) → length (as_list x n) ≡ n
unfolding as_list
as_list-length x n = length-map-range_with_len x 0 n

pub least_exists_without_cycle : LeastExistsWithoutCycle
least_exists_without_cycle net rows held known enters none =
    let x : ℕ → ℕ = round (graph_holding net rows held) (length net.events) in (
      as_list x (length net.events),
      least_from_graph net rows held (as_list x (length net.events)) known (as_list-length x (length net.events)) enters
          (least_same_times (graph_holding net rows held) x (time_at (as_list x (length net.events))) (as_list-at x (length net.events))
          (round_is_least (graph_holding net rows held) none)),
    )
