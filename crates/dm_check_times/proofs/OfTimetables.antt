-- A timetable that is least for its lists is least for the rows that these agree with.
use Rattle.std.proofs.Common.{◌≡◌, ℕ, ◌^◌, List, Bool, false, length, sym, subst, ◌∙◌, arith, slice_index, Result, Ok, Err}
use Rattle.std.specs.Prelude.{OnOk, OnErr}
use Rattle.dm_graph.specs.Arcs.{HasNoCycle as HasNoCycleOfArcs}
use Rattle.dm_graph.specs.Graph.{IsLeast as IsLeastOfGraph}
use Rattle.dm_network.specs.Net.{Net, IsWithinLimits}
use Rattle.dm_network.specs.Held.{arcs_of, is_held}
use Rattle.dm_network.specs.Start.{IsNetwork}
use Rattle.dm_rows.specs.Active.{is_active, HasNoCycle}
use Rattle.dm_rows.specs.Rows.{RowsValue, RowsAreWithinLimits}
use Rattle.dm_rows.specs.Timetable.{IsLeast, floor_of}
use Rattle.dm_rows.proofs.AsGraph.{active_enter_no_passed}
use Rattle.dm_check_times.specs.Binding.{graph_with, AreBindings, AreFlags, AreSpansOf, AreFloorsOf, AreBelowLimit}
use Rattle.dm_check_times.specs.Timetables.{KeptTimetableValue, IsRoomOf, IsTimetableOf, IsSettledFor, IsLeastNow, AgreesWith, AreAtMost, KeepsSpans}
use Rattle.dm_marks.specs.Marked.{is_marked}
use Rattle.dm_check_times.proofs.Renewing.{least_follows}
use Rattle.dm_check_times.proofs.Spreading.{true_false}
use Rattle.dm_check_times.proofs.OfRows.{least_over_floors, least_holding_rows, no_cycle_of_rows, cycle_of_rows, times_are_below}

pub agrees_same : (net : Net) (rows : RowsValue) (old new : KeptTimetableValue) → new.held ≡ old.held → new.spans ≡ old.spans → new.floors ≡ old.floors → new.clock ≡ old.clock → AgreesWith net rows old → AgreesWith net rows new
agrees_same net rows old new held spans floors clock agrees = record {
  held = subst (λ (xs : List Bool). AreFlags net (is_active net rows) xs) (sym held) agrees.held;
  spans = subst (λ (xs : List ℕ). AreSpansOf net rows xs) (sym spans) agrees.spans;
  floors = subst (λ (xs : List ℕ). AreFloorsOf net rows xs) (sym floors) agrees.floors;
  clock = clock ∙ agrees.clock;
}

pub with_clock : (net : Net) (t : KeptTimetableValue) (clock : ℕ) → IsTimetableOf net t → IsTimetableOf net (record t { clock = clock })
with_clock net t clock was = record {
  room = record { held = was.room.held; spans = was.room.spans; floors = was.room.floors; times = was.room.times; stale = was.room.stale; due = was.room.due };
  bindings = was.bindings;
  early = was.early;
  early_floors = was.early_floors;
  follows = was.follows;
  all_due = was.all_due;
}

module _ (net : Net) (rows : RowsValue) (t : KeptTimetableValue) (agrees : AgreesWith net rows t) where
  with_floors : IsLeastNow net t → IsLeastOfGraph (graph_with net t.held t.spans (floor_of net rows)) (slice_index t.times)
  with_floors now = least_over_floors net rows t.held t.spans t.floors t.times agrees.floors now

  module _ (network : IsNetwork net) where
    pub rows_least : length t.times ≡ length net.events → IsLeastNow net t → IsLeast net rows t.times
    rows_least size now =
        least_holding_rows net rows (is_active net rows) t.held t.spans agrees.held agrees.spans t.times network.formed.ends_are_known size (active_enter_no_passed net rows) (with_floors now)

    pub rows_free : IsLeastNow net t → HasNoCycle net rows
    rows_free now = no_cycle_of_rows net rows (is_active net rows) t.held t.spans agrees.held agrees.spans network (slice_index t.times) (with_floors now)

    pub rows_below : IsWithinLimits net → RowsAreWithinLimits rows → length t.times ≡ length net.events → IsLeastNow net t → AreBelowLimit t.times
    rows_below few within size now = times_are_below net rows (is_active net rows) t.held t.spans agrees.held agrees.spans network few within t.times size (with_floors now)

  pub rows_cyclic : (HasNoCycleOfArcs (arcs_of net (is_held t.held)) → ⊥) → HasNoCycle net rows → ⊥
  rows_cyclic some none = cycle_of_rows net rows (is_active net rows) t.held t.spans agrees.held agrees.spans some none

abbrev pub value : List Bool → List ℕ → List ℕ → List ℕ → List Bool → List Bool → ℕ → KeptTimetableValue
value held spans floors times stale due clock = record { held = held; spans = spans; floors = floors; times = times; stale = stale; due = due; clock = clock }

pub settled : (net : Net) (rows : RowsValue) (t : KeptTimetableValue) → IsNetwork net → IsWithinLimits net → RowsAreWithinLimits rows → IsRoomOf net t → AreBindings net t.held t.spans → AreAtMost t.floors (2 ^ 38) →
    AgreesWith net rows t → ((e : ℕ) → is_marked t.stale e ≡ false) → IsLeastNow net t → IsSettledFor net rows t
settled net rows t network few within room bindings early_floors agrees none now =
    let below = rows_below net rows t agrees network few within room.times now in
    record {
      timetable = record {
        room = room;
        bindings = bindings;
        early = λ i. let b = below i in omega arith;
        early_floors = early_floors;
        follows = least_follows net t.held t.spans t.floors t.times t.stale now;
        all_due = λ e is. true_false is (none e);
      };
      agrees = agrees;
      least = rows_least net rows t agrees network room.times now;
      early = below;
      no_cycle = rows_free net rows t agrees network now;
    }

module _ {A B : Type 0} (result : Result A B) (net : Net) (rows : RowsValue) (network : IsNetwork net) (few : IsWithinLimits net) (within : RowsAreWithinLimits rows)
    (held given : List Bool) (spans spans_given floors floors_given : List ℕ) (same : given ≡ held) (same_spans : spans_given ≡ spans) (same_floors : floors_given ≡ floors) (clock : ℕ) where
  pub settled_ok : (times written : List ℕ) (stale due : List Bool) → written ≡ times → IsRoomOf net (value held spans floors times stale due clock) → AreBindings net held spans → AreAtMost floors (2 ^ 38) →
      AgreesWith net rows (value held spans floors times stale due clock) → ((e : ℕ) → is_marked stale e ≡ false) → OnOk result (IsLeastOfGraph (graph_with net given spans_given (slice_index floors_given)) (slice_index times)) →
      OnOk result (IsSettledFor net rows (value held spans floors written stale due clock))
  settled_ok times written stale due is room bindings early_floors agrees none least = by result least
    where
      now : IsLeastOfGraph (graph_with net given spans_given (slice_index floors_given)) (slice_index times) → IsLeastNow net (value held spans floors times stale due clock)
      now l =
          subst (λ (f : List ℕ). IsLeastOfGraph (graph_with net held spans (slice_index f)) (slice_index times)) same_floors
          (subst (λ (s : List ℕ). IsLeastOfGraph (graph_with net held s (slice_index floors_given)) (slice_index times)) same_spans
          (subst (λ (h : List Bool). IsLeastOfGraph (graph_with net h spans_given (slice_index floors_given)) (slice_index times)) same l))

      by : (r : Result A B) → OnOk r (IsLeastOfGraph (graph_with net given spans_given (slice_index floors_given)) (slice_index times)) → OnOk r (IsSettledFor net rows (value held spans floors written stale due clock))
      by (Ok a) l =
          subst (λ (x : List ℕ). IsSettledFor net rows (value held spans floors x stale due clock)) (sym is)
          (settled net rows (value held spans floors times stale due clock) network few within room bindings early_floors agrees none (now l))
      by (Err b) l = tt

  pub settled_err : (times : List ℕ) (stale due : List Bool) → AgreesWith net rows (value held spans floors times stale due clock) → OnErr result (HasNoCycleOfArcs (arcs_of net (is_held given)) → ⊥) → OnErr result (HasNoCycle net rows → ⊥)
  settled_err times stale due agrees some = by result some
    where
      by : (r : Result A B) → OnErr r (HasNoCycleOfArcs (arcs_of net (is_held given)) → ⊥) → OnErr r (HasNoCycle net rows → ⊥)
      by (Ok a) s = tt
      by (Err b) s = rows_cyclic net rows (value held spans floors times stale due clock) agrees (subst (λ (h : List Bool). HasNoCycleOfArcs (arcs_of net (is_held h)) → ⊥) same s)

-- ---- times that have followed what is held

module _ {A B : Type 0} (result : Result A B) (net : Net) (rows : RowsValue) where
  pub followed_ok : IsNetwork net → IsWithinLimits net → RowsAreWithinLimits rows → (old new : KeptTimetableValue) → IsTimetableOf net old → AgreesWith net rows old → IsRoomOf net new → new.held ≡ old.held → KeepsSpans old new →
      ((e : ℕ) → is_marked new.stale e ≡ false) → OnOk result (IsLeastNow net new) → OnOk result (IsSettledFor net rows new)
  followed_ok network few within old new was agrees room held keeps none least = by result least
    where
      bindings : AreBindings net new.held new.spans
      bindings = subst (λ (h : List Bool). AreBindings net h new.spans) (sym held) (subst (λ (s : List ℕ). AreBindings net old.held s) (sym keeps.spans) was.bindings)

      by : (r : Result A B) → OnOk r (IsLeastNow net new) → OnOk r (IsSettledFor net rows new)
      by (Ok a) now = settled net rows new network few within room bindings (subst (λ (f : List ℕ). AreAtMost f (2 ^ 38)) (sym keeps.floors) was.early_floors) (agrees_same net rows old new held keeps.spans keeps.floors keeps.clock agrees) none now
      by (Err b) now = tt

  pub followed_err : (old : KeptTimetableValue) → AgreesWith net rows old → OnErr result (HasNoCycleOfArcs (arcs_of net (is_held old.held)) → ⊥) → OnErr result (HasNoCycle net rows → ⊥)
  followed_err old agrees some = by result some
    where
      by : (r : Result A B) → OnErr r (HasNoCycleOfArcs (arcs_of net (is_held old.held)) → ⊥) → OnErr r (HasNoCycle net rows → ⊥)
      by (Ok a) s = tt
      by (Err b) s = rows_cyclic net rows old agrees s
