-- Times that follow what is held: how they begin from others, and what is known of rows where they are least.
use Rattle.std.proofs.Common.{◌≡◌, ℕ, ◌^◌, Bool, false, List, length, slice_index, refl, sym, subst, ◌∙◌, inl, inr, arith, ap, replicate}
use Rattle.std.proofs.lemmas.Bool.{both_ways, cases_lt}
use Rattle.std.proofs.lemmas.List.{length-replicate, get_or-replicate, get_or_past}
use Rattle.dm_graph.specs.Arcs.{HasNoCycle}
use Rattle.dm_graph.specs.Graph.{IsLeast}
use Rattle.dm_network.specs.Net.{Net, IsWithinLimits}
use Rattle.dm_network.specs.Held.{arcs_of, is_held, HasNoCycleOf}
use Rattle.dm_network.specs.Start.{IsNetwork}
use Rattle.dm_rows.specs.Laws.{EntersNoPassed}
use Rattle.dm_rows.specs.Rows.{RowsValue, RowsAreWithinLimits}
use Rattle.dm_rows.specs.Timetable.{floor_of, IsLeastHolding}
use Rattle.dm_check_times.specs.Binding.{graph_with, AreBindings, AreFlags, AreSpansOf, AreFloorsOf, AreBelowLimit}
use Rattle.dm_check_times.specs.Timetables.{KeptTimetableValue, AreAtMost, AreLeastFor, IsLeastNow}
use Rattle.dm_check_times.specs.Timetables.{IsRoomOf as IsKeptRoomOf, KeepsSpans as KeepsKeptSpans}
use Rattle.dm_marks.specs.Marked.{is_marked}
use Rattle.dm_check_times.proofs.OfRows.{least_over_floors, times_are_below, least_holding_rows, no_cycle_of_rows, cycle_of_rows}
use Rattle.dm_check_times.proofs.Renewing.{least_follows}
use Rattle.dm_check_times.proofs.Spreading.{true_false}
use Rattle.dm_check_plans.specs.Inside.Timetables.{KnownValue, IsKnown, HeldTimetableValue, IsTimetableOf, IsRoomOf, AreOfRows, KeepsSpans}

-- the floors are least where nothing is held
pub floors_least : (net : Net) (held : List Bool) (spans floors : List ℕ) → ((a : ℕ) → is_held held a ≡ false) → IsLeast (graph_with net held spans (slice_index floors)) (slice_index floors)
floors_least net held spans floors none = record {
  meets = record {
    above = λ e below. omega arith;
    along = λ a binds. absurd (both_ways (is_held held a) (none a) binds.is_held);
  };
  earliest = λ y meets e below. meets.above e below;
}

-- the spans and the floors are still those of the rows
pub still_of_rows : (net : Net) (rows : RowsValue) (old timetable : HeldTimetableValue) → AreOfRows net rows old → KeepsSpans old timetable → AreOfRows net rows timetable
still_of_rows net rows old timetable are keeps = record {
  spans = subst (λ (x : List ℕ). AreSpansOf net rows x) (sym keeps.spans) are.spans;
  floors = subst (λ (x : List ℕ). AreFloorsOf net rows x) (sym keeps.floors) are.floors;
}

none_held : (n a : ℕ) → is_held (replicate n false) a ≡ false
none_held n a = elim (cases_lt a n) [
  | inl lt ↦ get_or-replicate n a false false lt
  | inr past ↦ get_or_past (replicate n false) a false (let l = length-replicate n false in omega arith)
]

-- the floors are known where nothing is held
pub floors_known : (net : Net) (kept : KeptTimetableValue) (known : KnownValue) (n : ℕ) → n ≡ length net.activities → known.held ≡ replicate n false → known.times ≡ kept.floors →
    length kept.floors ≡ length net.events → AreAtMost kept.floors (2 ^ 38) → IsKnown net kept known
floors_known net kept known n count held times size early = record {
  flags = ap (λ (f : List Bool). length f) held ∙ (length-replicate n false ∙ count);
  as_many = ap (λ (x : List ℕ). length x) times ∙ size;
  least = subst (λ (x : List ℕ). IsLeast (graph_with net known.held kept.spans (slice_index kept.floors)) (slice_index x)) (sym times)
      (floors_least net known.held kept.spans kept.floors (λ a. ap (λ (f : List Bool). is_held f a) held ∙ none_held n a));
  early = subst (λ (x : List ℕ). AreAtMost x (2 ^ 38)) (sym times) early;
}

-- what is known of flags and times is known of others that are the same
pub known_given : (net : Net) (kept : KeptTimetableValue) (known : KnownValue) (held : List Bool) (times : List ℕ) → held ≡ known.held → times ≡ known.times → IsKnown net kept known → AreLeastFor net kept.spans kept.floors held times
known_given net kept known held times same same_times is =
    subst (λ (x : List ℕ). AreLeastFor net kept.spans kept.floors held x) (sym same_times) (subst (λ (f : List Bool). AreLeastFor net kept.spans kept.floors f known.times) (sym same) is)

-- and where the spans and the floors are the same
pub still_known : (net : Net) (old new : KeptTimetableValue) (known : KnownValue) → KeepsKeptSpans old new → IsKnown net old known → IsKnown net new known
still_known net old new known keeps is =
    subst (λ (x : List ℕ). AreLeastFor net x new.floors known.held known.times) (sym keeps.spans) (subst (λ (x : List ℕ). AreLeastFor net old.spans x known.held known.times) (sym keeps.floors) is)

pub still_room : (net : Net) (old : HeldTimetableValue) (new : KeptTimetableValue) → IsTimetableOf net old → IsKeptRoomOf net new → new.held ≡ old.kept.held → KeepsKeptSpans old.kept new → IsRoomOf net (record { kept = new; first = old.first })
still_room net old new was room held keeps = record {
  room = room;
  bindings = subst (λ (h : List Bool). AreBindings net h new.spans) (sym held) (subst (λ (x : List ℕ). AreBindings net old.kept.held x) (sym keeps.spans) was.timetable.bindings);
  early_floors = subst (λ (x : List ℕ). AreAtMost x (2 ^ 38)) (sym keeps.floors) was.timetable.early_floors;
  first = still_known net old.kept new old.first keeps was.first;
}

module _ (net : Net) (rows : RowsValue) (t : HeldTimetableValue) (are : AreOfRows net rows t) where
  over_floors : IsLeastNow net t.kept → IsLeast (graph_with net t.kept.held t.kept.spans (floor_of net rows)) (slice_index t.kept.times)
  over_floors now = least_over_floors net rows t.kept.held t.kept.spans t.kept.floors t.kept.times are.floors now

  module _ (network : IsNetwork net) where
    pub now_below : IsWithinLimits net → RowsAreWithinLimits rows → length t.kept.times ≡ length net.events → IsLeastNow net t.kept → AreBelowLimit t.kept.times
    now_below few within size now = times_are_below net rows (is_held t.kept.held) t.kept.held t.kept.spans (λ a below. refl) are.spans network few within t.kept.times size (over_floors now)

    pub now_settled : IsWithinLimits net → RowsAreWithinLimits rows → IsRoomOf net t → IsLeastNow net t.kept → ((e : ℕ) → is_marked t.kept.stale e ≡ false) → IsTimetableOf net t
    now_settled few within room now none = record {
      timetable = record {
        room = room.room;
        bindings = room.bindings;
        early = λ i. let b = now_below few within room.room.times now i in omega arith;
        early_floors = room.early_floors;
        follows = least_follows net t.kept.held t.kept.spans t.kept.floors t.kept.times t.kept.stale now;
        all_due = λ e is. true_false is (none e);
      };
      first = room.first;
    }

    module _ (holds : ℕ → Bool) (flags : AreFlags net holds t.kept.held) where
      pub now_least : EntersNoPassed net rows holds → length t.kept.times ≡ length net.events → IsLeastNow net t.kept → IsLeastHolding net rows holds t.kept.times
      now_least enters size now = least_holding_rows net rows holds t.kept.held t.kept.spans flags are.spans t.kept.times network.formed.ends_are_known size enters (over_floors now)

      pub now_acyclic : IsLeastNow net t.kept → HasNoCycleOf net holds
      now_acyclic now = no_cycle_of_rows net rows holds t.kept.held t.kept.spans flags are.spans network (slice_index t.kept.times) (over_floors now)

  pub now_cyclic : (holds : ℕ → Bool) → AreFlags net holds t.kept.held → (HasNoCycle (arcs_of net (is_held t.kept.held)) → ⊥) → HasNoCycleOf net holds → ⊥
  now_cyclic holds flags some = cycle_of_rows net rows holds t.kept.held t.kept.spans flags are.spans some
