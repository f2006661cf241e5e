-- What is least over flags and spans is least for the rows that they are of.
use Rattle.std.proofs.Common.{◌≡◌, ℕ, ◌+◌, ◌-◌, ◌^◌, ◌<◌, ◌≤◌, List, length, Bool, Option, Some, None, refl, sym, ◌∙◌, arith, slice_index, inl, inr}
use Rattle.std.specs.Prelude.{unwrap_or, max}
use Rattle.std.specs.Option.{ForSome}
use Rattle.std.proofs.lemmas.Bool.{cases_lt}
use Rattle.std.proofs.lemmas.List.{get_or_past}
use Rattle.dm_base.specs.declared.limits.TheConstants.{PASSED_TIME, BOUND, DELAY}
use Rattle.dm_graph.specs.Arcs.{Binds, BindsIn, HasNoCycle}
use Rattle.dm_graph.specs.Graph.{IsLeast, AsksNoMore}
use Rattle.dm_graph.proofs.Timetables.{same_is_least_alike, met_has_no_cycle}
use Rattle.dm_graph.proofs.Transfers.{cycle_carries}
use Rattle.dm_graph.proofs.Rounds.{least_is_bounded}
use Rattle.dm_network.specs.Net.{Net, EndsAreKnown, IsWithinLimits}
use Rattle.dm_network.specs.Held.{arcs_of, is_held, HasNoCycleOf}
use Rattle.dm_network.specs.Start.{IsNetwork}
use Rattle.dm_rows.specs.Rows.{RowsValue, RowsAreWithinLimits, passed_at}
use Rattle.dm_rows.specs.Timetable.{IsLeastHolding, floor_of, span_of, graph_holding, planned_time}
use Rattle.dm_rows.specs.Laws.{EntersNoPassed}
use Rattle.dm_rows.proofs.AsGraph.{least_from_graph}
use Rattle.dm_rows.proofs.Holding.{cycles_are_positive}
use Rattle.dm_check_times.specs.Binding.{graph_with, AreBindings, AreFlags, AreSpansOf, AreFloorsOf, AreBelowLimit}
use Rattle.dm_check_times.specs.Inside.Rising.{AreWithin}

-- ---- limits

floor_within : (o : Option ℕ) (planned clock : ℕ) → ForSome o (λ t. t ≤ PASSED_TIME) → planned ≤ PASSED_TIME → clock ≤ PASSED_TIME →
    unwrap_or o (max planned clock) ≤ PASSED_TIME
floor_within None planned clock passed p c = omega arith
floor_within (Some t) planned clock passed p c = passed t refl

pub floor_is_within : (net : Net) (rows : RowsValue) → IsWithinLimits net → RowsAreWithinLimits rows → (e : ℕ) → floor_of net rows e ≤ PASSED_TIME
floor_is_within net rows few within e =
    let time = few.times e in
    let delay = within.of_events e in
    let planned : planned_time net rows e ≤ PASSED_TIME = omega arith in
    floor_within (passed_at rows e) (planned_time net rows e) rows.clock (within.of_passed e) planned within.of_clock

pub span_is_short : (net : Net) (rows : RowsValue) → IsWithinLimits net → RowsAreWithinLimits rows → (a : ℕ) → span_of net rows a ≤ BOUND + DELAY
span_is_short net rows few within a = let bound = few.bounds a in let delay = within.of_activities a in omega arith

-- times that are least over floors of the rows are so over what the rows give
pub least_over_floors : (net : Net) (rows : RowsValue) (held : List Bool) (spans floors times : List ℕ) → AreFloorsOf net rows floors → IsLeast (graph_with net held spans (slice_index floors)) (slice_index times) →
    IsLeast (graph_with net held spans (floor_of net rows)) (slice_index times)
least_over_floors net rows held spans floors times are least =
    same_is_least_alike (graph_with net held spans (slice_index floors)) (graph_with net held spans (floor_of net rows)) (slice_index times)
    (record { same_events = refl; floors = λ e below. let f = are.each e below in omega arith; binds = λ a b. record { binds = b; same_tail = refl; same_head = refl }; spans = λ a b. omega arith })
    (record { same_events = refl; floors = λ e below. let f = are.each e below in omega arith; binds = λ a b. record { binds = b; same_tail = refl; same_head = refl }; spans = λ a b. omega arith })
    least

-- numbers in a list are at most this, where those at its places are
pub all_within : (xs : List ℕ) (n most : ℕ) → length xs ≡ n → ((i : ℕ) → i < n → slice_index xs i ≤ most) → (i : ℕ) → slice_index xs i ≤ most
all_within xs n most as_many each i =
    elim (cases_lt i n) [
      | inl below ↦ each i below
      | inr past ↦ let e : slice_index xs i ≡ 0 = get_or_past xs i 0 (omega arith) in omega arith
    ]

pub spans_are_bindings : (net : Net) (rows : RowsValue) (held : List Bool) (spans : List ℕ) → IsWithinLimits net → RowsAreWithinLimits rows →
    length held ≡ length net.activities → AreSpansOf net rows spans → AreBindings net held spans
spans_are_bindings net rows held spans few within flags are = record {
  flags = flags;
  as_many = are.as_many;
  short = all_within spans (length net.activities) (BOUND + DELAY) are.as_many (λ a below. let e = are.each a below in let s = span_is_short net rows few within a in omega arith);
}

pub floors_are_early : (net : Net) (rows : RowsValue) (times : List ℕ) → IsWithinLimits net → RowsAreWithinLimits rows → AreFloorsOf net rows times → AreWithin times (2 ^ 38)
floors_are_early net rows times few within are =
    all_within times (length net.events) (2 ^ 38) are.as_many (λ i below. let e = are.each i below in let f = floor_is_within net rows few within i in omega arith)

-- ---- the graph

module _ (net : Net) (rows : RowsValue) (holds : ℕ → Bool) (held : List Bool) (spans : List ℕ) (flags : AreFlags net holds held) (are : AreSpansOf net rows spans) where
  there : (a : ℕ) → Binds (arcs_of net (is_held held)) a → BindsIn (arcs_of net (is_held held)) (arcs_of net holds) a
  there a b = record {
    binds = record { is_arc = b.is_arc; is_held = sym (flags a b.is_arc) ∙ b.is_held; from_event = b.from_event; to_event = b.to_event };
    same_tail = refl;
    same_head = refl;
  }

  back : (a : ℕ) → Binds (arcs_of net holds) a → BindsIn (arcs_of net holds) (arcs_of net (is_held held)) a
  back a b = record {
    binds = record { is_arc = b.is_arc; is_held = flags a b.is_arc ∙ b.is_held; from_event = b.from_event; to_event = b.to_event };
    same_tail = refl;
    same_head = refl;
  }

  asks_no_more : AsksNoMore (graph_with net held spans (floor_of net rows)) (graph_holding net rows holds)
  asks_no_more = record {
    same_events = refl;
    floors = λ e below. omega arith;
    binds = there;
    spans = λ a b. let is = are.each a b.is_arc in omega arith;
  }

  asks_no_less : AsksNoMore (graph_holding net rows holds) (graph_with net held spans (floor_of net rows))
  asks_no_less = record {
    same_events = refl;
    floors = λ e below. omega arith;
    binds = back;
    spans = λ a b. let is = are.each a b.is_arc in omega arith;
  }

  pub least_of_rows : (x : ℕ → ℕ) → IsLeast (graph_with net held spans (floor_of net rows)) x → IsLeast (graph_holding net rows holds) x
  least_of_rows x least = same_is_least_alike (graph_with net held spans (floor_of net rows)) (graph_holding net rows holds) x asks_no_more asks_no_less least

  pub least_holding_rows : (times : List ℕ) → EndsAreKnown net → length times ≡ length net.events → EntersNoPassed net rows holds →
      IsLeast (graph_with net held spans (floor_of net rows)) (slice_index times) → IsLeastHolding net rows holds times
  least_holding_rows times known size enters least = least_from_graph net rows holds times known size enters (least_of_rows (slice_index times) least)

  pub no_cycle_of_rows : IsNetwork net → (x : ℕ → ℕ) → IsLeast (graph_with net held spans (floor_of net rows)) x → HasNoCycleOf net holds
  no_cycle_of_rows network x least = met_has_no_cycle (graph_holding net rows holds) x (cycles_are_positive net rows holds network) (least_of_rows x least).meets

  pub cycle_of_rows : (HasNoCycle (arcs_of net (is_held held)) → ⊥) → HasNoCycleOf net holds → ⊥
  cycle_of_rows some none = some (λ cycle c. none cycle (cycle_carries (arcs_of net (is_held held)) (arcs_of net holds) there cycle c))

  pub times_are_below : IsNetwork net → IsWithinLimits net → RowsAreWithinLimits rows → (times : List ℕ) → length times ≡ length net.events →
      IsLeast (graph_with net held spans (floor_of net rows)) (slice_index times) → AreBelowLimit times
  times_are_below network few within times size least =
      let bounded = least_is_bounded (graph_holding net rows holds) (slice_index times) PASSED_TIME (BOUND + DELAY)
      (λ e below. floor_is_within net rows few within e) (λ a b. span_is_short net rows few within a)
      (no_cycle_of_rows network (slice_index times) least) (least_of_rows (slice_index times) least) in
      let events = few.events in
      λ i. let w = all_within times (length net.events) (2 ^ 38 - 1) size (λ e below. let b = bounded e below in omega (arith, b, events)) i in omega arith

-- ---- costs
