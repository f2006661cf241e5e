-- The rows' own definitions agree with those of the graph that they make, whichever activities are held.
use Rattle.std.proofs.Common.{◌≡◌, ℕ, ◌+◌, ◌<◌, ◌≤◌, List, length, map, Option, Some, None, IsTrue, true, false, arith, refl, sym, Bool, if◌then◌else◌, ◌∙◌}
use Rattle.std.specs.Prelude.{unwrap_or, is_some, max}
use Rattle.std.specs.List.{range_with_len}
use Rattle.std.proofs.lemmas.List.FromFn.{get_or-map-range_with_len, length-map-range_with_len}
use Rattle.dm_graph.specs.Graph.{Meets as MeetsGraph, IsLeast as IsLeastOfGraph}
use Rattle.dm_graph.proofs.Transfers.{meets_same_times}
use Rattle.dm_network.specs.Net.{Net, EndsAreKnown, activity_at}
use Rattle.dm_rows.specs.Rows.{RowsValue, passed_at}
use Rattle.dm_rows.specs.Active.{is_active}
use Rattle.dm_rows.specs.Decide.{with_decisions}
use Rattle.dm_rows.specs.Relax.{is_of_undecided}
use Rattle.dm_rows.specs.Timetable.{time_at, planned_time, floor_of, span_of, MeetsHolding, IsLeastHolding, graph_holding}
use Rattle.dm_rows.specs.Laws.{KeepsPassed, EntersNoPassed, ActiveEnterNoPassed, RelaxedEnterNoPassed, MeetsHoldingAsGraph, LeastHoldingAsGraph, MeetsAsGraph, LeastAsGraph}
use Rattle.dm_rows.proofs.Running.{active_is_open}

-- a floor is the passed time, or else the larger of planned time and clock
pub floor_passed : (o : Option ℕ) (planned t : ℕ) → o ≡ Some t → unwrap_or o planned ≡ t
floor_passed o planned t e = rw e

pub floor_planned : (o : Option ℕ) (planned : ℕ) → o ≡ None → unwrap_or o planned ≡ planned
floor_planned o planned e = rw e

above_both : (planned clock x : ℕ) → planned ≤ x → clock ≤ x → max planned clock ≤ x
above_both planned clock x p c = omega arith

above_floor : (o : Option ℕ) (planned clock x : ℕ) → ((t : ℕ) → o ≡ Some t → x ≡ t) → (o ≡ None → planned ≤ x) → (o ≡ None → clock ≤ x) →
    unwrap_or o (max planned clock) ≤ x
above_floor None planned clock x passed above late = above_both planned clock x (above refl) (late refl)
above_floor (Some t) planned clock x passed above late = let e : x ≡ t = passed t refl in omega arith

planned_below : (o : Option ℕ) (planned clock x : ℕ) → o ≡ None → unwrap_or o (max planned clock) ≤ x → planned ≤ x
planned_below None planned clock x e h = omega arith
planned_below (Some t) planned clock x e h = cc

clock_below : (o : Option ℕ) (planned clock x : ℕ) → o ≡ None → unwrap_or o (max planned clock) ≤ x → clock ≤ x
clock_below None planned clock x e h = omega arith
clock_below (Some t) planned clock x e h = cc

-- a timetable of the rows is one of the graph
pub to_graph : (net : Net) (rows : RowsValue) (held : ℕ → Bool) (x : List ℕ) → MeetsHolding net rows held x →
    MeetsGraph (graph_holding net rows held) (time_at x)
to_graph net rows held x m =
    record {
      above = λ e below. above_floor (passed_at rows e) (planned_time net rows e) rows.clock (time_at x e) (λ t is. m.passed e t below is)
          (λ is. m.above e below is) (λ is. m.clock e below is);
      along = λ a binds. m.along a binds.is_arc binds.is_held;
    }

-- a timetable of the graph that keeps the passed times is one of the rows
pub from_graph : (net : Net) (rows : RowsValue) (held : ℕ → Bool) (x : List ℕ) → EndsAreKnown net → length x ≡ length net.events →
    KeepsPassed net rows (time_at x) → MeetsGraph (graph_holding net rows held) (time_at x) → MeetsHolding net rows held x
from_graph net rows held x known size keeps m =
    record {
      size = size;
      passed = keeps;
      above = λ i below is. planned_below (passed_at rows i) (planned_time net rows i) rows.clock (time_at x i) is (m.above i below);
      clock = λ i below is. clock_below (passed_at rows i) (planned_time net rows i) rows.clock (time_at x i) is (m.above i below);
      along = λ a below holds. m.along a (record {
        is_arc = below;
        is_held = holds;
        from_event = known.tails a below;
        to_event = known.heads a below;
      });
    }

none_if_free : (o : Option ℕ) → is_some o ≡ false → o ≡ None
none_if_free None h = refl
none_if_free (Some t) h = cc

-- the head of an active activity has not passed
pub head_is_free : (net : Net) (rows : RowsValue) (a : ℕ) → IsTrue (is_active net rows a) →
    passed_at rows (activity_at net a).head ≡ None
head_is_free net rows a h = none_if_free (passed_at rows (activity_at net a).head) (active_is_open net rows a h).0

pub active_enter_no_passed : ActiveEnterNoPassed
active_enter_no_passed net rows a below h = head_is_free net rows a h

not_undecided : (b : Bool) (active : Bool) → IsTrue (if b then false else active) → IsTrue active
not_undecided true active h = cc
not_undecided false active h = h

pub relaxed_enter_no_passed : RelaxedEnterNoPassed
relaxed_enter_no_passed net rows path a below h =
    head_is_free net (with_decisions net rows path) a
    (not_undecided (is_of_undecided net rows path a (activity_at net a).pair) (is_active net (with_decisions net rows path) a) h)

back_above : (o : Option ℕ) (planned y : ℕ) → unwrap_or o planned ≤ y → unwrap_or o planned ≤ unwrap_or o y
back_above None planned y h = h
back_above (Some t) planned y h = omega arith

back_below : (o : Option ℕ) (planned y : ℕ) → unwrap_or o planned ≤ y → unwrap_or o y ≤ y
back_below None planned y h = omega arith
back_below (Some t) planned y h = h

-- set back, a timetable of the graph still meets it
pub back_meets : (net : Net) (rows : RowsValue) (held : ℕ → Bool) (y : ℕ → ℕ) → EntersNoPassed net rows held →
    MeetsGraph (graph_holding net rows held) y → MeetsGraph (graph_holding net rows held) (λ i. unwrap_or (passed_at rows i) (y i))
back_meets net rows held y enters m =
    record {
      above = λ e below. back_above (passed_at rows e) (max (planned_time net rows e) rows.clock) (y e) (m.above e below);
      along = λ a binds.
          let head : ℕ = (activity_at net a).head in
          let tail : ℕ = (activity_at net a).tail in
          let free : passed_at rows head ≡ None = enters a binds.is_arc binds.is_held in
          let same : unwrap_or (passed_at rows head) (y head) ≡ y head = floor_planned (passed_at rows head) (y head) free in
          let low : unwrap_or (passed_at rows tail) (y tail) ≤ y tail =
          back_below (passed_at rows tail) (max (planned_time net rows tail) rows.clock) (y tail) (m.above tail binds.from_event) in
          let along : y tail + span_of net rows a ≤ y head = m.along a binds in
          omega arith;
    }

-- set back, it is a timetable of the rows, as a list
pub back_list : Net → RowsValue → (ℕ → ℕ) → List ℕ
back_list net rows y = map (λ i. unwrap_or (passed_at rows i) (y i)) (range_with_len 0 (length net.events))

back_list-at : (net : Net) (rows : RowsValue) (y : ℕ → ℕ) (i : ℕ) → i < length net.events →
    time_at (back_list net rows y) i ≡ unwrap_or (passed_at rows i) (y i)
unfolding back_list
back_list-at net rows y i below =
    get_or-map-range_with_len (λ j. unwrap_or (passed_at rows j) (y j)) 0 (length net.events) i i 0 below (omega arith)

pub back_list-length : (net : Net) (rows : RowsValue) (y : ℕ → ℕ) → length (back_list net rows y) ≡ length net.events
unfolding back_list
back_list-length net rows y = length-map-range_with_len (λ j. unwrap_or (passed_at rows j) (y j)) 0 (length net.events)

pub back_list_meets : (net : Net) (rows : RowsValue) (held : ℕ → Bool) (y : ℕ → ℕ) → EndsAreKnown net → EntersNoPassed net rows held →
    MeetsGraph (graph_holding net rows held) y → MeetsHolding net rows held (back_list net rows y)
back_list_meets net rows held y known enters m =
    from_graph net rows held (back_list net rows y) known (back_list-length net rows y)
    (λ i t below is. let e = back_list-at net rows y i below in let f = floor_passed (passed_at rows i) (y i) t is in e ∙ f)
    (meets_same_times (graph_holding net rows held) _ (time_at (back_list net rows y)) (λ e below. sym (back_list-at net rows y e below)) (back_meets net rows held y enters m))

pub least_to_graph : (net : Net) (rows : RowsValue) (held : ℕ → Bool) (x : List ℕ) → EndsAreKnown net → EntersNoPassed net rows held →
    IsLeastHolding net rows held x → IsLeastOfGraph (graph_holding net rows held) (time_at x)
least_to_graph net rows held x known enters least =
    record {
      meets = to_graph net rows held x least.meets;
      earliest = λ y m e below.
          let first : time_at x e ≤ time_at (back_list net rows y) e =
          least.earliest (back_list net rows y) (back_list_meets net rows held y known enters m) e below in
          let at : time_at (back_list net rows y) e ≡ unwrap_or (passed_at rows e) (y e) = back_list-at net rows y e below in
          let low : unwrap_or (passed_at rows e) (y e) ≤ y e =
          back_below (passed_at rows e) (max (planned_time net rows e) rows.clock) (y e) (m.above e below) in
          omega arith;
    }

-- least for the graph keeps the passed times
pub least_keeps : (net : Net) (rows : RowsValue) (held : ℕ → Bool) (x : ℕ → ℕ) → EntersNoPassed net rows held →
    IsLeastOfGraph (graph_holding net rows held) x → KeepsPassed net rows x
least_keeps net rows held x enters least i t below is =
    let high : x i ≤ unwrap_or (passed_at rows i) (x i) = least.earliest _ (back_meets net rows held x enters least.meets) i below in
    let back : unwrap_or (passed_at rows i) (x i) ≡ t = floor_passed (passed_at rows i) (x i) t is in
    let low : floor_of net rows i ≤ x i = least.meets.above i below in
    let floor : floor_of net rows i ≡ t = floor_passed (passed_at rows i) (max (planned_time net rows i) rows.clock) t is in
    omega arith

pub least_from_graph : (net : Net) (rows : RowsValue) (held : ℕ → Bool) (x : List ℕ) → EndsAreKnown net → length x ≡ length net.events →
    EntersNoPassed net rows held → IsLeastOfGraph (graph_holding net rows held) (time_at x) → IsLeastHolding net rows held x
least_from_graph net rows held x known size enters least =
    record {
      meets = from_graph net rows held x known size (least_keeps net rows held (time_at x) enters least) least.meets;
      earliest = λ y m i below. least.earliest (time_at y) (to_graph net rows held y m) i below;
    }

pub meets_holding_as_graph : MeetsHoldingAsGraph
meets_holding_as_graph net rows held x known size =
    (λ m. (to_graph net rows held x m, m.passed), λ both. from_graph net rows held x known size both.1 both.0)

pub least_holding_as_graph : LeastHoldingAsGraph
least_holding_as_graph net rows held x known size enters =
    (least_to_graph net rows held x known enters, least_from_graph net rows held x known size enters)

pub meets_as_graph : MeetsAsGraph
meets_as_graph net rows x = meets_holding_as_graph net rows (is_active net rows) x

pub least_as_graph : LeastAsGraph
least_as_graph net rows x known size =
    least_holding_as_graph net rows (is_active net rows) x known size (active_enter_no_passed net rows)
