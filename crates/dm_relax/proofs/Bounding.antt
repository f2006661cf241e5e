-- The relaxed problem of a path asks no more, and charges for no more, than rows that have all decisions of the path.
use Rattle.std.proofs.Common.{◌≡◌, ℕ, zero, suc, ◌+◌, ◌*◌, ◌<◌, ◌≤◌, Bool, true, false, cond, List, length, Option, Some, None, refl, sym, ap, subst, ◌∙◌, inl, inr, arith}
use Rattle.std.specs.Prelude.{Contains, not, ◌&&◌, ◌||◌, sum_by, is_some}
use Rattle.std.specs.List.{range_with_len}
use Rattle.std.proofs.Math.Nat.{mul-le-mul_left}
use Rattle.std.proofs.lemmas.Bool.{cases_lt, not-true, and_from, and_parts, or_cases, or_left, or_right, ltb-true, lt-ltb}
use Rattle.std.proofs.lemmas.List.{get_or_past}
use Rattle.std.proofs.lemmas.List.Sums.{sum_by-cons}
use Rattle.dm_graph.specs.Arcs.{Binds, BindsIn}
use Rattle.dm_graph.specs.Graph.{AsksNoMore}
use Rattle.dm_graph.proofs.Timetables.{less_is_no_later}
use Rattle.dm_graph.proofs.Transfers.{cycle_carries}
use Rattle.dm_network.specs.Net.{Net, event_at, activity_at, is_change}
use Rattle.dm_network.specs.Held.{arcs_of}
use Rattle.dm_network.specs.Start.{IsNetwork}
use Rattle.dm_network.proofs.Holding.{binds_with}
use Rattle.dm_rows.specs.declared.messages.Decision.{Decision}
use Rattle.dm_rows.specs.Rows.{RowsValue, passed_at, is_cancelled}
use Rattle.dm_rows.specs.Active.{has_passed, is_active, active_arcs, HasNoCycle}
use Rattle.dm_rows.specs.Timetable.{time_at, span_of, IsLeast, graph_holding, graph_of}
use Rattle.dm_rows.specs.Cost.{is_arrival, lateness, event_cost, cancelled_weight, charged_weight, is_lost_change, missed_weight, comes_too_early, cost_of}
use Rattle.dm_rows.specs.Decide.{with_decisions}
use Rattle.dm_rows.specs.Relax.{is_of_undecided, is_undecided_change, is_relaxed_active, is_relaxed_lost}
use Rattle.dm_rows.proofs.AsGraph.{least_to_graph, to_graph, relaxed_enter_no_passed}
use Rattle.dm_tree.specs.Relaxed.{IsRelaxedLeast, relaxed_cost_of, HasNoRelaxedCycle}
use Rattle.dm_paths.proofs.Setting.{DiffersInDecisions, KeepsLocked, HasDecision, differs_in_none, differs_with}
use Rattle.dm_paths.proofs.Agreeing.{active_same, lost_same, span_same, floor_same, has_passed_same, passed_same, cancelled_same}

-- sums over places, place by place
pub sum-le : (f g : ℕ → ℕ) (a n : ℕ) → ((i : ℕ) → a ≤ i → i < a + n → f i ≤ g i) → sum_by f (range_with_len a n) ≤ sum_by g (range_with_len a n)
sum-le f g a zero h = omega arith
sum-le f g a (suc n) h =
    let here : f a ≤ g a = h a (omega arith) (omega arith) in
    let later : sum_by f (range_with_len (a + 1) n) ≤ sum_by g (range_with_len (a + 1) n) =
    sum-le f g (a + 1) n (λ i low high. h i (omega arith) (omega arith)) in
    let e : sum_by f (range_with_len a (suc n)) ≡ f a + sum_by f (range_with_len (a + 1) n) = sum_by-cons f a (range_with_len (a + 1) n) in
    let e' : sum_by g (range_with_len a (suc n)) ≡ g a + sum_by g (range_with_len (a + 1) n) = sum_by-cons g a (range_with_len (a + 1) n) in
    omega arith

pub if_weight : (b c : Bool) (w : ℕ) → (b ≡ true → c ≡ true) → cond b w 0 ≤ cond c w 0
if_weight false c w h = omega arith
if_weight true true w h = omega arith
if_weight true false w h = let e = h refl in cc

pub if_weighted : (b : Bool) (w x y : ℕ) → x ≤ y → cond b (w * x) 0 ≤ cond b (w * y) 0
if_weighted false w x y h = omega arith
if_weighted true w x y h = mul-le-mul_left w h

is_some-at : (o : Option ℕ) → is_some o ≡ true → (t : ℕ) × (o ≡ Some t)
is_some-at None h = cc
is_some-at (Some t) h = (t, refl)

pub held_in_relaxed : (undecided active : Bool) → cond undecided false active ≡ true → (undecided ≡ false) × (active ≡ true)
held_in_relaxed true active h = cc
held_in_relaxed false active h = (refl, h)

module _ (net : Net) (network : IsNetwork net) (rows : RowsValue) (path : List Decision) (s : RowsValue) (over_s : DiffersInDecisions rows s)
    (locks_r : KeepsLocked rows (with_decisions net rows path)) (locks_s : KeepsLocked rows s)
    (has_r : (d : Decision) → Contains path d → HasDecision net (with_decisions net rows path) d) (has_s : (d : Decision) → Contains path d → HasDecision net s d) where
  over_r : DiffersInDecisions rows (with_decisions net rows path)
  over_r = differs_with net rows rows path (differs_in_none rows)

  pub span_agrees : (a : ℕ) → span_of net (with_decisions net rows path) a ≡ span_of net s a
  span_agrees a = span_same rows (with_decisions net rows path) over_r net a ∙ sym (span_same rows s over_s net a)

  pub relaxed_is_active : (a : ℕ) → a < length net.activities → is_relaxed_active net rows path a ≡ true → is_active net s a ≡ true
  relaxed_is_active a below h =
      let both = held_in_relaxed (is_of_undecided net rows path a (activity_at net a).pair) (is_active net (with_decisions net rows path) a) h in
      sym (active_same net network rows path (with_decisions net rows path) s over_r over_s has_r has_s locks_r locks_s a below both.0) ∙ both.1

  there : (a : ℕ) → Binds (arcs_of net (is_relaxed_active net rows path)) a → BindsIn (arcs_of net (is_relaxed_active net rows path)) (active_arcs net s) a
  there = binds_with net (is_relaxed_active net rows path) (is_active net s) relaxed_is_active

  pub asks_no_more : AsksNoMore (graph_holding net (with_decisions net rows path) (is_relaxed_active net rows path)) (graph_of net s)
  asks_no_more = record {
    same_events = refl;
    floors = λ e lt.
        let f = floor_same rows (with_decisions net rows path) over_r net e in
        let g = floor_same rows s over_s net e in
        omega arith;
    binds = there;
    spans = λ a b. let e = span_agrees a in omega arith;
  }

  -- where the rows have no cycle, the relaxed problem has none
  pub relaxed_has_no_cycle : HasNoCycle net s → HasNoRelaxedCycle net rows path
  relaxed_has_no_cycle none cycle c =
      none cycle (cycle_carries (arcs_of net (is_relaxed_active net rows path)) (active_arcs net s) there cycle c)

  -- what the relaxed problem charges for, the rows do
  pub charges : (a : ℕ) → a < length net.activities → is_relaxed_lost net rows path a ≡ true → is_lost_change net s a ≡ true
  charges a below h =
      let q : RowsValue = with_decisions net rows path in
      let both = and_parts (is_lost_change net q a) (not (is_undecided_change net rows path a)) h in
      sym (lost_same net network rows path q s over_r over_s has_r has_s locks_r locks_s a below
      (not-true (is_undecided_change net rows path a) both.1)) ∙ both.0

  module _ (x y : List ℕ) (least : IsRelaxedLeast net rows path x) (least_s : IsLeast net s y) where
    pub no_later : (i : ℕ) → time_at x i ≤ time_at y i
    no_later i =
        elim (cases_lt i (length net.events)) [
          | inl below ↦
              less_is_no_later (graph_holding net (with_decisions net rows path) (is_relaxed_active net rows path)) (graph_of net s) asks_no_more (time_at x) (time_at y)
              (least_to_graph net (with_decisions net rows path) (is_relaxed_active net rows path) x network.formed.ends_are_known
              (relaxed_enter_no_passed net rows path) least)
              (to_graph net s (is_active net s) y least_s.meets) i below
          | inr past ↦
              let size = least.meets.size in
              let e : time_at x i ≡ 0 = get_or_past x i 0 (omega arith) in
              omega arith
        ]

    abbrev is_missed : RowsValue → List ℕ → ℕ → Bool
    is_missed r times a =
        is_change (activity_at net a).kind && has_passed r (activity_at net a).head
        && (is_cancelled r (activity_at net a).tail || comes_too_early net r times a)

    -- what comes too early at its passed head comes too early still
    early : (a : ℕ) → a < length net.activities → has_passed (with_decisions net rows path) (activity_at net a).head ≡ true →
        comes_too_early net (with_decisions net rows path) x a ≡ true → comes_too_early net s y a ≡ true
    early a below passed h =
        let act = activity_at net a in
        let q : RowsValue = with_decisions net rows path in
        let soon : time_at x act.head < time_at x act.tail + span_of net q a = ltb-true _ _ h in
        let t = is_some-at (passed_at q act.head) passed in
        let at : time_at x act.head ≡ t.0 = least.meets.passed act.head t.0 (network.formed.ends_are_known.heads a below) t.1 in
        let passed_s : passed_at s act.head ≡ Some t.0 = passed_same rows s over_s act.head ∙ sym (passed_same rows q over_r act.head) ∙ t.1 in
        let at' : time_at y act.head ≡ t.0 = least_s.meets.passed act.head t.0 (network.formed.ends_are_known.heads a below) passed_s in
        let tail : time_at x act.tail ≤ time_at y act.tail = no_later act.tail in
        let span : span_of net q a ≡ span_of net s a = span_agrees a in
        lt-ltb (time_at y act.head) (time_at y act.tail + span_of net s a) (omega arith)

    missed : (a : ℕ) → a < length net.activities → is_missed (with_decisions net rows path) x a ≡ true → is_missed s y a ≡ true
    missed a below h =
        let act = activity_at net a in
        let q : RowsValue = with_decisions net rows path in
        let change : Bool = is_change act.kind in
        let both = and_parts (change && has_passed q act.head) (is_cancelled q act.tail || comes_too_early net q x a) h in
        let two = and_parts change (has_passed q act.head) both.0 in
        let passed : has_passed s act.head ≡ true =
        has_passed_same rows s over_s act.head ∙ sym (has_passed_same rows q over_r act.head) ∙ two.1 in
        let gone : is_cancelled s act.tail ≡ is_cancelled q act.tail =
        cancelled_same rows s over_s act.tail ∙ sym (cancelled_same rows q over_r act.tail) in
        and_from (change && has_passed s act.head) (is_cancelled s act.tail || comes_too_early net s y a)
        (and_from change (has_passed s act.head) two.0 passed)
        (elim (or_cases (is_cancelled q act.tail) (comes_too_early net q x a) both.1) [
          | inl cancelled ↦ or_left (is_cancelled s act.tail) (comes_too_early net s y a) (gone ∙ cancelled)
          | inr soon ↦ or_right (is_cancelled s act.tail) (comes_too_early net s y a) (early a below two.1 soon)
        ])

    -- the same arrivals are cancelled, and the others come no earlier
    gone_same : (i : ℕ) → is_cancelled (with_decisions net rows path) i ≡ is_cancelled s i
    gone_same i = cancelled_same rows (with_decisions net rows path) over_r i ∙ sym (cancelled_same rows s over_s i)

    costs_later : (i : ℕ) → event_cost net (with_decisions net rows path) x i ≤ event_cost net s y i
    costs_later i =
        let arrives : Bool = is_arrival (event_at net i).kind in
        let weight : ℕ = (event_at net i).weight in
        let e = no_later i in
        subst (λ b. cond (arrives && not b) (weight * lateness net x i) 0 ≤ event_cost net s y i) (sym (gone_same i))
        (if_weighted (arrives && not (is_cancelled s i)) weight _ _ (omega arith))

    pub costs_no_more : (penalty : ℕ) → relaxed_cost_of net rows path x penalty ≤ cost_of net s y penalty
    costs_no_more penalty =
        let q : RowsValue = with_decisions net rows path in
        let n : ℕ = length net.events in
        let m : ℕ = length net.activities in
        let late : sum_by (event_cost net q x) (range_with_len 0 n) ≤ sum_by (event_cost net s y) (range_with_len 0 n) =
        sum-le (event_cost net q x) (event_cost net s y) 0 n (λ i low high. costs_later i) in
        let gone : sum_by (cancelled_weight net q) (range_with_len 0 n) ≤ sum_by (cancelled_weight net s) (range_with_len 0 n) =
        sum-le (cancelled_weight net q) (cancelled_weight net s) 0 n (λ i low high.
        if_weight _ _ (event_at net i).weight (λ h. sym (ap (λ b. is_arrival (event_at net i).kind && b) (gone_same i)) ∙ h)) in
        let dropped : sum_by (charged_weight net (is_relaxed_lost net rows path)) (range_with_len 0 m) ≤ sum_by (charged_weight net (is_lost_change net s)) (range_with_len 0 m) =
        sum-le _ _ 0 m (λ a low high.
        if_weight (is_relaxed_lost net rows path a) (is_lost_change net s a) (activity_at net a).weight (charges a (omega arith))) in
        let misses : sum_by (missed_weight net q x) (range_with_len 0 m) ≤ sum_by (missed_weight net s y) (range_with_len 0 m) =
        sum-le _ _ 0 m (λ a low high. if_weight _ _ (activity_at net a).weight (missed a (omega arith))) in
        let c = mul-le-mul_left penalty gone in
        let d = mul-le-mul_left penalty dropped in
        let e = mul-le-mul_left penalty misses in
        omega (arith, late, c, d, e)
