-- What networks that differ in weights alone have in common.
use Rattle.std.proofs.Common.{◌≡◌, ℕ, ◌+◌, ◌<◌, Bool, false, cond, List, [], ◌∷◌, length, map, Option, Some, None, refl, sym, ap, subst, ◌∙◌, arith}
use Rattle.std.specs.Prelude.{not, ◌&&◌, ◌||◌, IsSome, fold, filter, position, slice_index_or, option_map, ◌==◌, ◌++◌, nat_lt, nat_le, if◌then◌else◌}
use Rattle.std.specs.List.{range_with_len, list_any, prefix_len}
use Rattle.std.specs.List.Sorted.{IsStrictlyIncreasing}
use Rattle.std.proofs.lemmas.List.{length-map}
use Rattle.std.proofs.Math.ListN.{get_or-map}
use Rattle.dm_base.specs.declared.ids.ActId.{ActId}
use Rattle.dm_base.specs.declared.ids.EventId.{EventId}
use Rattle.dm_base.specs.declared.rows.ActKind.{ActKind}
use Rattle.dm_base.specs.declared.rows.ActKind.TheVariants.{Drive, Wait, Turnaround, Change, Headway}
use Rattle.dm_graph.specs.Arcs.{Binds, BindsIn}
use Rattle.dm_graph.proofs.Transfers.{cycle_carries}
use Rattle.dm_network.specs.declared.parts.Pair.{Pair}
use Rattle.dm_network.specs.Net.{Net, no_event, no_activity, no_pair, event_at, activity_at, pair_at, event_place, activity_place, is_change, is_headway}
use Rattle.dm_network.specs.Start.{IsFormed, IsNetwork, binds_at_start, is_start_active, starts_small_first, first_event}
use Rattle.dm_network.specs.Pairs.{IsHeadwayFrom, FormPair, ComesBefore, own_pair, pair_place, IsPaired}
use Rattle.dm_network.specs.Held.{arcs_of, IsCycleOf}
use Rattle.dm_rows.specs.declared.messages.Choice.TheVariants.{Change as ChangeChoice, Pair as PairChoice}
use Rattle.dm_rows.specs.declared.messages.Decision.{Decision}
use Rattle.dm_rows.specs.declared.messages.Decision.TheVariants.{Keep, Drop, First}
use Rattle.dm_rows.specs.declared.messages.Flip.{Flip}
use Rattle.dm_rows.specs.declared.messages.Flip.TheVariants.{Keep as KeepFlip, Drop as DropFlip}
use Rattle.dm_rows.specs.Rows.{RowsValue, act_delay_at, is_cancelled, kept_at, is_locked_change, is_locked_pair}
use Rattle.dm_rows.specs.Active.{has_passed, has_cancelled_end, binds_in_pair, binds, is_active}
use Rattle.dm_rows.specs.Timetable.{time_at, span_of, MeetsHolding, IsLeastHolding}
use Rattle.dm_rows.specs.Cost.{is_lost_change, comes_too_early}
use Rattle.dm_rows.specs.Resolve.{first_named, flip_named}
use Rattle.dm_rows.specs.Decide.{is_ahead, is_free_change, is_free_pair, change_choice, pair_choice, free_changes_of, free_pairs_of, free_choices_of, with_flip, with_decisions}
use Rattle.dm_rows.specs.Relax.{is_decided, is_undecided_change, is_undecided_pair, is_of_undecided, is_relaxed_active, is_relaxed_lost, is_of_pair, is_unmet_from, has_unmet_from, is_violated_change, is_violated_pair, violated_choices_of}
use Rattle.dm_parts.specs.declared.shares.Share.{Share}
use Rattle.dm_parts.specs.Shares.{event_within, activity_within, event_beside, activity_beside, within, beside}
use Rattle.dm_parts.specs.Weights.{weighed_event, weighed_activity, DifferInWeights}
use Rattle.dm_parts.specs.Laws.{HaveInCommon, WeightsDecideNothing}

-- functions that agree everywhere are the same
pub agreeing : {X Y : Type 0} {f g : X → Y} → ((x : X) → f x ≡ g x) → f ≡ g
agreeing h = λ i x. h x i

passing_front : {X Y : Type 0} (f : X → Y) (test : Y → Bool) (xs : List X) → prefix_len test (map f xs) ≡ prefix_len (λ x. test (f x)) xs
passing_front f test [] = refl
passing_front f test (x ∷ xs) = ap (λ n. cond (test (f x)) (1 + n) 0) (passing_front f test xs)

position_map : {X Y : Type 0} (f : X → Y) (test : Y → Bool) (xs : List X) → position test (map f xs) ≡ position (λ x. test (f x)) xs
position_map f test xs =
    let front : ℕ = prefix_len (λ x. not (test (f x))) xs in
    ap (λ n. cond (nat_lt n (length (map f xs))) (Some n) None) (passing_front f (λ y. not (test y)) xs)
    ∙ ap (λ m. cond (nat_lt front m) (Some front) None) (length-map xs f)

pub map_map : {X Y Z : Type 0} (f : X → Y) (g : Y → Z) (xs : List X) → map g (map f xs) ≡ map (λ x. g (f x)) xs
map_map f g [] = refl
map_map f g (x ∷ xs) = ap (λ ys. g (f x) ∷ ys) (map_map f g xs)

-- the same places pass, and are the same
places_same : {X : Type 0} (f g : ℕ → X) (p q : ℕ → Bool) (n m : ℕ) → f ≡ g → p ≡ q → n ≡ m →
    map f (filter p (range_with_len 0 n)) ≡ map g (filter q (range_with_len 0 m))
places_same f g p q n m e t s = λ i. map (e i) (filter (t i) (range_with_len 0 (s i)))

-- a change that its passed head has missed for good
abbrev pub is_missed : Net → RowsValue → List ℕ → ℕ → Bool
is_missed net rows x a =
    is_change (activity_at net a).kind && has_passed rows (activity_at net a).head
    && (is_cancelled rows (activity_at net a).tail || comes_too_early net rows x a)

module _ (net other : Net) (d : DifferInWeights net other) where
  pub event_alike : (i : ℕ) → weighed_event 0 (event_at net i) ≡ weighed_event 0 (event_at other i)
  event_alike i =
      sym (get_or-map (weighed_event 0) net.events i no_event) ∙ ap (λ es. slice_index_or es i no_event) d.events
      ∙ get_or-map (weighed_event 0) other.events i no_event

  pub activity_alike : (a : ℕ) → weighed_activity 0 (activity_at net a) ≡ weighed_activity 0 (activity_at other a)
  activity_alike a =
      sym (get_or-map (weighed_activity 0) net.activities a no_activity) ∙ ap (λ es. slice_index_or es a no_activity) d.activities
      ∙ get_or-map (weighed_activity 0) other.activities a no_activity

  pair_alike : (p : ℕ) → pair_at net p ≡ pair_at other p
  pair_alike p = ap (λ ps. slice_index_or ps p no_pair) d.pairs

  pub as_many_events : length net.events ≡ length other.events
  as_many_events =
      sym (length-map net.events (weighed_event 0)) ∙ ap length d.events ∙ length-map other.events (weighed_event 0)

  pub as_many_activities : length net.activities ≡ length other.activities
  as_many_activities =
      sym (length-map net.activities (weighed_activity 0)) ∙ ap length d.activities ∙ length-map other.activities (weighed_activity 0)

  pub as_many_pairs : length net.pairs ≡ length other.pairs
  as_many_pairs = ap length d.pairs

  same_head : (a : ℕ) → (activity_at net a).head ≡ (activity_at other a).head
  same_head a = ap (λ x. x.head) (activity_alike a)

  same_tail : (a : ℕ) → (activity_at net a).tail ≡ (activity_at other a).tail
  same_tail a = ap (λ x. x.tail) (activity_alike a)

  pub same_kind : (a : ℕ) → (activity_at net a).kind ≡ (activity_at other a).kind
  same_kind a = ap (λ x. x.kind) (activity_alike a)

  same_pair : (a : ℕ) → (activity_at net a).pair ≡ (activity_at other a).pair
  same_pair a = ap (λ x. x.pair) (activity_alike a)

  same_lower : (a : ℕ) → (activity_at net a).lower ≡ (activity_at other a).lower
  same_lower a = ap (λ x. x.lower) (activity_alike a)

  same_time : (i : ℕ) → (event_at net i).time ≡ (event_at other i).time
  same_time i = ap (λ x. x.time) (event_alike i)

  -- what ids name
  event_found : (id : EventId) → event_place net id ≡ event_place other id
  event_found id =
      sym (position_map (weighed_event 0) (λ e. e.id.0 == id.0) net.events)
      ∙ ap (λ es. position (λ e. e.id.0 == id.0) es) d.events ∙ position_map (weighed_event 0) (λ e. e.id.0 == id.0) other.events

  activity_found : (id : ActId) → activity_place net id ≡ activity_place other id
  activity_found id =
      sym (position_map (weighed_activity 0) (λ a. a.id.0 == id.0) net.activities)
      ∙ ap (λ es. position (λ a. a.id.0 == id.0) es) d.activities
      ∙ position_map (weighed_activity 0) (λ a. a.id.0 == id.0) other.activities

  pair_found : (i j : ℕ) → pair_place net i j ≡ pair_place other i j
  pair_found i j = ap (λ ps. pair_place (record { events = []; activities = []; pairs = ps }) i j) d.pairs

  first_found : (x y : Option ℕ) → first_named net x y ≡ first_named other x y
  first_found (Some x) (Some y) =
      ap (λ ps. first_named (record { events = []; activities = []; pairs = ps }) (Some x) (Some y)) d.pairs
  first_found (Some x) None = refl
  first_found None y = refl

  pub same_flip : (e : Decision) → flip_named net e ≡ flip_named other e
  same_flip (Keep a) = ap (λ o. option_map (λ x. KeepFlip x) o) (activity_found a)
  same_flip (Drop a) = ap (λ o. option_map (λ x. DropFlip x) o) (activity_found a)
  same_flip (First i j) =
      ap (λ o. first_named net o (event_place net j)) (event_found i) ∙ ap (λ o. first_named net (event_place other i) o) (event_found j)
      ∙ first_found (event_place other i) (event_place other j)

  pub same_with : (rows : RowsValue) (ds : List Decision) → with_decisions net rows ds ≡ with_decisions other rows ds
  same_with rows ds = ap (λ (f : Decision → Option Flip). fold (λ set e. with_flip set (f e)) rows ds) (agreeing same_flip)

  same_binds : (rows : RowsValue) (k : ActKind) (p : Option ℕ) (tail a : ℕ) → binds net rows k p tail a ≡ binds other rows k p tail a
  same_binds rows Drive p tail a = refl
  same_binds rows Wait p tail a = refl
  same_binds rows Turnaround p tail a = refl
  same_binds rows Change p tail a = refl
  same_binds rows Headway None tail a = refl
  same_binds rows Headway (Some p) tail a =
      ap (λ ps. binds_in_pair (record { events = []; activities = []; pairs = ps }) rows p tail) d.pairs

  pub same_active : (rows : RowsValue) (a : ℕ) → is_active net rows a ≡ is_active other rows a
  same_active rows a =
      ap (λ x. if is_cancelled rows x.tail || is_cancelled rows x.head then false
      else if has_passed rows x.head then false else binds net rows x.kind x.pair x.tail a) (activity_alike a)
      ∙ ap (λ b. if has_cancelled_end other rows a then false else if has_passed rows (activity_at other a).head then false else b)
      (same_binds rows (activity_at other a).kind (activity_at other a).pair (activity_at other a).tail a)

  pub same_dropped : (rows : RowsValue) (a : ℕ) → is_lost_change net rows a ≡ is_lost_change other rows a
  same_dropped rows a =
      ap (λ x. is_change x.kind && not (has_passed rows x.head)
      && (not (kept_at rows a) || (is_cancelled rows x.tail || is_cancelled rows x.head))) (activity_alike a)

  pub same_span : (rows : RowsValue) (a : ℕ) → span_of net rows a ≡ span_of other rows a
  same_span rows a = let e = same_lower a in omega (arith, e)

  -- what may be chosen
  same_change : (a : ℕ) → change_choice net a ≡ change_choice other a
  same_change a = ap (λ x. ChangeChoice x.id) (activity_alike a)

  same_pair_choice : (p : ℕ) → pair_choice net p ≡ pair_choice other p
  same_pair_choice p =
      ap (λ x. PairChoice (event_at net x.small).id (event_at net x.large).id) (pair_alike p)
      ∙ ap (λ x. PairChoice x.id (event_at net (pair_at other p).large).id) (event_alike (pair_at other p).small)
      ∙ ap (λ x. PairChoice (event_at other (pair_at other p).small).id x.id) (event_alike (pair_at other p).large)

  same_free_change : (rows : RowsValue) (a : ℕ) → is_free_change net rows a ≡ is_free_change other rows a
  same_free_change rows a =
      ap (λ x. is_change x.kind && not (has_passed rows x.head) && not (is_cancelled rows x.tail || is_cancelled rows x.head)
      && not (is_locked_change rows a)) (activity_alike a)

  same_free_pair : (rows : RowsValue) (p : ℕ) → is_free_pair net rows p ≡ is_free_pair other rows p
  same_free_pair rows p =
      ap (λ x. is_ahead rows x.small && is_ahead rows x.large && not (is_locked_pair rows p)) (pair_alike p)

  pub same_free : (rows : RowsValue) → free_choices_of net rows ≡ free_choices_of other rows
  same_free rows =
      ap (λ l. l ++ free_pairs_of net rows)
      (places_same (change_choice net) (change_choice other) (is_free_change net rows) (is_free_change other rows)
      (length net.activities) (length other.activities) (agreeing same_change) (agreeing (same_free_change rows)) as_many_activities)
      ∙ ap (λ l. free_changes_of other rows ++ l)
      (places_same (pair_choice net) (pair_choice other) (is_free_pair net rows) (is_free_pair other rows)
      (length net.pairs) (length other.pairs) (agreeing same_pair_choice) (agreeing (same_free_pair rows)) as_many_pairs)

  -- what a path leaves undecided
  same_undecided_change : (rows : RowsValue) (path : List Decision) (a : ℕ) →
      is_undecided_change net rows path a ≡ is_undecided_change other rows path a
  same_undecided_change rows path a =
      ap (λ b. b && not (is_decided path (change_choice net a))) (same_free_change rows a)
      ∙ ap (λ c. is_free_change other rows a && not (is_decided path c)) (same_change a)

  same_undecided_pair : (rows : RowsValue) (path : List Decision) (p : ℕ) →
      is_undecided_pair net rows path p ≡ is_undecided_pair other rows path p
  same_undecided_pair rows path p =
      ap (λ b. b && not (is_decided path (pair_choice net p))) (same_free_pair rows p)
      ∙ ap (λ c. is_free_pair other rows p && not (is_decided path c)) (same_pair_choice p)

  same_of_undecided : (rows : RowsValue) (path : List Decision) (a : ℕ) (p : Option ℕ) →
      is_of_undecided net rows path a p ≡ is_of_undecided other rows path a p
  same_of_undecided rows path a None = same_undecided_change rows path a
  same_of_undecided rows path a (Some p) = same_undecided_pair rows path p

  pub same_relaxed_active : (rows : RowsValue) (path : List Decision) (a : ℕ) →
      is_relaxed_active net rows path a ≡ is_relaxed_active other rows path a
  same_relaxed_active rows path a =
      ap (λ p. if is_of_undecided net rows path a p then false else is_active net (with_decisions net rows path) a) (same_pair a)
      ∙ ap (λ b. if b then false else is_active net (with_decisions net rows path) a)
      (same_of_undecided rows path a (activity_at other a).pair)
      ∙ ap (λ b. if is_of_undecided other rows path a (activity_at other a).pair then false else b)
      (same_active (with_decisions net rows path) a ∙ ap (λ r. is_active other r a) (same_with rows path))

  pub same_relaxed_dropped : (rows : RowsValue) (path : List Decision) (a : ℕ) →
      is_relaxed_lost net rows path a ≡ is_relaxed_lost other rows path a
  same_relaxed_dropped rows path a =
      ap (λ b. b && not (is_undecided_change net rows path a))
      (same_dropped (with_decisions net rows path) a ∙ ap (λ r. is_lost_change other r a) (same_with rows path))
      ∙ ap (λ b. is_lost_change other (with_decisions other rows path) a && not b) (same_undecided_change rows path a)

  -- cycles
  there : (held : ℕ → Bool) (a : ℕ) → Binds (arcs_of net held) a → BindsIn (arcs_of net held) (arcs_of other held) a
  there held a b = record {
    binds = record {
      is_arc = subst (λ n. a < n) as_many_activities b.is_arc;
      is_held = b.is_held;
      from_event = let e = as_many_events in let t = same_tail a in let f = b.from_event in omega (arith, e, t, f);
      to_event = let e = as_many_events in let t = same_head a in let f = b.to_event in omega (arith, e, t, f);
    };
    same_tail = same_tail a;
    same_head = same_head a;
  }

  pub same_cycles : (held : ℕ → Bool) (cycle : List ℕ) → IsCycleOf net held cycle → IsCycleOf other held cycle
  same_cycles held cycle c = cycle_carries (arcs_of net held) (arcs_of other held) (there held) cycle c

  -- least times
  same_meets : (rows : RowsValue) (held : ℕ → Bool) (x : List ℕ) → MeetsHolding net rows held x → MeetsHolding other rows held x
  same_meets rows held x m = record {
    size = m.size ∙ as_many_events;
    passed = λ i t lt h. m.passed i t (subst (λ n. i < n) (sym as_many_events) lt) h;
    above = λ i lt none.
        let f = m.above i (subst (λ n. i < n) (sym as_many_events) lt) none in
        let e = same_time i in
        omega (arith, e, f);
    clock = λ i lt none. m.clock i (subst (λ n. i < n) (sym as_many_events) lt) none;
    along = λ a lt held_there.
        let f = m.along a (subst (λ n. a < n) (sym as_many_activities) lt) held_there in
        let t : time_at x (activity_at net a).tail ≡ time_at x (activity_at other a).tail = ap (time_at x) (same_tail a) in
        let h : time_at x (activity_at net a).head ≡ time_at x (activity_at other a).head = ap (time_at x) (same_head a) in
        let s = same_span rows a in
        omega (arith, f, t, h, s);
  }

  -- what is violated
  same_early : (rows : RowsValue) (x : List ℕ) (a : ℕ) → comes_too_early net rows x a ≡ comes_too_early other rows x a
  same_early rows x a =
      ap (λ y. nat_lt (time_at x y.head) (time_at x y.tail + (y.lower + act_delay_at rows a))) (activity_alike a)

  pub same_missed : (rows : RowsValue) (x : List ℕ) (a : ℕ) → is_missed net rows x a ≡ is_missed other rows x a
  same_missed rows x a =
      ap (λ y. is_change y.kind && has_passed rows y.head && (is_cancelled rows y.tail || comes_too_early net rows x a)) (activity_alike a)
      ∙ ap (λ b. is_change (activity_at other a).kind && has_passed rows (activity_at other a).head
      && (is_cancelled rows (activity_at other a).tail || b)) (same_early rows x a)

  same_unmet : (rows : RowsValue) (x : List ℕ) (p tail a : ℕ) → is_unmet_from net rows x p tail a ≡ is_unmet_from other rows x p tail a
  same_unmet rows x p tail a =
      ap (λ y. is_of_pair p y.pair && y.tail == tail && comes_too_early net rows x a) (activity_alike a)
      ∙ ap (λ b. is_of_pair p (activity_at other a).pair && (activity_at other a).tail == tail && b) (same_early rows x a)

  same_unmet_from : (rows : RowsValue) (x : List ℕ) (p tail : ℕ) → has_unmet_from net rows x p tail ≡ has_unmet_from other rows x p tail
  same_unmet_from rows x p tail =
      ap (λ (f : ℕ → Bool). list_any f (range_with_len 0 (length net.activities))) (agreeing (same_unmet rows x p tail))
      ∙ ap (λ n. list_any (is_unmet_from other rows x p tail) (range_with_len 0 n)) as_many_activities

  same_violated_change : (rows : RowsValue) (path : List Decision) (x : List ℕ) (a : ℕ) →
      is_violated_change net rows path x a ≡ is_violated_change other rows path x a
  same_violated_change rows path x a =
      ap (λ b. b && comes_too_early net rows x a) (same_undecided_change rows path a)
      ∙ ap (λ b. is_undecided_change other rows path a && b) (same_early rows x a)

  same_violated_pair : (rows : RowsValue) (path : List Decision) (x : List ℕ) (p : ℕ) →
      is_violated_pair net rows path x p ≡ is_violated_pair other rows path x p
  same_violated_pair rows path x p =
      ap (λ b. b && has_unmet_from net rows x p (pair_at net p).small && has_unmet_from net rows x p (pair_at net p).large)
      (same_undecided_pair rows path p)
      ∙ ap (λ q. is_undecided_pair other rows path p && has_unmet_from net rows x p q.small && has_unmet_from net rows x p q.large)
      (pair_alike p)
      ∙ ap (λ b. is_undecided_pair other rows path p && b && has_unmet_from net rows x p (pair_at other p).large)
      (same_unmet_from rows x p (pair_at other p).small)
      ∙ ap (λ b. is_undecided_pair other rows path p && has_unmet_from other rows x p (pair_at other p).small && b)
      (same_unmet_from rows x p (pair_at other p).large)

  same_violated : (rows : RowsValue) (path : List Decision) (x : List ℕ) →
      violated_choices_of net rows path x ≡ violated_choices_of other rows path x
  same_violated rows path x =
      ap
      (λ l. l ++ map (pair_choice net) (filter (is_violated_pair net rows path x) (range_with_len 0 (length net.pairs))))
      (places_same (change_choice net) (change_choice other) (is_violated_change net rows path x) (is_violated_change other rows path x)
      (length net.activities) (length other.activities) (agreeing same_change) (agreeing (same_violated_change rows path x)) as_many_activities)
      ∙ ap
      (λ l. map (change_choice other) (filter (is_violated_change other rows path x) (range_with_len 0 (length other.activities))) ++ l)
      (places_same (pair_choice net) (pair_choice other) (is_violated_pair net rows path x) (is_violated_pair other rows path x)
      (length net.pairs) (length other.pairs) (agreeing same_pair_choice) (agreeing (same_violated_pair rows path x)) as_many_pairs)

  -- what a network asks for
  same_event_ids : map (λ e. e.id.0) net.events ≡ map (λ e. e.id.0) other.events
  same_event_ids =
      sym (map_map (weighed_event 0) (λ e. e.id.0) net.events) ∙ ap (map (λ e. e.id.0)) d.events
      ∙ map_map (weighed_event 0) (λ e. e.id.0) other.events

  same_activity_ids : map (λ a. a.id.0) net.activities ≡ map (λ a. a.id.0) other.activities
  same_activity_ids =
      sym (map_map (weighed_activity 0) (λ a. a.id.0) net.activities) ∙ ap (map (λ a. a.id.0)) d.activities
      ∙ map_map (weighed_activity 0) (λ a. a.id.0) other.activities

  same_headway : (i j a : ℕ) → IsHeadwayFrom net i j a → IsHeadwayFrom other i j a
  same_headway i j a h = record {
    is_activity = subst (λ n. a < n) as_many_activities h.is_activity;
    headway = ap is_headway (sym (same_kind a)) ∙ h.headway;
    tail = sym (same_tail a) ∙ h.tail;
    head = sym (same_head a) ∙ h.head;
  }

  same_form : (i j : ℕ) → FormPair net i j → FormPair other i j
  same_form i j f = (f.0, (f.1.0, same_headway i j f.1.0 f.1.1), (f.2.0, same_headway j i f.2.0 f.2.1))

  same_starts : (p : ℕ) → starts_small_first net p ≡ starts_small_first other p
  same_starts p =
      ap (λ q. nat_le (event_at net q.small).time (event_at net q.large).time) (pair_alike p)
      ∙ ap (λ t. nat_le t (event_at net (pair_at other p).large).time) (same_time (pair_at other p).small)
      ∙ ap (λ t. nat_le (event_at other (pair_at other p).small).time t) (same_time (pair_at other p).large)

  same_first_event : (p : ℕ) (small : Bool) → first_event net p small ≡ first_event other p small
  same_first_event p small = ap (λ q. if small then q.small else q.large) (pair_alike p)

  same_binds_at_start : (p : Option ℕ) (tail : ℕ) → binds_at_start net p tail ≡ binds_at_start other p tail
  same_binds_at_start None tail = refl
  same_binds_at_start (Some p) tail =
      ap (λ b. tail == first_event net p b) (same_starts p) ∙ ap (λ i. tail == i) (same_first_event p (starts_small_first other p))

  same_start_active : (a : ℕ) → is_start_active net a ≡ is_start_active other a
  same_start_active a =
      ap (λ x. binds_at_start net x.pair x.tail) (activity_alike a)
      ∙ same_binds_at_start (activity_at other a).pair (activity_at other a).tail

  same_own_pair : (a : ℕ) → own_pair net (activity_at net a) ≡ own_pair other (activity_at other a)
  same_own_pair a =
      ap (λ x. if is_headway x.kind then pair_place net x.tail x.head else None) (activity_alike a)
      ∙ ap (λ o. if is_headway (activity_at other a).kind then o else None)
      (pair_found (activity_at other a).tail (activity_at other a).head)

pub back : (net other : Net) → DifferInWeights net other → DifferInWeights other net
back net other d = record { events = sym d.events; activities = sym d.activities; pairs = sym d.pairs }

module _ (net other : Net) (d : DifferInWeights net other) where
  from_other : DifferInWeights other net
  from_other = back net other d

  pub same_least : (rows : RowsValue) (held : ℕ → Bool) (x : List ℕ) → IsLeastHolding net rows held x → IsLeastHolding other rows held x
  same_least rows held x l = record {
    meets = same_meets net other d rows held x l.meets;
    earliest = λ y m i lt.
        l.earliest y (same_meets other net from_other rows held y m) i (subst (λ n. i < n) (sym (as_many_events net other d)) lt);
  }

  same_paired : IsPaired net → IsPaired other
  same_paired p = record {
    exact = λ i j. (
      λ some. same_form net other d i j ((p.exact i j).0 (subst IsSome (sym (pair_found net other d i j)) some)),
      λ form. subst IsSome (pair_found net other d i j) ((p.exact i j).1 (same_form other net from_other i j form)),
    );
    smaller_first = λ q lt.
        subst (λ r. r.small < r.large) (pair_alike net other d q) (p.smaller_first q (subst (λ n. q < n) (sym (as_many_pairs net other d)) lt));
    ascending = λ q r lt below.
        subst (λ (y : Pair). ComesBefore (pair_at other q) y) (pair_alike net other d r)
        (subst (λ (x : Pair). ComesBefore x (pair_at net r)) (pair_alike net other d q)
        (p.ascending q r lt (subst (λ n. r < n) (sym (as_many_pairs net other d)) below)));
    belongs = λ a lt.
        sym (same_pair net other d a) ∙ p.belongs a (subst (λ n. a < n) (sym (as_many_activities net other d)) lt)
        ∙ same_own_pair net other d a;
  }

  same_formed : IsFormed net → IsFormed other
  same_formed f = record {
    events_ascend = subst IsStrictlyIncreasing (same_event_ids net other d) f.events_ascend;
    activities_ascend = subst IsStrictlyIncreasing (same_activity_ids net other d) f.activities_ascend;
    ends_are_known = record {
      tails = λ a lt.
          let g = f.ends_are_known.tails a (subst (λ n. a < n) (sym (as_many_activities net other d)) lt) in
          let e = as_many_events net other d in
          let t = same_tail net other d a in
          omega (arith, e, t, g);
      heads = λ a lt.
          let g = f.ends_are_known.heads a (subst (λ n. a < n) (sym (as_many_activities net other d)) lt) in
          let e = as_many_events net other d in
          let h = same_head net other d a in
          omega (arith, e, h, g);
    };
    headways_are_apart = λ a lt h.
        let g = f.headways_are_apart a (subst (λ n. a < n) (sym (as_many_activities net other d)) lt) (ap is_headway (same_kind net other d a) ∙ h) in
        let e = same_lower net other d a in
        omega (arith, e, g);
    is_paired = same_paired f.is_paired;
  }

  pub same_network : IsNetwork net → IsNetwork other
  same_network n = record {
    formed = same_formed n.formed;
    no_start_cycle = λ cycle c.
        n.no_start_cycle cycle
        (same_cycles other net from_other (is_start_active net) cycle
        (subst (λ (held : ℕ → Bool). IsCycleOf other held cycle) (sym (agreeing (same_start_active net other d))) c));
  }

  pub in_common : HaveInCommon net other
  in_common = record {
    network = same_network;
    active = same_active net other d;
    cycles = λ rows cycle c.
        subst (λ (held : ℕ → Bool). IsCycleOf other held cycle) (agreeing (same_active net other d rows))
        (same_cycles net other d (is_active net rows) cycle c);
    least = λ rows x l.
        subst (λ (held : ℕ → Bool). IsLeastHolding other rows held x) (agreeing (same_active net other d rows))
        (same_least rows (is_active net rows) x l);
    free = same_free net other d;
    decided = same_with net other d;
    relaxed_cycles = λ rows path cycle c.
        subst (λ (held : ℕ → Bool). IsCycleOf other held cycle) (agreeing (same_relaxed_active net other d rows path))
        (same_cycles net other d (is_relaxed_active net rows path) cycle c);
    relaxed_least = λ rows path x l.
        subst (λ (r : RowsValue). IsLeastHolding other r (is_relaxed_active other rows path) x) (same_with net other d rows path)
        (subst (λ (held : ℕ → Bool). IsLeastHolding other (with_decisions net rows path) held x)
        (agreeing (same_relaxed_active net other d rows path))
        (same_least (with_decisions net rows path) (is_relaxed_active net rows path) x l));
    violated = same_violated net other d;
  }

pub within_differs : (net : Net) (share : Share) → DifferInWeights net (within net share)
within_differs net share = record {
  events = sym (map_map (event_within share) (weighed_event 0) net.events);
  activities = sym (map_map (activity_within share) (weighed_activity 0) net.activities);
  pairs = refl;
}

pub beside_differs : (net : Net) (shares : List Share) → DifferInWeights net (beside net shares)
beside_differs net shares = record {
  events = sym (map_map (event_beside shares) (weighed_event 0) net.events);
  activities = sym (map_map (activity_beside shares) (weighed_activity 0) net.activities);
  pairs = refl;
}

pub weights_decide_nothing : WeightsDecideNothing
weights_decide_nothing = record { in_common = in_common; within_share = within_differs; beside_shares = beside_differs }
