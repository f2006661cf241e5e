-- Rows that have all decisions of a path agree in what the path decides.
use Rattle.std.proofs.Common.{◌≡◌, ℕ, ◌+◌, ◌<◌, Bool, true, false, cond, List, [], ◌∷◌, length, Option, Some, None, refl, sym, ap, subst, ◌∙◌, ◌⊎◌, inl, inr, arith}
use Rattle.std.specs.Prelude.{Contains, not, ◌&&◌, ◌||◌, is_some, unwrap_or, max, slice_index_or, ◌==◌}
use Rattle.std.specs.List.{list_any}
use Rattle.std.proofs.lemmas.Bool.{cases_Bool, not-false, both_ways, and_cases, or_cases, cond-true, cond-false}
use Rattle.std.proofs.lemmas.List.Elements.{Contains-append_right}
use Rattle.std.proofs.lemmas.List.Quantifiers.{position-Some}
use Rattle.dm_base.specs.declared.rows.ActKind.{ActKind}
use Rattle.dm_base.specs.declared.rows.ActKind.TheVariants.{Drive, Wait, Turnaround, Change, Headway}
use Rattle.dm_network.specs.Net.{Net, event_at, activity_at, pair_at, no_pair, is_change, is_headway}
use Rattle.dm_network.specs.Pairs.{joins, pair_place}
use Rattle.dm_network.specs.Start.{IsNetwork, first_event}
use Rattle.dm_network.proofs.PairKeys.{joins-true}
use Rattle.dm_rows.specs.declared.messages.Choice.{Choice}
use Rattle.dm_rows.specs.declared.messages.Decision.{Decision}
use Rattle.dm_rows.specs.Rows.{RowsValue, kept_at, small_first_at, passed_at, is_cancelled, is_locked_change, is_locked_pair}
use Rattle.dm_rows.specs.Active.{has_passed, has_cancelled_end, is_active, binds}
use Rattle.dm_rows.specs.Cost.{is_lost_change}
use Rattle.dm_rows.specs.Timetable.{floor_of, span_of, planned_time}
use Rattle.dm_rows.specs.Sides.{first_decision, second_decision}
use Rattle.dm_rows.specs.Decide.{choice_of, change_choice, pair_choice, is_free_change, is_free_pair}
use Rattle.dm_rows.specs.Relax.{is_same_choice, is_decided, is_undecided_change, is_undecided_pair, is_of_undecided}
use Rattle.dm_rows.proofs.Running.{active_runs}
use Rattle.dm_rows.proofs.Sides.{same_choice, is_either}
use Rattle.dm_tree.proofs.Freed.{is_free_change_where, ends_run, is_free_pair_where}
use Rattle.dm_paths.proofs.Setting.{DiffersInDecisions, KeepsLocked, HasDecision, has_kept, has_first}

-- what passes a test of a list, one of its elements passes
pub passes_one : {X : Type 0} (p : X → Bool) (xs : List X) → list_any p xs ≡ true → (x : X) × Contains xs x × (p x ≡ true)
passes_one p [] h = cc
passes_one p (x ∷ xs) h =
    elim (or_cases (p x) (list_any p xs) h) [
      | inl here ↦ (x, (0, omega arith, refl), here)
      | inr later ↦ let r = passes_one p xs later in (r.0, Contains-append_right (x ∷ []) xs r.0 r.1, r.2)
    ]

-- a headway's pair joins its ends
pub record PairJoins (net : Net) (a p : ℕ) : Type 0 where
  pub is_pair : p < length net.pairs
  pub headway : is_headway (activity_at net a).kind ≡ true
  pub ends : (((pair_at net p).small ≡ (activity_at net a).tail) × ((pair_at net p).large ≡ (activity_at net a).head))
      ⊎ (((pair_at net p).small ≡ (activity_at net a).head) × ((pair_at net p).large ≡ (activity_at net a).tail))

pub change_is_no_headway : (k : ActKind) → is_change k ≡ true → is_headway k ≡ false
change_is_no_headway Drive h = cc
change_is_no_headway Wait h = cc
change_is_no_headway Turnaround h = cc
change_is_no_headway Change h = refl
change_is_no_headway Headway h = cc

own_is : (b : Bool) (o : Option ℕ) (p : ℕ) → cond b o None ≡ Some p → (b ≡ true) × (o ≡ Some p)
own_is true o p h = (refl, h)
own_is false o p h = cc

pub change_has_no_pair : (net : Net) → IsNetwork net → (a : ℕ) → a < length net.activities → is_change (activity_at net a).kind ≡ true →
    (activity_at net a).pair ≡ None
change_has_no_pair net network a below is =
    network.formed.is_paired.belongs a below
    ∙ cond-false (is_headway (activity_at net a).kind) (pair_place net (activity_at net a).tail (activity_at net a).head) None
    (change_is_no_headway (activity_at net a).kind is)

pub pair_joins : (net : Net) → IsNetwork net → (a p : ℕ) → a < length net.activities → (activity_at net a).pair ≡ Some p → PairJoins net a p
pair_joins net network a p below is =
    let tail : ℕ = (activity_at net a).tail in
    let head : ℕ = (activity_at net a).head in
    let own = own_is (is_headway (activity_at net a).kind) (pair_place net tail head) p (sym (network.formed.is_paired.belongs a below) ∙ is) in
    let found = position-Some (λ q. joins q tail head) net.pairs p no_pair own.1 in
    record {
      is_pair = found.0;
      headway = own.0;
      ends = joins-true (pair_at net p) tail head found.1;
    }

-- rows that differ in decisions alone have the same passed events, floors and spans
module _ (rows r : RowsValue) (over : DiffersInDecisions rows r) where
  pub passed_same : (i : ℕ) → passed_at r i ≡ passed_at rows i
  passed_same i = ap (λ xs. slice_index_or xs i None) over.passed

  pub has_passed_same : (i : ℕ) → has_passed r i ≡ has_passed rows i
  has_passed_same i = ap is_some (passed_same i)

  pub cancelled_same : (i : ℕ) → is_cancelled r i ≡ is_cancelled rows i
  cancelled_same i = ap (λ xs. slice_index_or xs i false) over.cancelled

  pub cancelled_end_same : (net : Net) (a : ℕ) → has_cancelled_end net r a ≡ has_cancelled_end net rows a
  cancelled_end_same net a =
      ap (λ b. b || is_cancelled r (activity_at net a).head) (cancelled_same (activity_at net a).tail)
      ∙ ap (λ b. is_cancelled rows (activity_at net a).tail || b) (cancelled_same (activity_at net a).head)

  pub span_same : (net : Net) (a : ℕ) → span_of net r a ≡ span_of net rows a
  span_same net a = ap (λ xs. (activity_at net a).lower + slice_index_or xs a 0) over.act_delays

  pub floor_same : (net : Net) (i : ℕ) → floor_of net r i ≡ floor_of net rows i
  floor_same net i =
      ap (λ o. unwrap_or o (max (planned_time net r i) r.clock)) (passed_same i)
      ∙ ap (λ xs. unwrap_or (passed_at rows i) (max ((event_at net i).time + slice_index_or xs i 0) r.clock)) over.event_delays
      ∙ ap (λ c. unwrap_or (passed_at rows i) (max (planned_time net rows i) c)) over.clock

-- A change is lost in two rows or in neither where what tells it is the same in both, and it is kept in both or in neither if it
-- is ahead and its ends run.
lost_where : (change passed ends kept other : Bool) → (change ≡ true → passed ≡ false → ends ≡ false → kept ≡ other) →
    (change && not passed && (not kept || ends)) ≡ (change && not passed && (not other || ends))
lost_where false passed ends kept other same = refl
lost_where true true ends kept other same = refl
lost_where true false true true true same = refl
lost_where true false true true false same = refl
lost_where true false true false true same = refl
lost_where true false true false false same = refl
lost_where true false false kept other same = ap (λ k. not k || false) (same refl refl refl)

alike_lost : (change p pr ps e er es kr ks : Bool) → pr ≡ p → ps ≡ p → er ≡ e → es ≡ e →
    (change ≡ true → p ≡ false → e ≡ false → kr ≡ ks) →
    (change && not pr && (not kr || er)) ≡ (change && not ps && (not ks || es))
alike_lost change p pr ps e er es kr ks is_pr is_ps is_er is_es same =
    ap (λ b. change && not b && (not kr || er)) is_pr ∙ ap (λ b. change && not p && (not kr || b)) is_er
    ∙ lost_where change p e kr ks same
    ∙ sym (ap (λ b. change && not b && (not ks || es)) is_ps ∙ ap (λ b. change && not p && (not ks || b)) is_es)

module _ (net : Net) (network : IsNetwork net) (rows : RowsValue) (path : List Decision) (r s : RowsValue)
    (over_r : DiffersInDecisions rows r) (over_s : DiffersInDecisions rows s)
    (has_r : (d : Decision) → Contains path d → HasDecision net r d) (has_s : (d : Decision) → Contains path d → HasDecision net s d) where
  -- where a decision of a choice tells a value, the value is one if the path decides the choice
  agree_on : (c : Choice) (value : RowsValue → Bool) → ((t : RowsValue) → HasDecision net t (first_decision c) → value t ≡ true) →
      ((t : RowsValue) → HasDecision net t (second_decision c) → value t ≡ false) → is_decided path c ≡ true → value r ≡ value s
  agree_on c value first second decided =
      let one = passes_one (λ d. is_same_choice (choice_of d) c) path decided in
      elim (is_either one.0 c (same_choice (choice_of one.0) c one.2)) [
        | inl e ↦ first r (subst (HasDecision net r) e (has_r one.0 one.1)) ∙ sym (first s (subst (HasDecision net s) e (has_s one.0 one.1)))
        | inr e ↦ second r (subst (HasDecision net r) e (has_r one.0 one.1)) ∙ sym (second s (subst (HasDecision net s) e (has_s one.0 one.1)))
      ]

  pub kept_agrees : (a : ℕ) → a < length net.activities → is_decided path (change_choice net a) ≡ true → kept_at r a ≡ kept_at s a
  kept_agrees a below =
      agree_on (change_choice net a) (λ t. kept_at t a) (λ t h. has_kept net network t a true below h) (λ t h. has_kept net network t a false below h)

  pub first_agrees : (p : ℕ) → p < length net.pairs → is_decided path (pair_choice net p) ≡ true → small_first_at r p ≡ small_first_at s p
  first_agrees p below =
      agree_on (pair_choice net p) (λ t. small_first_at t p) (λ t h. has_first net network t p true below h) (λ t h. has_first net network t p false below h)

  binds_same : (kind : ActKind) (pair : Option ℕ) (tail a : ℕ) → (is_change kind ≡ true → kept_at r a ≡ kept_at s a) →
      ((p : ℕ) → pair ≡ Some p → (has_passed rows tail ≡ true) ⊎ (small_first_at r p ≡ small_first_at s p)) →
      binds net r kind pair tail a ≡ binds net s kind pair tail a
  binds_same Drive pair tail a f g = refl
  binds_same Wait pair tail a f g = refl
  binds_same Turnaround pair tail a f g = refl
  binds_same Change pair tail a f g = f refl
  binds_same Headway None tail a f g = refl
  binds_same Headway (Some p) tail a f g =
      elim (g p refl) [
        | inl passed ↦
            cond-true (has_passed r tail) true (tail == first_event net p (small_first_at r p)) (has_passed_same rows r over_r tail ∙ passed)
            ∙ sym (cond-true (has_passed s tail) true (tail == first_event net p (small_first_at s p)) (has_passed_same rows s over_s tail ∙ passed))
        | inr same ↦
            ap (λ b. cond b true (tail == first_event net p (small_first_at r p))) (has_passed_same rows r over_r tail ∙ sym (has_passed_same rows s over_s tail))
            ∙ ap (λ b. cond (has_passed s tail) true (tail == first_event net p b)) same
      ]

  -- a free change that is not undecided is decided, and so is a free pair
  free_and : (free decided : Bool) → free ≡ true → (free && not decided) ≡ false → decided ≡ true
  free_and free decided is h =
      elim (and_cases free (not decided) h) [ inl f ↦ absurd (both_ways free f is) | inr n ↦ not-false decided n ]

  pub decided_change : (a : ℕ) → is_free_change net rows a ≡ true → is_undecided_change net rows path a ≡ false → is_decided path (change_choice net a) ≡ true
  decided_change a free h = free_and (is_free_change net rows a) (is_decided path (change_choice net a)) free h

  pub decided_pair : (p : ℕ) → is_free_pair net rows p ≡ true → is_undecided_pair net rows path p ≡ false → is_decided path (pair_choice net p) ≡ true
  decided_pair p free h = free_and (is_free_pair net rows p) (is_decided path (pair_choice net p)) free h

  -- rows that leave what is locked as it is too
  module _ (locks_r : KeepsLocked rows r) (locks_s : KeepsLocked rows s) where
    locked_same : (a : ℕ) → is_locked_change rows a ≡ true → kept_at r a ≡ kept_at s a
    locked_same a locked = locks_r.kept a locked ∙ sym (locks_s.kept a locked)

    locked_pair_same : (p : ℕ) → is_locked_pair rows p ≡ true → small_first_at r p ≡ small_first_at s p
    locked_pair_same p locked = locks_r.small_first p locked ∙ sym (locks_s.small_first p locked)

    -- what is not undecided of a change whose head has not passed and whose ends run is kept in both or in neither
    kept_of : (a : ℕ) → a < length net.activities → has_passed rows (activity_at net a).head ≡ false → has_cancelled_end net rows a ≡ false →
        is_undecided_change net rows path a ≡ false → is_change (activity_at net a).kind ≡ true → kept_at r a ≡ kept_at s a
    kept_of a below head runs undecided change =
        elim (cases_Bool (is_locked_change rows a)) [
          | inl locked ↦ locked_same a locked
          | inr unlocked ↦
              let free : is_free_change net rows a ≡ true =
              is_free_change_where net rows a (record { change = change; ahead = head; runs = runs; unlocked = unlocked }) in
              kept_agrees a below (decided_change a free undecided)
        ]

    kept_unpaired : (a : ℕ) → a < length net.activities → has_passed rows (activity_at net a).head ≡ false → has_cancelled_end net rows a ≡ false →
        is_of_undecided net rows path a (activity_at net a).pair ≡ false → is_change (activity_at net a).kind ≡ true → kept_at r a ≡ kept_at s a
    kept_unpaired a below head runs undecided change =
        kept_of a below head runs (subst (λ o. is_of_undecided net rows path a o ≡ false) (change_has_no_pair net network a below change) undecided) change

    -- a pair of which no event has passed or is cancelled is locked or free
    first_ahead : (p : ℕ) → p < length net.pairs → has_passed rows (pair_at net p).small ≡ false → has_passed rows (pair_at net p).large ≡ false →
        is_cancelled rows (pair_at net p).small ≡ false → is_cancelled rows (pair_at net p).large ≡ false →
        is_undecided_pair net rows path p ≡ false → small_first_at r p ≡ small_first_at s p
    first_ahead p below small large small_runs large_runs undecided =
        elim (cases_Bool (is_locked_pair rows p)) [
          | inl locked ↦ locked_pair_same p locked
          | inr unlocked ↦
              let free : is_free_pair net rows p ≡ true =
              is_free_pair_where net rows p
              (record { small_ahead = small; small_runs = small_runs; large_ahead = large; large_runs = large_runs; unlocked = unlocked }) in
              first_agrees p below (decided_pair p free undecided)
        ]

    -- of a headway into an event that has not passed, the tail has passed or its pair is decided
    first_of : (a : ℕ) → a < length net.activities → has_passed rows (activity_at net a).head ≡ false → has_cancelled_end net rows a ≡ false →
        is_of_undecided net rows path a (activity_at net a).pair ≡ false → (p : ℕ) → (activity_at net a).pair ≡ Some p →
        (has_passed rows (activity_at net a).tail ≡ true) ⊎ (small_first_at r p ≡ small_first_at s p)
    first_of a below head runs undecided p is =
        let j = pair_joins net network a p below is in
        let h : is_undecided_pair net rows path p ≡ false = subst (λ o. is_of_undecided net rows path a o ≡ false) is undecided in
        let ends = ends_run net rows a runs in
        elim (cases_Bool (has_passed rows (activity_at net a).tail)) [
          | inl passed ↦ inl passed
          | inr tail ↦ inr (elim j.ends [
            | inl e ↦ first_ahead p j.is_pair (ap (has_passed rows) e.0 ∙ tail) (ap (has_passed rows) e.1 ∙ head)
                (ap (is_cancelled rows) e.0 ∙ ends.0) (ap (is_cancelled rows) e.1 ∙ ends.1) h
            | inr e ↦ first_ahead p j.is_pair (ap (has_passed rows) e.0 ∙ head) (ap (has_passed rows) e.1 ∙ tail)
                (ap (is_cancelled rows) e.0 ∙ ends.1) (ap (is_cancelled rows) e.1 ∙ ends.0) h
          ])
        ]

    -- what runs and belongs to no undecided choice is active in both or in neither
    running_same : (a : ℕ) → a < length net.activities → has_cancelled_end net rows a ≡ false →
        is_of_undecided net rows path a (activity_at net a).pair ≡ false → is_active net r a ≡ is_active net s a
    running_same a below runs undecided =
        let act = activity_at net a in
        let br : Bool = binds net r act.kind act.pair act.tail a in
        let bs : Bool = binds net s act.kind act.pair act.tail a in
        let pr : has_passed r act.head ≡ has_passed rows act.head = has_passed_same rows r over_r act.head in
        let ps : has_passed s act.head ≡ has_passed rows act.head = has_passed_same rows s over_s act.head in
        let same : cond (has_passed r act.head) false br ≡ cond (has_passed s act.head) false bs =
        elim (cases_Bool (has_passed rows act.head)) [
          | inl passed ↦
              cond-true (has_passed r act.head) false br (pr ∙ passed) ∙ sym (cond-true (has_passed s act.head) false bs (ps ∙ passed))
          | inr free ↦
              cond-false (has_passed r act.head) false br (pr ∙ free)
              ∙ binds_same act.kind act.pair act.tail a (kept_unpaired a below free runs undecided) (first_of a below free runs undecided)
              ∙ sym (cond-false (has_passed s act.head) false bs (ps ∙ free))
        ] in
        active_runs net r a (cancelled_end_same rows r over_r net a ∙ runs) ∙ same
        ∙ sym (active_runs net s a (cancelled_end_same rows s over_s net a ∙ runs))

    -- what belongs to no undecided choice is active in both or in neither
    pub active_same : (a : ℕ) → a < length net.activities → is_of_undecided net rows path a (activity_at net a).pair ≡ false →
        is_active net r a ≡ is_active net s a
    active_same a below undecided =
        elim (cases_Bool (has_cancelled_end net rows a)) [
          | inl ends ↦
              cond-true (has_cancelled_end net r a) false _ (cancelled_end_same rows r over_r net a ∙ ends)
              ∙ sym (cond-true (has_cancelled_end net s a) false _ (cancelled_end_same rows s over_s net a ∙ ends))
          | inr runs ↦ running_same a below runs undecided
        ]

    -- what is no undecided change is lost in both or in neither
    pub lost_same : (a : ℕ) → a < length net.activities → is_undecided_change net rows path a ≡ false →
        is_lost_change net r a ≡ is_lost_change net s a
    lost_same a below undecided =
        let act = activity_at net a in
        alike_lost (is_change act.kind) (has_passed rows act.head) (has_passed r act.head) (has_passed s act.head)
        (has_cancelled_end net rows a) (has_cancelled_end net r a) (has_cancelled_end net s a) (kept_at r a) (kept_at s a)
        (has_passed_same rows r over_r act.head) (has_passed_same rows s over_s act.head)
        (cancelled_end_same rows r over_r net a) (cancelled_end_same rows s over_s net a)
        (λ change head runs. kept_of a below head runs undecided change)
