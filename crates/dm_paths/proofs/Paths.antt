-- What binds and what is charged for in the relaxed problems of two paths of which the second has one decision more.
use Rattle.std.proofs.Common.{◌≡◌, ℕ, ◌<◌, Bool, true, false, List, [], ◌∷◌, length, Option, Some, None, refl, sym, ap, subst, ◌∙◌, inl, inr, arith}
use Rattle.std.specs.Prelude.{Contains, not, ◌&&◌, ◌||◌, ◌==◌}
use Rattle.std.specs.List.{list_any}
use Rattle.std.proofs.lemmas.Bool.{cases_Bool, not_from_true, not_from_false, and_from, and_right, or_left, or_right, cond-true, cond-false, both_ways, false_from_ne_true}
use Rattle.dm_base.specs.declared.rows.ActKind.{ActKind}
use Rattle.dm_base.specs.declared.rows.ActKind.TheVariants.{Drive, Wait, Turnaround, Change, Headway}
use Rattle.dm_network.specs.Net.{Net, activity_at, is_change, is_headway}
use Rattle.dm_network.specs.Start.{IsNetwork, first_event}
use Rattle.dm_rows.specs.declared.messages.Decision.{Decision}
use Rattle.dm_rows.specs.declared.messages.Choice.{Choice}
use Rattle.dm_rows.specs.Rows.{RowsValue, IsSized, is_cancelled, kept_at, small_first_at}
use Rattle.dm_rows.specs.Active.{has_passed, has_cancelled_end, is_active, binds}
use Rattle.dm_rows.specs.Cost.{is_lost_change}
use Rattle.dm_rows.specs.Decide.{IsChoiceList, is_free_change, is_free_pair, change_choice, pair_choice, choice_of, with_decisions}
use Rattle.dm_rows.specs.Relax.{is_same_choice, is_decided, is_undecided_change, is_undecided_pair, is_of_undecided, is_relaxed_active, is_relaxed_lost}
use Rattle.dm_paths.proofs.Flagged.{and_true}
use Rattle.dm_paths.proofs.Naming.{change_decides, pair_decides, one_change, one_pair}
use Rattle.dm_rows.proofs.Running.{active_runs, both_run}
use Rattle.dm_rows.proofs.Sides.{same_choice, same_itself}
use Rattle.dm_tree.proofs.Freed.{IsFreeChangeAt, free_change_is, IsFreePairAt, free_pair_is}
use Rattle.dm_paths.proofs.Setting.{DiffersInDecisions, KeepsLocked, HasDecision, differs_in_none, differs_with, locks_of, has_each, has_kept, has_first, in_front}
use Rattle.dm_paths.proofs.Agreeing.{passes_one, PairJoins, pair_joins, change_has_no_pair, has_passed_same, cancelled_end_same, active_same, lost_same}
use Rattle.dm_paths.specs.Decisions.{AddsDecision, is_of, IsOfChange, IsOfPair}

-- what one element of a list passes, some element passes
pub one_passes : {X : Type 0} (p : X → Bool) (xs : List X) (x : X) → Contains xs x → p x ≡ true → list_any p xs ≡ true
one_passes p [] x h is = absurd (omega (arith, h.1))
one_passes p (y ∷ xs) x h is =
    elim (in_front y x xs h) [
      | inl here ↦ or_left (p y) (list_any p xs) (ap p here ∙ is)
      | inr later ↦ or_right (p y) (list_any p xs) (one_passes p xs x later is)
    ]

-- tests that pass together are the same
pub alike : (b c : Bool) → (b ≡ true → c ≡ true) → (c ≡ true → b ≡ true) → b ≡ c
alike true c f g = sym (f refl)
alike false true f g = g refl
alike false false f g = refl

module _ (path other : List Decision) (d : Decision) (adds : AddsDecision path other d) where
  pub decided_same : (c : Choice) → is_same_choice (choice_of d) c ≡ false → is_decided other c ≡ is_decided path c
  decided_same c apart =
      alike (is_decided other c) (is_decided path c)
      (λ h.
      let one = passes_one (λ e. is_same_choice (choice_of e) c) other h in
      elim (adds.only one.0 one.1) [
        | inl there ↦ one_passes (λ e. is_same_choice (choice_of e) c) path one.0 there one.2
        | inr is ↦ absurd (both_ways (is_same_choice (choice_of d) c) apart (subst (λ e. is_same_choice (choice_of e) c ≡ true) is one.2))
      ])
      (λ h.
      let one = passes_one (λ e. is_same_choice (choice_of e) c) path h in
      one_passes (λ e. is_same_choice (choice_of e) c) other one.0 (adds.kept one.0 one.1) one.2)

  pub decided_here : (c : Choice) → choice_of d ≡ c → is_decided other c ≡ true
  decided_here c is =
      one_passes (λ e. is_same_choice (choice_of e) c) other d adds.added
      (ap (λ e. is_same_choice e c) is ∙ same_itself c)

  pub undecided_before : (c : Choice) → choice_of d ≡ c → is_decided path c ≡ false
  undecided_before c is = subst (λ e. is_decided path e ≡ false) is adds.new

-- Of the choices at some places: the decision decides that at one of them, which was free and undecided and is decided now, and
-- no other.
pub record DecidesOne (path other : List Decision) (d : Decision) (of : ℕ → Choice) (free : ℕ → Bool) (n k : ℕ) : Type 0 where
  pub before : (free k && not (is_decided path (of k))) ≡ true
  pub after : (free k && not (is_decided other (of k))) ≡ false
  pub apart : (j : ℕ) → j < n → (j ≡ k → ⊥) → is_same_choice (choice_of d) (of j) ≡ false

change_kind : (k : ActKind) → is_change k ≡ true → k ≡ Change
change_kind Drive h = cc
change_kind Wait h = cc
change_kind Turnaround h = cc
change_kind Change h = refl
change_kind Headway h = cc

headway_kind : (k : ActKind) → is_headway k ≡ true → k ≡ Headway
headway_kind Drive h = cc
headway_kind Wait h = cc
headway_kind Turnaround h = cc
headway_kind Change h = cc
headway_kind Headway h = refl

module _ (net : Net) (network : IsNetwork net) (rows : RowsValue) (sized : IsSized net rows) (path other : List Decision)
    (list : IsChoiceList net rows path) (other_list : IsChoiceList net rows other) (d : Decision) (adds : AddsDecision path other d) where
  over : (ds : List Decision) → DiffersInDecisions rows (with_decisions net rows ds)
  over ds = differs_with net rows rows ds (differs_in_none rows)

  locks : (ds : List Decision) → IsChoiceList net rows ds → KeepsLocked rows (with_decisions net rows ds)
  locks ds is = locks_of net network rows sized ds is.free

  has_p : (e : Decision) → Contains path e → HasDecision net (with_decisions net rows path) e
  has_p e h = has_each net network rows sized path list e h

  has_o : (e : Decision) → Contains path e → HasDecision net (with_decisions net rows other) e
  has_o e h = has_each net network rows sized other other_list e (adds.kept e h)

  pub undecided_change_same : (a : ℕ) → is_same_choice (choice_of d) (change_choice net a) ≡ false →
      is_undecided_change net rows other a ≡ is_undecided_change net rows path a
  undecided_change_same a apart =
      ap (λ b. is_free_change net rows a && not b) (decided_same path other d adds (change_choice net a) apart)

  pub undecided_pair_same : (p : ℕ) → is_same_choice (choice_of d) (pair_choice net p) ≡ false →
      is_undecided_pair net rows other p ≡ is_undecided_pair net rows path p
  undecided_pair_same p apart =
      ap (λ b. is_free_pair net rows p && not b) (decided_same path other d adds (pair_choice net p) apart)

  of_undecided_same : (a : ℕ) (o : Option ℕ) → is_of net (choice_of d) a o ≡ false →
      is_of_undecided net rows other a o ≡ is_of_undecided net rows path a o
  of_undecided_same a None apart = undecided_change_same a apart
  of_undecided_same a (Some p) apart = undecided_pair_same p apart

  -- what is not of the decision's choice binds in both or in neither
  pub relaxed_same : (a : ℕ) → a < length net.activities → is_of net (choice_of d) a (activity_at net a).pair ≡ false →
      is_relaxed_active net rows other a ≡ is_relaxed_active net rows path a
  relaxed_same a below apart =
      let u : Bool = is_of_undecided net rows path a (activity_at net a).pair in
      let v : Bool = is_of_undecided net rows other a (activity_at net a).pair in
      let ap_ : Bool = is_active net (with_decisions net rows path) a in
      let ao : Bool = is_active net (with_decisions net rows other) a in
      let same : v ≡ u = of_undecided_same a (activity_at net a).pair apart in
      elim (cases_Bool u) [
        | inl t ↦ cond-true v false ao (same ∙ t) ∙ sym (cond-true u false ap_ t)
        | inr f ↦
            cond-false v false ao (same ∙ f)
            ∙ sym (active_same net network rows path (with_decisions net rows path) (with_decisions net rows other) (over path) (over other) has_p has_o
            (locks path list) (locks other other_list) a below f)
            ∙ sym (cond-false u false ap_ f)
      ]

  -- and is charged for in both or in neither
  pub dropped_same : (a : ℕ) → a < length net.activities → is_same_choice (choice_of d) (change_choice net a) ≡ false →
      is_relaxed_lost net rows other a ≡ is_relaxed_lost net rows path a
  dropped_same a below apart =
      let q : RowsValue = with_decisions net rows path in
      let s : RowsValue = with_decisions net rows other in
      let u : Bool = is_undecided_change net rows path a in
      let v : Bool = is_undecided_change net rows other a in
      let same : v ≡ u = undecided_change_same a apart in
      let lq : Bool = is_lost_change net q a in
      let ls : Bool = is_lost_change net s a in
      elim (cases_Bool u) [
        | inl t ↦ and_right ls (not v) (not_from_true v (same ∙ t)) ∙ sym (and_right lq (not u) (not_from_true u t))
        | inr f ↦
            let lost : lq ≡ ls =
            lost_same net network rows path q s (over path) (over other) has_p has_o (locks path list) (locks other other_list) a below f in
            ap (λ b. b && not v) (sym lost) ∙ ap (λ b. lq && not b) same
      ]

  decides_one : (of : ℕ → Choice) (free : ℕ → Bool) (n k : ℕ) → choice_of d ≡ of k → free k ≡ true → ((j : ℕ) → j < n → of k ≡ of j → k ≡ j) →
      DecidesOne path other d of free n k
  decides_one of free n k decides is one = record {
    before = and_from (free k) (not (is_decided path (of k))) is (not_from_false (is_decided path (of k)) (undecided_before path other d adds (of k) decides));
    after = and_right (free k) (not (is_decided other (of k))) (not_from_true (is_decided other (of k)) (decided_here path other d adds (of k) decides));
    apart = λ j below elsewhere.
        false_from_ne_true (is_same_choice (choice_of d) (of j))
        (λ h. elsewhere (sym (one j below (sym decides ∙ same_choice (choice_of d) (of j) h))));
  }

  -- the decision of a change
  module _ (a : ℕ) (kept : Bool) (is : IsOfChange net rows d a kept) where
    pub decides_change : choice_of d ≡ change_choice net a
    decides_change = ap choice_of is.is ∙ change_decides net network a kept

    free : IsFreeChangeAt net rows a
    free = free_change_is net rows a is.free

    no_pair : (activity_at net a).pair ≡ None
    no_pair = change_has_no_pair net network a is.is_activity free.change

    head_free : has_passed (with_decisions net rows other) (activity_at net a).head ≡ false
    head_free = has_passed_same rows (with_decisions net rows other) (over other) (activity_at net a).head ∙ free.ahead

    ends_run : has_cancelled_end net (with_decisions net rows other) a ≡ false
    ends_run = cancelled_end_same rows (with_decisions net rows other) (over other) net a ∙ free.runs

    kind_is : (activity_at net a).kind ≡ Change
    kind_is = change_kind (activity_at net a).kind free.change

    pub change_decided : DecidesOne path other d (change_choice net) (is_free_change net rows) (length net.activities) a
    change_decided =
        decides_one (change_choice net) (is_free_change net rows) (length net.activities) a decides_change is.free
        (λ b below. one_change net network a b is.is_activity below)

    of_change : (b : ℕ) (o : Option ℕ) → b < length net.activities → (b ≡ a → ⊥) → is_of net (choice_of d) b o ≡ false
    of_change b None below other_one = change_decided.apart b below other_one
    of_change b (Some p) below other_one = ap (λ c. is_same_choice c (pair_choice net p)) decides_change

    pub change_not_of : (b : ℕ) → b < length net.activities → (b ≡ a → ⊥) → is_of net (choice_of d) b (activity_at net b).pair ≡ false
    change_not_of b below other_one = of_change b (activity_at net b).pair below other_one

    pub change_no_pair : (p : ℕ) → is_same_choice (choice_of d) (pair_choice net p) ≡ false
    change_no_pair p = ap (λ c. is_same_choice c (pair_choice net p)) decides_change

    pub change_bound_before : is_relaxed_active net rows path a ≡ false
    change_bound_before =
        cond-true (is_of_undecided net rows path a (activity_at net a).pair) false (is_active net (with_decisions net rows path) a)
        (ap (is_of_undecided net rows path a) no_pair ∙ change_decided.before)

    pub change_dropped_before : is_relaxed_lost net rows path a ≡ false
    change_dropped_before =
        and_right (is_lost_change net (with_decisions net rows path) a) (not (is_undecided_change net rows path a))
        (not_from_true (is_undecided_change net rows path a) change_decided.before)

    kept_is : kept_at (with_decisions net rows other) a ≡ kept
    kept_is =
        has_kept net network (with_decisions net rows other) a kept is.is_activity
        (subst (HasDecision net (with_decisions net rows other)) is.is (has_each net network rows sized other other_list d adds.added))

    pub change_binds : is_relaxed_active net rows other a ≡ kept
    change_binds =
        let s : RowsValue = with_decisions net rows other in
        let act = activity_at net a in
        cond-false (is_of_undecided net rows other a act.pair) false (is_active net s a)
        (ap (is_of_undecided net rows other a) no_pair ∙ change_decided.after)
        ∙ active_runs net s a ends_run
        ∙ cond-false (has_passed s act.head) false (binds net s act.kind act.pair act.tail a) head_free
        ∙ ap (λ k. binds net s k act.pair act.tail a) kind_is
        ∙ kept_is

    pub change_dropped : is_relaxed_lost net rows other a ≡ not kept
    change_dropped =
        let s : RowsValue = with_decisions net rows other in
        let act = activity_at net a in
        ap (λ b. is_lost_change net s a && not b) change_decided.after
        ∙ and_true (is_lost_change net s a)
        ∙ ap (λ k. is_change k && not (has_passed s act.head) && (not (kept_at s a) || has_cancelled_end net s a)) kind_is
        ∙ ap (λ p. not p && (not (kept_at s a) || has_cancelled_end net s a)) head_free
        ∙ ap (λ (e : Bool). not (kept_at s a) || e) ends_run
        ∙ or_false (not (kept_at s a))
        ∙ ap not kept_is
      where
        or_false : (b : Bool) → (b || false) ≡ b
        or_false true = refl
        or_false false = refl

  -- the decision of a pair
  module _ (p : ℕ) (small : Bool) (is : IsOfPair net rows d p small) where
    pub decides_pair : choice_of d ≡ pair_choice net p
    decides_pair = ap choice_of is.is ∙ pair_decides net network p small is.is_pair

    pub pair_decided : DecidesOne path other d (pair_choice net) (is_free_pair net rows) (length net.pairs) p
    pair_decided =
        decides_one (pair_choice net) (is_free_pair net rows) (length net.pairs) p decides_pair is.free
        (λ q below. one_pair net network p q is.is_pair below)

    pub pair_no_change : (b : ℕ) → is_same_choice (choice_of d) (change_choice net b) ≡ false
    pair_no_change b = ap (λ c. is_same_choice c (change_choice net b)) decides_pair

    of_pair : (b : ℕ) (o : Option ℕ) → ((q : ℕ) → o ≡ Some q → q < length net.pairs) → (o ≡ Some p → ⊥) → is_of net (choice_of d) b o ≡ false
    of_pair b None below other_one = pair_no_change b
    of_pair b (Some q) below other_one = pair_decided.apart q (below q refl) (λ e. other_one (ap (λ r. Some r) e))

    pub pair_not_of : (b : ℕ) → b < length net.activities → ((activity_at net b).pair ≡ Some p → ⊥) → is_of net (choice_of d) b (activity_at net b).pair ≡ false
    pair_not_of b below other_one =
        of_pair b (activity_at net b).pair (λ q e. (pair_joins net network b q below e).is_pair) other_one

    module _ (b : ℕ) (below : b < length net.activities) (its : (activity_at net b).pair ≡ Some p) where
      pub pair_bound_before : is_relaxed_active net rows path b ≡ false
      pair_bound_before =
          cond-true (is_of_undecided net rows path b (activity_at net b).pair) false (is_active net (with_decisions net rows path) b)
          (ap (is_of_undecided net rows path b) its ∙ pair_decided.before)

      joins : PairJoins net b p
      joins = pair_joins net network b p below its

      frees : IsFreePairAt net rows p
      frees = free_pair_is net rows p is.free

      ends_free : (has_passed rows (activity_at net b).tail ≡ false) × (has_passed rows (activity_at net b).head ≡ false)
      ends_free =
          elim joins.ends [
            | inl e ↦ (ap (has_passed rows) (sym e.0) ∙ frees.small_ahead, ap (has_passed rows) (sym e.1) ∙ frees.large_ahead)
            | inr e ↦ (ap (has_passed rows) (sym e.1) ∙ frees.large_ahead, ap (has_passed rows) (sym e.0) ∙ frees.small_ahead)
          ]

      headway_runs : has_cancelled_end net (with_decisions net rows other) b ≡ false
      headway_runs =
          let runs : has_cancelled_end net rows b ≡ false =
          elim joins.ends [
            | inl e ↦ both_run _ _ (ap (is_cancelled rows) (sym e.0) ∙ frees.small_runs) (ap (is_cancelled rows) (sym e.1) ∙ frees.large_runs)
            | inr e ↦ both_run _ _ (ap (is_cancelled rows) (sym e.1) ∙ frees.large_runs) (ap (is_cancelled rows) (sym e.0) ∙ frees.small_runs)
          ] in
          cancelled_end_same rows (with_decisions net rows other) (over other) net b ∙ runs

      first_is : small_first_at (with_decisions net rows other) p ≡ small
      first_is =
          has_first net network (with_decisions net rows other) p small is.is_pair
          (subst (HasDecision net (with_decisions net rows other)) is.is (has_each net network rows sized other other_list d adds.added))

      pub pair_binds : is_relaxed_active net rows other b ≡ ((activity_at net b).tail == first_event net p small)
      pair_binds =
          let s : RowsValue = with_decisions net rows other in
          let act = activity_at net b in
          cond-false (is_of_undecided net rows other b act.pair) false (is_active net s b)
          (ap (is_of_undecided net rows other b) its ∙ pair_decided.after)
          ∙ active_runs net s b headway_runs
          ∙ cond-false (has_passed s act.head) false (binds net s act.kind act.pair act.tail b) (has_passed_same rows s (over other) act.head ∙ ends_free.1)
          ∙ ap (λ k. binds net s k act.pair act.tail b) (headway_kind act.kind joins.headway)
          ∙ ap (λ o. binds net s Headway o act.tail b) its
          ∙ cond-false (has_passed s act.tail) true (act.tail == first_event net p (small_first_at s p)) (has_passed_same rows s (over other) act.tail ∙ ends_free.0)
          ∙ ap (λ f. act.tail == first_event net p f) first_is
