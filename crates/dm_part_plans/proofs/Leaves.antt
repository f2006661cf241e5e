-- What a share costs where an evaluator stands is the relaxed cost of its path within the share.
use Rattle.std.proofs.Common.{◌≡◌, ℕ, ◌+◌, ◌*◌, ◌<◌, Bool, true, false, cond, List, [], ◌∷◌, length, take, get_or, refl, sym, ap, subst, ◌∙◌, inl, inr, arith, Some}
use Rattle.std.specs.Prelude.{All, Contains, not, ◌&&◌, ◌||◌, nat_lt, sum_by, ◌==◌}
use Rattle.std.proofs.lemmas.Bool.{cases_Bool, and_from, and_parts, and_cases, and_right, or_left, or_from, or_cases, not-true, not-false, not_from_true, not_from_false, both_ways, false_from_ne_true, eq-eqb, eqb-true}
use Rattle.std.proofs.lemmas.List.{take_all}
use Rattle.std.proofs.lemmas.List.Elements.{All-head, All-tail, All-contains}
use Rattle.std.proofs.lemmas.List.Folds.{list_any_at}
use Rattle.std.proofs.lemmas.List.Quantifiers.{position-Some}
use Rattle.std.proofs.lemmas.List.Sums.{sum_by-cons, sum_by_more}
use Rattle.dm_base.specs.declared.ids.ActId.{ActId}
use Rattle.dm_network.specs.Net.{Net, no_activity, event_at, activity_at, activity_place, event_place, is_change}
use Rattle.dm_network.specs.Start.{IsNetwork}
use Rattle.dm_rows.specs.declared.messages.Decision.{Decision}
use Rattle.dm_rows.specs.declared.messages.Decision.TheVariants.{Keep, Drop, First}
use Rattle.dm_rows.specs.Active.{has_passed, has_cancelled_end}
use Rattle.dm_rows.specs.Rows.{RowsValue, IsSized, kept_at, is_cancelled, is_locked_change}
use Rattle.dm_rows.specs.Cost.{is_arrival, lateness, event_cost, cancelled_weight, charged_weight, missed_weight, comes_too_early, cost_charging, is_lost_change}
use Rattle.dm_rows.specs.Timetable.{time_at}
use Rattle.dm_rows.specs.Decide.{IsChoiceList, choice_of, change_choice, pair_choice, free_choices_of, is_free_change, with_decisions}
use Rattle.dm_rows.specs.Relax.{is_decided, is_same_choice, is_relaxed_lost, is_undecided_change}
use Rattle.dm_rows.proofs.Sides.{same_choice, is_either}
use Rattle.dm_tree.specs.Relaxed.{relaxed_cost_of, RelaxedCosts}
use Rattle.dm_tree.proofs.Freed.{free_change_is}
use Rattle.dm_evaluate.specs.Evaluator.{EvaluatorValue, IsEvaluatorOf, times_of}
use Rattle.dm_evaluate.proofs.Decided.{evaluator_least}
use Rattle.dm_paths.specs.Decisions.{change_decision}
use Rattle.dm_paths.proofs.Agreeing.{passes_one, has_passed_same, cancelled_same, cancelled_end_same, span_same}
use Rattle.dm_paths.proofs.Naming.{Names, of_change, of_pair, names, change_decides, pair_decides, one_change}
use Rattle.dm_paths.proofs.Setting.{DiffersInDecisions, HasDecision, differs_in_none, differs_with, has_each, has_kept, locks_of}
use Rattle.dm_relax.proofs.Completion.{is_decided_by}
use Rattle.dm_parts.specs.declared.shares.Share.{Share}
use Rattle.dm_parts.specs.Shares.{within, IsShare, NamesChange}
use Rattle.dm_parts.specs.Sums.{at_place, lateness_of, cancelled_of, charged_of, missed_of}
use Rattle.dm_parts.proofs.Alike.{agreeing, weights_decide_nothing, within_differs, same_with, same_relaxed_dropped}
use Rattle.dm_parts.proofs.Listed.{costs_within_are_sums}
use Rattle.dm_part_plans.specs.Inside.Sums.{is_drop_of, drops, is_lost_for_good, lost_weight, lateness_up_to, cancelled_up_to, lost_up_to, missed_up_to}

-- ids are equal where their numbers are
same_id : (a b : ActId) → a.0 ≡ b.0 → a ≡ b
same_id a b e = let f : ℕ → ActId = λ n. record { 0 = n } in ap f e

dropping : (id : ActId) (d : Decision) → is_drop_of id d ≡ true → d ≡ Drop id
dropping id (Keep a) h = cc
dropping id (Drop a) h = ap Drop (same_id a id (eqb-true a.0 id.0 h))
dropping id (First i j) h = cc

dropped_by : (id : ActId) (path : List Decision) → Contains path (Drop id) → drops path id ≡ true
dropped_by id path h =
    list_any_at (is_drop_of id) path h.0 (Drop id) h.1
    (subst (λ d. is_drop_of id d ≡ true) (sym h.2) (eq-eqb id.0 id.0 refl))

-- of a change that is not free the path decides nothing: it has passed, has a cancelled end, or is locked
lost_at : (c p e l k k' : Bool) → (c && not p && not e && not l) ≡ false → (l ≡ true → k' ≡ k) →
    (c && not p && (not k' || e)) ≡ (c && not p && (not k || e))
lost_at false p e l k k' closed same = refl
lost_at true true e l k k' closed same = refl
lost_at true false true l true true closed same = refl
lost_at true false true l true false closed same = refl
lost_at true false true l false true closed same = refl
lost_at true false true l false false closed same = refl
lost_at true false false true k k' closed same = ap (λ b. not b || false) (same refl)
lost_at true false false false k k' closed same = cc

lost_alike : (c p p' e e' l k k' : Bool) → p' ≡ p → e' ≡ e → (c && not p && not e && not l) ≡ false → (l ≡ true → k' ≡ k) →
    (c && not p' && (not k' || e')) ≡ (c && not p && (not k || e))
lost_alike c p p' e e' l k k' same_p same_e closed same_k = rw (same_p, same_e) (lost_at c p e l k k' closed same_k)

-- what is not free is charged for where it is lost without the path
lost_when_closed : (lost lost' free decided drop : Bool) → lost ≡ lost' → free ≡ false → drop ≡ false →
    (lost && not (free && not decided)) ≡ (drop || (lost' && not free))
lost_when_closed lost lost' free decided drop same closed never = rw (same, closed, never) refl

-- The relaxed problem of a choice list charges for a change exactly where the list drops it, or it is lost for good.
module _ (net : Net) (network : IsNetwork net) (rows : RowsValue) (sized : IsSized net rows) (path : List Decision)
    (list : IsChoiceList net rows path) where
  free_of : (a : ℕ) → a < length net.activities → Names net rows (change_decision net a false) → is_free_change net rows a ≡ true
  free_of a below (of_change b kept below' free is) =
      let one : change_choice net a ≡ change_choice net b = ap choice_of is ∙ change_decides net network b kept in
      subst (λ k. is_free_change net rows k ≡ true) (sym (one_change net network a b below below' one)) free
  free_of a below (of_pair p small below' free is) =
      let clash : change_choice net a ≡ pair_choice net p = ap choice_of is ∙ pair_decides net network p small below' in cc

  over : DiffersInDecisions rows (with_decisions net rows path)
  over = differs_with net rows rows path (differs_in_none rows)

  passed_alike : (i : ℕ) → has_passed (with_decisions net rows path) i ≡ has_passed rows i
  passed_alike i = has_passed_same rows (with_decisions net rows path) over i

  ends_alike : (a : ℕ) → has_cancelled_end net (with_decisions net rows path) a ≡ has_cancelled_end net rows a
  ends_alike a = cancelled_end_same rows (with_decisions net rows path) over net a

  -- what the path drops is free
  free_where_dropped : (a : ℕ) → a < length net.activities → Contains path (change_decision net a false) → is_free_change net rows a ≡ true
  free_where_dropped a below h =
      let d : Decision = change_decision net a false in
      let among : Contains (free_choices_of net rows) (choice_of d) = All-contains (λ x. Contains (free_choices_of net rows) (choice_of x)) path d list.free h in
      free_of a below (names net rows d among)

  charged_if : (a : ℕ) → a < length net.activities → Contains path (change_decision net a false) → is_relaxed_lost net rows path a ≡ true
  charged_if a below h =
      let act = activity_at net a in
      let set : RowsValue = with_decisions net rows path in
      let d : Decision = change_decision net a false in
      let free = free_change_is net rows a (free_where_dropped a below h) in
      let gone : kept_at set a ≡ false = has_kept net network set a false below (has_each net network rows sized path list d h) in
      let decided : is_decided path (change_choice net a) ≡ true = is_decided_by path d (change_choice net a) h (change_decides net network a false) in
      let settled : is_undecided_change net rows path a ≡ false =
      and_right (is_free_change net rows a) (not (is_decided path (change_choice net a))) (not_from_true (is_decided path (change_choice net a)) decided) in
      let ahead : has_passed set act.head ≡ false = passed_alike act.head ∙ free.ahead in
      and_from (is_lost_change net set a) (not (is_undecided_change net rows path a))
      (and_from (is_change act.kind && not (has_passed set act.head)) (not (kept_at set a) || has_cancelled_end net set a)
      (and_from (is_change act.kind) (not (has_passed set act.head)) free.change (not_from_false (has_passed set act.head) ahead))
      (or_left (not (kept_at set a)) (has_cancelled_end net set a) (not_from_false (kept_at set a) gone)))
      (not_from_false (is_undecided_change net rows path a) settled)

  -- a free change that is charged for is dropped
  dropped_if : (a : ℕ) → a < length net.activities → is_free_change net rows a ≡ true → is_relaxed_lost net rows path a ≡ true →
      Contains path (change_decision net a false)
  dropped_if a below free h =
      let act = activity_at net a in
      let set : RowsValue = with_decisions net rows path in
      let both = and_parts (is_lost_change net set a) (not (is_undecided_change net rows path a)) h in
      let lost = and_parts (is_change act.kind && not (has_passed set act.head)) (not (kept_at set a) || has_cancelled_end net set a) both.0 in
      let runs : has_cancelled_end net set a ≡ false = ends_alike a ∙ (free_change_is net rows a free).runs in
      let gone : kept_at set a ≡ false =
      elim (or_cases (not (kept_at set a)) (has_cancelled_end net set a) lost.1) [
        | inl dropped ↦ not-true (kept_at set a) dropped
        | inr ends ↦ absurd (both_ways (has_cancelled_end net set a) runs ends)
      ] in
      let decided : is_decided path (change_choice net a) ≡ true =
      elim (and_cases (is_free_change net rows a) (not (is_decided path (change_choice net a))) (not-true (is_undecided_change net rows path a) both.1)) [
        | inl bound ↦ absurd (both_ways (is_free_change net rows a) bound free)
        | inr is ↦ not-false (is_decided path (change_choice net a)) is
      ] in
      let one = passes_one (λ d. is_same_choice (choice_of d) (change_choice net a)) path decided in
      elim (is_either one.0 (change_choice net a) (same_choice (choice_of one.0) (change_choice net a) one.2)) [
        | inl keeps ↦
            let there : HasDecision net set (change_decision net a true) =
            subst (HasDecision net set) keeps (has_each net network rows sized path list one.0 one.1) in
            absurd (both_ways (kept_at set a) gone (has_kept net network set a true below there))
        | inr is ↦ subst (Contains path) is one.1
      ]

  -- what is not free is lost with the path exactly where it is without
  closed_alike : (a : ℕ) → is_free_change net rows a ≡ false → is_lost_change net (with_decisions net rows path) a ≡ is_lost_change net rows a
  closed_alike a closed =
      let act = activity_at net a in
      let set : RowsValue = with_decisions net rows path in
      let locks = locks_of net network rows sized path list.free in
      lost_alike (is_change act.kind) (has_passed rows act.head) (has_passed set act.head) (has_cancelled_end net rows a) (has_cancelled_end net set a)
      (is_locked_change rows a) (kept_at rows a) (kept_at set a) (passed_alike act.head) (ends_alike a) closed (locks.kept a)

  pub charged_where_lost : (id : ActId) (a : ℕ) → activity_place net id ≡ Some a →
      is_relaxed_lost net rows path a ≡ (drops path id || is_lost_for_good net rows a)
  charged_where_lost id a found =
      let at = position-Some (λ x. x.id.0 == id.0) net.activities a no_activity found in
      let named : (activity_at net a).id ≡ id = same_id (activity_at net a).id id (eqb-true (activity_at net a).id.0 id.0 at.1) in
      let there_is : drops path id ≡ true → Contains path (change_decision net a false) =
      λ does.
      let one = passes_one (is_drop_of id) path does in
      let is : one.0 ≡ change_decision net a false = dropping id one.0 one.2 ∙ ap Drop (sym named) in
      subst (Contains path) is one.1 in
      elim (cases_Bool (is_free_change net rows a)) [
        | inl free ↦ elim (cases_Bool (drops path id)) [
          | inl does ↦ charged_if a at.0 (there_is does) ∙ sym (or_left (drops path id) (is_lost_for_good net rows a) does)
          | inr never ↦ elim (cases_Bool (is_relaxed_lost net rows path a)) [
            | inl charged ↦
                let there : Contains path (Drop id) = subst (λ x. Contains path (Drop x)) named (dropped_if a at.0 free charged) in
                absurd (both_ways (drops path id) never (dropped_by id path there))
            | inr none ↦ none ∙ sym (or_from (drops path id) (is_lost_for_good net rows a) never
                (and_right (is_lost_change net rows a) (not (is_free_change net rows a)) (not_from_true (is_free_change net rows a) free)))
          ]
        ]
        | inr closed ↦
            let never : drops path id ≡ false =
            false_from_ne_true (drops path id)
            (λ does. both_ways (is_free_change net rows a) closed (free_where_dropped a at.0 (there_is does))) in
            lost_when_closed (is_lost_change net (with_decisions net rows path) a) (is_lost_change net rows a) (is_free_change net rows a)
            (is_decided path (change_choice net a)) (drops path id) (closed_alike a closed) closed never
      ]

-- decisions change neither what has passed nor a span
missed_alike : (net : Net) (rows : RowsValue) (path : List Decision) (x : List ℕ) (a : ℕ) →
    missed_weight net (with_decisions net rows path) x a ≡ missed_weight net rows x a
missed_alike net rows path x a =
    let set : RowsValue = with_decisions net rows path in
    let over : DiffersInDecisions rows set = differs_with net rows rows path (differs_in_none rows) in
    let act = activity_at net a in
    let early : comes_too_early net set x a ≡ comes_too_early net rows x a =
    ap (λ n. nat_lt (time_at x act.head) (time_at x act.tail + n)) (span_same rows set over net a) in
    ap (λ b. cond (is_change act.kind && b && (is_cancelled set act.tail || comes_too_early net set x a)) act.weight 0)
    (has_passed_same rows set over act.head)
    ∙ ap (λ b. cond (is_change act.kind && has_passed rows act.head && (b || comes_too_early net set x a)) act.weight 0)
    (cancelled_same rows set over act.tail)
    ∙ ap (λ b. cond (is_change act.kind && has_passed rows act.head && (is_cancelled rows act.tail || b)) act.weight 0) early

late_alike : (net : Net) (rows : RowsValue) (path : List Decision) (x : List ℕ) (i : ℕ) →
    event_cost net (with_decisions net rows path) x i ≡ event_cost net rows x i
late_alike net rows path x i =
    let over : DiffersInDecisions rows (with_decisions net rows path) = differs_with net rows rows path (differs_in_none rows) in
    ap (λ b. cond (is_arrival (event_at net i).kind && not b) ((event_at net i).weight * lateness net x i) 0)
    (cancelled_same rows (with_decisions net rows path) over i)

cancelled_alike : (net : Net) (rows : RowsValue) (path : List Decision) (i : ℕ) →
    cancelled_weight net (with_decisions net rows path) i ≡ cancelled_weight net rows i
cancelled_alike net rows path i =
    let over : DiffersInDecisions rows (with_decisions net rows path) = differs_with net rows rows path (differs_in_none rows) in
    ap (λ b. cond (is_arrival (event_at net i).kind && b) (event_at net i).weight 0)
    (cancelled_same rows (with_decisions net rows path) over i)

-- sums of what is the same for each element
sums_agree : {X : Type 0} (f g : X → ℕ) (xs : List X) → All (λ x. f x ≡ g x) xs → sum_by f xs ≡ sum_by g xs
sums_agree f g [] h = refl
sums_agree f g (x ∷ xs) h =
    let e = sum_by-cons f x xs in
    let e' = sum_by-cons g x xs in
    let here : f x ≡ g x = All-head (λ y. f y ≡ g y) x xs h in
    let rest = sums_agree f g xs (All-tail (λ y. f y ≡ g y) x xs h) in
    omega (arith, e, e', here, rest)

-- the sums of the code are those of the law
module _ (net : Net) (network : IsNetwork net) (rows : RowsValue) (sized : IsSized net rows) (path : List Decision)
    (list : IsChoiceList net rows path) (share : Share) (is : IsShare net share) where
  charged_one : (id : ActId) → NamesChange net id →
      lost_weight net rows path id ≡ at_place (charged_weight net (is_relaxed_lost net rows path)) (activity_place net id)
  charged_one id h =
      let same = charged_where_lost net network rows sized path list id h.place h.found in
      ap (at_place (λ a. cond (drops path id || is_lost_for_good net rows a) (activity_at net a).weight 0)) h.found
      ∙ ap (λ b. cond b (activity_at net h.place).weight 0) (sym same)
      ∙ sym (ap (at_place (charged_weight net (is_relaxed_lost net rows path))) h.found)

  charged_adds : lost_up_to net share rows path (length share.changes) ≡ charged_of net share (is_relaxed_lost net rows path)
  charged_adds =
      ap (λ ids. sum_by (lost_weight net rows path) ids) (take_all (length share.changes) share.changes (omega arith))
      ∙ sums_agree (lost_weight net rows path)
      (λ id. at_place (charged_weight net (is_relaxed_lost net rows path)) (activity_place net id)) share.changes
      (λ k d lt. charged_one (get_or share.changes k d) (is.are_changes k d lt))

  missed_adds : (x : List ℕ) → missed_up_to net share rows x (length share.changes) ≡ missed_of net share (with_decisions net rows path) x
  missed_adds x =
      ap (λ ids. sum_by (λ id. at_place (missed_weight net rows x) (activity_place net id)) ids)
      (take_all (length share.changes) share.changes (omega arith))
      ∙ ap (λ (f : ℕ → ℕ). sum_by (λ id. at_place f (activity_place net id)) share.changes) (sym (agreeing (missed_alike net rows path x)))

  late_adds : (x : List ℕ) → lateness_up_to net share rows x (length share.arrivals) ≡ lateness_of net share (with_decisions net rows path) x
  late_adds x =
      ap (λ ids. sum_by (λ id. at_place (event_cost net rows x) (event_place net id)) ids)
      (take_all (length share.arrivals) share.arrivals (omega arith))
      ∙ ap (λ (f : ℕ → ℕ). sum_by (λ id. at_place f (event_place net id)) share.arrivals) (sym (agreeing (late_alike net rows path x)))

  gone_adds : cancelled_up_to net share rows (length share.arrivals) ≡ cancelled_of net share (with_decisions net rows path)
  gone_adds =
      ap (λ ids. sum_by (λ id. at_place (cancelled_weight net rows) (event_place net id)) ids)
      (take_all (length share.arrivals) share.arrivals (omega arith))
      ∙ ap (λ (f : ℕ → ℕ). sum_by (λ id. at_place f (event_place net id)) share.arrivals) (sym (agreeing (cancelled_alike net rows path)))

  pub cost_is : (x : List ℕ) (penalty late gone lost missed c : ℕ) → late ≡ lateness_up_to net share rows x (length share.arrivals) →
      gone ≡ cancelled_up_to net share rows (length share.arrivals) → lost ≡ lost_up_to net share rows path (length share.changes) →
      missed ≡ missed_up_to net share rows x (length share.changes) → c ≡ late + penalty * gone + penalty * lost + penalty * missed →
      c ≡ relaxed_cost_of (within net share) rows path x penalty
  cost_is x penalty late gone lost missed c e n f g all =
      let charged = is_relaxed_lost net rows path in
      let set : RowsValue = with_decisions net rows path in
      let d = within_differs net share in
      let l : late ≡ lateness_of net share set x = e ∙ late_adds x in
      let w : penalty * gone ≡ penalty * cancelled_of net share set = ap (λ k. penalty * k) (n ∙ gone_adds) in
      let p : penalty * lost ≡ penalty * charged_of net share charged = ap (λ k. penalty * k) (f ∙ charged_adds) in
      let m : penalty * missed ≡ penalty * missed_of net share set x = ap (λ k. penalty * k) (g ∙ missed_adds x) in
      let sums : c ≡ lateness_of net share set x + penalty * cancelled_of net share set + penalty * charged_of net share charged
      + penalty * missed_of net share set x = omega (arith, all, l, w, p, m) in
      sums
      ∙ sym (costs_within_are_sums net share set charged x penalty network is)
      ∙ ap (λ (t : ℕ → Bool). cost_charging (within net share) set t x penalty) (agreeing (same_relaxed_dropped net (within net share) d rows path))
      ∙ ap (λ (r : RowsValue). cost_charging (within net share) r (is_relaxed_lost (within net share) rows path) x penalty)
      (same_with net (within net share) d rows path)

-- where an evaluator stands, from what was read off it
pub cost_here : (net : Net) → IsNetwork net → (e : EvaluatorValue) → IsEvaluatorOf net e → (share : Share) → IsShare net share →
    (x : List ℕ) (path : List Decision) (rows : RowsValue) (penalty late gone lost missed : ℕ) → x ≡ times_of e → path ≡ e.path → rows ≡ e.rows →
    late ≡ lateness_up_to net share rows x (length share.arrivals) → gone ≡ cancelled_up_to net share rows (length share.arrivals) →
    lost ≡ lost_up_to net share rows path (length share.changes) → missed ≡ missed_up_to net share rows x (length share.changes) →
    late + penalty * gone + penalty * lost + penalty * missed ≡ relaxed_cost_of (within net share) e.rows e.path (times_of e) penalty
cost_here net network e is share part x path rows penalty late gone lost missed times there same l n d m =
    let l' = subst (λ t. late ≡ lateness_up_to net share e.rows t (length share.arrivals)) times
    (subst (λ r. late ≡ lateness_up_to net share r x (length share.arrivals)) same l) in
    let n' = subst (λ r. gone ≡ cancelled_up_to net share r (length share.arrivals)) same n in
    let d' = subst (λ p. lost ≡ lost_up_to net share e.rows p (length share.changes)) there
    (subst (λ r. lost ≡ lost_up_to net share r path (length share.changes)) same d) in
    let m' = subst (λ t. missed ≡ missed_up_to net share e.rows t (length share.changes)) times
    (subst (λ r. missed ≡ missed_up_to net share r x (length share.changes)) same m) in
    cost_is net network e.rows is.sized e.path is.is_path share part (times_of e) penalty late gone lost missed
    (late + penalty * gone + penalty * lost + penalty * missed) l' n' d' m' refl

-- one term more of a sum
pub sum_more : {X : Type 0} (f : X → ℕ) (xs items : List X) (k sum more : ℕ) (d : X) → items ≡ xs → k < length items →
    sum ≡ sum_by f (take k xs) → more ≡ f (get_or items k d) → sum + more ≡ sum_by f (take (k + 1) xs)
sum_more f xs items k sum more d same below before here =
    let size = ap length same in
    let all = sum_by_more f xs k d (omega (arith, size, below)) in
    let at : more ≡ f (get_or xs k d) = here ∙ ap (λ ys. f (get_or ys k d)) same in
    omega (arith, before, all, at)

-- and so the path costs that within the share
pub costs_there : (net : Net) → IsNetwork net → (e : EvaluatorValue) → IsEvaluatorOf net e → (share : Share) (penalty c : ℕ) →
    c ≡ relaxed_cost_of (within net share) e.rows e.path (times_of e) penalty → RelaxedCosts (within net share) e.rows e.path penalty c
costs_there net network e is share penalty c cost =
    record {
      times = times_of e;
      least = (weights_decide_nothing.in_common net (within net share) (within_differs net share)).relaxed_least e.rows e.path (times_of e)
          (evaluator_least net e network.formed.ends_are_known is);
      cost = cost;
    }
