-- Rows that have every decision of the completion have the relaxed times and the relaxed cost.
use Rattle.std.proofs.Common.{◌≡◌, ℕ, ◌+◌, ◌*◌, ◌<◌, ◌≤◌, Bool, true, false, cond, List, length, get_or, Option, Some, None, IsSome, refl, sym, ap, subst, ◌∙◌, ◌⊎◌, inl, inr, arith}
use Rattle.std.specs.Prelude.{Contains, not, ◌&&◌, ◌||◌, ◌==◌, nat_lt, sum_by, slice_index_or}
use Rattle.std.specs.List.{range_with_len}
use Rattle.std.proofs.Math.Nat.{mul-le-mul_left}
use Rattle.std.proofs.lemmas.Bool.{cases_Bool, both_ways, not_from_true, not_from_false, and_from, and_parts, and_cases, or_from, false_from_ne_true, ltb-true, ltb-false, eqb-true, eq-eqb, cond-true, cond-false}
use Rattle.std.proofs.lemmas.List.Elements.{Contains-append_left, Contains-append_right}
use Rattle.std.proofs.lemmas.List.Folds.{list_any_at}
use Rattle.std.proofs.lemmas.List.FromFn.{length-range_with_len, get_or-range_with_len}
use Rattle.dm_base.specs.declared.rows.ActKind.{ActKind}
use Rattle.dm_base.specs.declared.rows.ActKind.TheVariants.{Drive, Wait, Turnaround, Change as ChangeKind, Headway}
use Rattle.dm_graph.proofs.Timetables.{least_for_more}
use Rattle.dm_network.specs.Net.{Net, event_at, activity_at, pair_at, is_change, is_headway}
use Rattle.dm_network.specs.Pairs.{pair_place, IsHeadwayFrom, FormPair}
use Rattle.dm_network.specs.Start.{IsNetwork, first_event}
use Rattle.dm_rows.specs.declared.messages.Decision.{Decision}
use Rattle.dm_rows.specs.Rows.{RowsValue, IsSized, kept_at, small_first_at, passed_at, is_cancelled}
use Rattle.dm_rows.specs.Active.{has_passed, has_cancelled_end, is_active, binds, HasNoCycle}
use Rattle.dm_rows.specs.Timetable.{time_at, span_of, planned_time, IsLeast, Meets, graph_holding, graph_of}
use Rattle.dm_rows.specs.Cost.{is_arrival, lateness, event_cost, cancelled_weight, charged_weight, is_lost_change, missed_weight, comes_too_early, cost_of}
use Rattle.dm_rows.specs.Decide.{change_choice, pair_choice, is_free_change, is_free_pair, with_decisions, IsChoiceList}
use Rattle.dm_rows.specs.Relax.{is_decided, is_undecided_change, is_undecided_pair, is_of_undecided, is_relaxed_active, is_relaxed_lost, is_of_pair, is_unmet_from, has_unmet_from, is_violated_change, is_violated_pair}
use Rattle.dm_rows.proofs.AsGraph.{least_to_graph, least_from_graph, to_graph, relaxed_enter_no_passed, active_enter_no_passed}
use Rattle.dm_rows.proofs.Running.{active_is_open, active_runs, both_run}
use Rattle.dm_tree.proofs.Freed.{free_change_is, free_pair_is}
use Rattle.dm_tree.specs.Relaxed.{relaxed_cost_of}
use Rattle.dm_times.proofs.Meeting.{rows_are_met}
use Rattle.dm_relax.specs.Complete.{completed_kept, completed_small_first, completed_change, completed_pair, completion_of}
use Rattle.dm_relax.specs.Laws.{ViolatesNothing}
use Rattle.dm_paths.proofs.Naming.{pair_found, pair_found_back}
use Rattle.dm_paths.proofs.Setting.{DiffersInDecisions, KeepsLocked, HasDecision, differs_in_none, differs_with, locks_of, has_each, has_kept, has_first}
use Rattle.dm_paths.proofs.Agreeing.{pair_joins, active_same, lost_same, has_passed_same, passed_same, cancelled_same, cancelled_end_same, span_same}
use Rattle.dm_relax.proofs.Bounding.{sum-le, if_weight, asks_no_more, costs_no_more}
use Rattle.dm_paths.proofs.Apart.{listed}
use Rattle.dm_relax.proofs.Completion.{cases_option, change_completed, pair_completed, completion_holds}

-- what binds into an event that has not passed, and what that needs of a paired headway
active_parts : (passed : Bool) (b : Bool) → cond passed false b ≡ true → (passed ≡ false) × (b ≡ true)
active_parts true b h = cc
active_parts false b h = (refl, h)

-- the headway of a pair out of an event is its own
pub headway_pair : (net : Net) → IsNetwork net → (i j a p : ℕ) → IsHeadwayFrom net i j a → pair_place net i j ≡ Some p →
    (activity_at net a).pair ≡ Some p
headway_pair net network i j a p h found =
    let act = activity_at net a in
    network.formed.is_paired.belongs a h.is_activity
    ∙ cond-true (is_headway act.kind) (pair_place net act.tail act.head) None h.headway
    ∙ ap (λ t. pair_place net t act.head) h.tail
    ∙ ap (λ t. pair_place net i t) h.head
    ∙ found

module _ (net : Net) (network : IsNetwork net) (rows : RowsValue) (sized : IsSized net rows) (path : List Decision) (x : List ℕ)
    (is_path : IsChoiceList net rows path) (nothing : ViolatesNothing net rows path x) (s : RowsValue) (over_s : DiffersInDecisions rows s)
    (locks_s : KeepsLocked rows s) (has_all : (d : Decision) → Contains (completion_of net rows path x) d → HasDecision net s d) where
  q_over : DiffersInDecisions rows (with_decisions net rows path)
  q_over = differs_with net rows rows path (differs_in_none rows)

  locks_q : KeepsLocked rows (with_decisions net rows path)
  locks_q = locks_of net network rows sized path is_path.free

  has_q : (d : Decision) → Contains path d → HasDecision net (with_decisions net rows path) d
  has_q d h = has_each net network rows sized path is_path d h

  has_s : (d : Decision) → Contains path d → HasDecision net s d
  has_s d h = has_all d (completion_holds net network rows sized path x is_path d h)

  kept_s : (a : ℕ) → a < length net.activities → is_free_change net rows a ≡ true → kept_at s a ≡ completed_kept net rows path a
  kept_s a below free =
      has_kept net network s a (completed_kept net rows path a) below
      (has_all (completed_change net rows path a) (change_completed net network rows sized path x is_path a below free))

  first_s : (p : ℕ) → p < length net.pairs → is_free_pair net rows p ≡ true → small_first_at s p ≡ completed_small_first net rows path x p
  first_s p below free =
      has_first net network s p (completed_small_first net rows path x p) below
      (has_all (completed_pair net rows path x p) (pair_completed net network rows sized path x is_path p below free))

  change_is_met : (a : ℕ) → a < length net.activities → is_undecided_change net rows path a ≡ true →
      time_at x (activity_at net a).tail + span_of net rows a ≤ time_at x (activity_at net a).head
  change_is_met a below undecided =
      let early : comes_too_early net rows x a ≡ false =
      false_from_ne_true (comes_too_early net rows x a)
      (λ e. nothing.none (change_choice net a)
      (Contains-append_left _ _ (change_choice net a)
      (listed (change_choice net) (is_violated_change net rows path x) 0 (length net.activities) a (omega arith) (omega arith)
      (and_from (is_undecided_change net rows path a) (comes_too_early net rows x a) undecided e)))) in
      ltb-false (time_at x (activity_at net a).head) (time_at x (activity_at net a).tail + span_of net rows a) early

  -- of an undecided pair one direction is met
  pair_is_met : (p : ℕ) → p < length net.pairs → is_undecided_pair net rows path p ≡ true →
      (has_unmet_from net rows x p (pair_at net p).small ≡ false) ⊎ (has_unmet_from net rows x p (pair_at net p).large ≡ false)
  pair_is_met p below undecided =
      let small : Bool = has_unmet_from net rows x p (pair_at net p).small in
      let large : Bool = has_unmet_from net rows x p (pair_at net p).large in
      let none : (is_undecided_pair net rows path p && small && large) ≡ false =
      false_from_ne_true (is_undecided_pair net rows path p && small && large)
      (λ e. nothing.none (pair_choice net p)
      (Contains-append_right _ _ (pair_choice net p)
      (listed (pair_choice net) (is_violated_pair net rows path x) 0 (length net.pairs) p (omega arith) (omega arith) e))) in
      elim (and_cases (is_undecided_pair net rows path p && small) large none) [
        | inl both ↦ elim (and_cases (is_undecided_pair net rows path p) small both) [
          | inl u ↦ absurd (both_ways (is_undecided_pair net rows path p) u undecided)
          | inr m ↦ inl m
        ]
        | inr m ↦ inr m
      ]

  -- what goes in a direction that is met is met
  met_from : (p t a : ℕ) → has_unmet_from net rows x p t ≡ false → a < length net.activities → (activity_at net a).pair ≡ Some p →
      (activity_at net a).tail ≡ t → time_at x (activity_at net a).tail + span_of net rows a ≤ time_at x (activity_at net a).head
  met_from p t a met below is tail =
      let n : ℕ = length net.activities in
      let of_it : is_of_pair p (activity_at net a).pair ≡ true = ap (is_of_pair p) is ∙ eq-eqb p p refl in
      let here : ((activity_at net a).tail == t) ≡ true = eq-eqb (activity_at net a).tail t tail in
      let early : comes_too_early net rows x a ≡ false =
      false_from_ne_true (comes_too_early net rows x a)
      (λ e.
      let unmet : is_unmet_from net rows x p t a ≡ true =
      and_from (is_of_pair p (activity_at net a).pair && (activity_at net a).tail == t) (comes_too_early net rows x a)
      (and_from (is_of_pair p (activity_at net a).pair) ((activity_at net a).tail == t) of_it here) e in
      let at : get_or (range_with_len 0 n) a 0 ≡ a = let g = get_or-range_with_len 0 n a 0 below in omega arith in
      let within : a < length (range_with_len 0 n) = let l = length-range_with_len 0 n in omega arith in
      both_ways (has_unmet_from net rows x p t) met
      (list_any_at (is_unmet_from net rows x p t) (range_with_len 0 n) a 0 within
      (subst (λ i. is_unmet_from net rows x p t i ≡ true) (sym at) unmet))) in
      ltb-false (time_at x (activity_at net a).head) (time_at x (activity_at net a).tail + span_of net rows a) early

  -- where a direction is met, its tail comes earlier
  goes_first : (i j a p : ℕ) → IsHeadwayFrom net i j a → pair_place net i j ≡ Some p → has_unmet_from net rows x p i ≡ false →
      time_at x i < time_at x j
  goes_first i j a p h found met =
      let long : time_at x (activity_at net a).tail + span_of net rows a ≤ time_at x (activity_at net a).head =
      met_from p i a met h.is_activity (headway_pair net network i j a p h found) h.tail in
      let apart : 1 ≤ (activity_at net a).lower = network.formed.headways_are_apart a h.is_activity h.headway in
      let t : time_at x (activity_at net a).tail ≡ time_at x i = ap (time_at x) h.tail in
      let u : time_at x (activity_at net a).head ≡ time_at x j = ap (time_at x) h.head in
      omega arith

  some_is : (o : Option ℕ) (p : ℕ) → o ≡ Some p → IsSome o
  some_is o p e = rw e refl

  forms : (p : ℕ) → p < length net.pairs → FormPair net (pair_at net p).small (pair_at net p).large
  forms p below =
      (network.formed.is_paired.exact (pair_at net p).small (pair_at net p).large).0 (some_is _ p (pair_found net network p below))

  -- the event from which all is met goes first
  small_goes_first : (p : ℕ) → p < length net.pairs → has_unmet_from net rows x p (pair_at net p).small ≡ false →
      time_at x (pair_at net p).small < time_at x (pair_at net p).large
  small_goes_first p below met =
      let f = (forms p below).1 in goes_first (pair_at net p).small (pair_at net p).large f.0 p f.1 (pair_found net network p below) met

  large_goes_first : (p : ℕ) → p < length net.pairs → has_unmet_from net rows x p (pair_at net p).large ≡ false →
      time_at x (pair_at net p).large < time_at x (pair_at net p).small
  large_goes_first p below met =
      let f = (forms p below).2 in goes_first (pair_at net p).large (pair_at net p).small f.0 p f.1 (pair_found_back net network p below) met

  -- the direction that goes first by its times is the one that is met
  small_is_met : (p : ℕ) → p < length net.pairs → is_undecided_pair net rows path p ≡ true →
      time_at x (pair_at net p).small < time_at x (pair_at net p).large → has_unmet_from net rows x p (pair_at net p).small ≡ false
  small_is_met p below undecided order =
      elim (pair_is_met p below undecided) [ inl m ↦ m | inr m ↦ let back = large_goes_first p below m in absurd (omega arith) ]

  large_is_met : (p : ℕ) → p < length net.pairs → is_undecided_pair net rows path p ≡ true →
      time_at x (pair_at net p).large ≤ time_at x (pair_at net p).small → has_unmet_from net rows x p (pair_at net p).large ≡ false
  large_is_met p below undecided order =
      elim (pair_is_met p below undecided) [ inl m ↦ let forth = small_goes_first p below m in absurd (omega arith) | inr m ↦ m ]

  -- what binds of an undecided pair goes out of the event that is first
  tail_is_first : (kind : ActKind) (p tail a : ℕ) → is_headway kind ≡ true → has_passed s tail ≡ false → binds net s kind (Some p) tail a ≡ true →
      tail ≡ first_event net p (small_first_at s p)
  tail_is_first Headway p tail a k free h =
      eqb-true tail (first_event net p (small_first_at s p))
      (sym (cond-false (has_passed s tail) true (tail == first_event net p (small_first_at s p)) free) ∙ h)
  tail_is_first Drive p tail a k free h = cc
  tail_is_first Wait p tail a k free h = cc
  tail_is_first Turnaround p tail a k free h = cc
  tail_is_first ChangeKind p tail a k free h = cc

  headway_is_met : (a p : ℕ) → a < length net.activities → (activity_at net a).pair ≡ Some p → is_undecided_pair net rows path p ≡ true →
      is_active net s a ≡ true → time_at x (activity_at net a).tail + span_of net rows a ≤ time_at x (activity_at net a).head
  headway_is_met a p below is undecided active =
      let act = activity_at net a in
      let small : ℕ = (pair_at net p).small in
      let large : ℕ = (pair_at net p).large in
      let j = pair_joins net network a p below is in
      let opened = active_is_open net s a active in
      let parts = active_parts (has_passed s act.head) (binds net s act.kind act.pair act.tail a)
      (sym (active_runs net s a (both_run _ _ opened.1 opened.2)) ∙ active) in
      let free : is_free_pair net rows p ≡ true = (and_parts (is_free_pair net rows p) (not (is_decided path (pair_choice net p))) undecided).0 in
      let ends = free_pair_is net rows p free in
      let free_tail : has_passed rows act.tail ≡ false =
      elim j.ends [
        | inl e ↦ ap (has_passed rows) (sym e.0) ∙ ends.small_ahead
        | inr e ↦ ap (has_passed rows) (sym e.1) ∙ ends.large_ahead
      ] in
      let bound : binds net s act.kind (Some p) act.tail a ≡ true = subst (λ o. binds net s act.kind o act.tail a ≡ true) is parts.1 in
      let first : act.tail ≡ first_event net p (small_first_at s p) =
      tail_is_first act.kind p act.tail a j.headway (has_passed_same rows s over_s act.tail ∙ free_tail) bound in
      let by_times : small_first_at s p ≡ nat_lt (time_at x small) (time_at x large) =
      first_s p j.is_pair free
      ∙ cond-true (is_undecided_pair net rows path p) (nat_lt (time_at x small) (time_at x large)) (small_first_at (with_decisions net rows path) p) undecided in
      elim (cases_Bool (nat_lt (time_at x small) (time_at x large))) [
        | inl less ↦
            let tail : act.tail ≡ small = first ∙ ap (first_event net p) (by_times ∙ less) in
            met_from p small a (small_is_met p j.is_pair undecided (ltb-true (time_at x small) (time_at x large) less)) below is tail
        | inr more ↦
            let tail : act.tail ≡ large = first ∙ ap (first_event net p) (by_times ∙ more) in
            met_from p large a (large_is_met p j.is_pair undecided (ltb-false (time_at x small) (time_at x large) more)) below is tail
      ]

  undecided_is_met : (a : ℕ) → a < length net.activities → is_of_undecided net rows path a (activity_at net a).pair ≡ true →
      is_active net s a ≡ true → time_at x (activity_at net a).tail + span_of net rows a ≤ time_at x (activity_at net a).head
  undecided_is_met a below undecided active =
      elim (cases_option (activity_at net a).pair) [
        | inl none ↦ change_is_met a below (subst (λ o. is_of_undecided net rows path a o ≡ true) none undecided)
        | inr some ↦ headway_is_met a some.0 below some.1 (subst (λ o. is_of_undecided net rows path a o ≡ true) some.1 undecided) active
      ]

  active_is_met : (a : ℕ) → a < length net.activities → is_active net s a ≡ true →
      time_at x (activity_at net a).tail + span_of net s a ≤ time_at x (activity_at net a).head
  active_is_met a below active =
      let q : RowsValue = with_decisions net rows path in
      let span : span_of net s a ≡ span_of net rows a = span_same rows s over_s net a in
      elim (cases_Bool (is_of_undecided net rows path a (activity_at net a).pair)) [
        | inl undecided ↦ let m = undecided_is_met a below undecided active in omega arith
        | inr decided ↦
            let in_q : is_active net q a ≡ true = active_same net network rows path q s q_over over_s has_q has_s locks_q locks_s a below decided ∙ active in
            let held : is_relaxed_active net rows path a ≡ true =
            cond-false (is_of_undecided net rows path a (activity_at net a).pair) false (is_active net q a) decided ∙ in_q in
            let m = nothing.least.meets.along a below held in
            let span' : span_of net q a ≡ span_of net rows a = span_same rows q q_over net a in
            omega arith
      ]

  -- the relaxed times are least for the completed rows
  pub completed_meets : Meets net s x
  completed_meets =
      let q : RowsValue = with_decisions net rows path in
      let m = nothing.least.meets in
      let unpassed : (i : ℕ) → passed_at s i ≡ None → passed_at q i ≡ None =
      λ i none. passed_same rows q q_over i ∙ sym (passed_same rows s over_s i) ∙ none in
      record {
        size = m.size;
        passed = λ i t below is. m.passed i t below (passed_same rows q q_over i ∙ sym (passed_same rows s over_s i) ∙ is);
        above = λ i below none.
            let f = m.above i below (unpassed i none) in
            let e : planned_time net q i ≡ planned_time net s i =
            ap (λ xs. (event_at net i).time + slice_index_or xs i 0) (q_over.event_delays ∙ sym over_s.event_delays) in
            omega arith;
        clock = λ i below none.
            let f = m.clock i below (unpassed i none) in
            let e : q.clock ≡ s.clock = q_over.clock ∙ sym over_s.clock in
            omega arith;
        along = active_is_met;
      }

  pub completed_least : IsLeast net s x
  completed_least =
      least_from_graph net s (is_active net s) x network.formed.ends_are_known nothing.least.meets.size (active_enter_no_passed net s)
      (least_for_more (graph_holding net (with_decisions net rows path) (is_relaxed_active net rows path)) (graph_of net s)
      (asks_no_more net network rows path s over_s locks_q locks_s has_q has_s) (time_at x)
      (least_to_graph net (with_decisions net rows path) (is_relaxed_active net rows path) x network.formed.ends_are_known
      (relaxed_enter_no_passed net rows path) nothing.least)
      (to_graph net s (is_active net s) x completed_meets))

  pub completed_has_no_cycle : HasNoCycle net s
  completed_has_no_cycle = (rows_are_met net s network).0 (x, completed_meets)

  -- a change that is lost then is lost by the path
  charged_back : (a : ℕ) → a < length net.activities → is_lost_change net s a ≡ true → is_relaxed_lost net rows path a ≡ true
  charged_back a below h =
      let act = activity_at net a in
      let q : RowsValue = with_decisions net rows path in
      let change : Bool = is_change act.kind in
      let lost = and_parts (change && not (has_passed s act.head)) (not (kept_at s a) || has_cancelled_end net s a) h in
      let settled : is_undecided_change net rows path a ≡ false =
      false_from_ne_true (is_undecided_change net rows path a)
      (λ u.
      let free : is_free_change net rows a ≡ true =
      (and_parts (is_free_change net rows a) (not (is_decided path (change_choice net a))) u).0 in
      let kept : kept_at s a ≡ true = kept_s a below free ∙ cond-true (is_undecided_change net rows path a) true (kept_at q a) u in
      let runs : has_cancelled_end net s a ≡ false =
      cancelled_end_same rows s over_s net a ∙ (free_change_is net rows a free).runs in
      both_ways (not (kept_at s a) || has_cancelled_end net s a)
      (or_from (not (kept_at s a)) (has_cancelled_end net s a) (not_from_true (kept_at s a) kept) runs) lost.1) in
      and_from (is_lost_change net q a) (not (is_undecided_change net rows path a))
      (lost_same net network rows path q s q_over over_s has_q has_s locks_q locks_s a below settled ∙ h)
      (not_from_false (is_undecided_change net rows path a) settled)

  -- what is cancelled is, then and before
  gone_back : (i : ℕ) → is_cancelled s i ≡ is_cancelled (with_decisions net rows path) i
  gone_back i = cancelled_same rows s over_s i ∙ sym (cancelled_same rows (with_decisions net rows path) q_over i)

  late_back : (i : ℕ) → event_cost net s x i ≡ event_cost net (with_decisions net rows path) x i
  late_back i =
      ap (λ b. cond (is_arrival (event_at net i).kind && not b) ((event_at net i).weight * lateness net x i) 0) (gone_back i)

  cancelled_back : (i : ℕ) → cancelled_weight net s i ≡ cancelled_weight net (with_decisions net rows path) i
  cancelled_back i = ap (λ b. cond (is_arrival (event_at net i).kind && b) (event_at net i).weight 0) (gone_back i)

  missed_back : (a : ℕ) → missed_weight net s x a ≤ missed_weight net (with_decisions net rows path) x a
  missed_back a =
      let act = activity_at net a in
      let q : RowsValue = with_decisions net rows path in
      let passed : has_passed s act.head ≡ has_passed q act.head = has_passed_same rows s over_s act.head ∙ sym (has_passed_same rows q q_over act.head) in
      let span : span_of net s a ≡ span_of net q a = span_same rows s over_s net a ∙ sym (span_same rows q q_over net a) in
      let same : missed_weight net s x a ≡ missed_weight net q x a =
      ap (λ b. cond (is_change act.kind && b && (is_cancelled s act.tail || comes_too_early net s x a)) act.weight 0) passed
      ∙ ap (λ b. cond (is_change act.kind && has_passed q act.head && (b || comes_too_early net s x a)) act.weight 0) (gone_back act.tail)
      ∙ ap (λ n. cond (is_change act.kind && has_passed q act.head
      && (is_cancelled q act.tail || nat_lt (time_at x act.head) (time_at x act.tail + n))) act.weight 0) span in
      omega arith

  pub completed_costs : (penalty : ℕ) → cost_of net s x penalty ≡ relaxed_cost_of net rows path x penalty
  completed_costs penalty =
      let q : RowsValue = with_decisions net rows path in
      let n : ℕ = length net.events in
      let m : ℕ = length net.activities in
      let one : relaxed_cost_of net rows path x penalty ≤ cost_of net s x penalty =
      costs_no_more net network rows path s over_s locks_q locks_s has_q has_s x x nothing.least completed_least penalty in
      let dropped : sum_by (charged_weight net (is_lost_change net s)) (range_with_len 0 m) ≤ sum_by (charged_weight net (is_relaxed_lost net rows path)) (range_with_len 0 m) =
      sum-le _ _ 0 m (λ a low high.
      if_weight (is_lost_change net s a) (is_relaxed_lost net rows path a) (activity_at net a).weight (charged_back a (omega arith))) in
      let misses : sum_by (missed_weight net s x) (range_with_len 0 m) ≤ sum_by (missed_weight net q x) (range_with_len 0 m) =
      sum-le _ _ 0 m (λ a low high. missed_back a) in
      let late : sum_by (event_cost net s x) (range_with_len 0 n) ≤ sum_by (event_cost net q x) (range_with_len 0 n) =
      sum-le _ _ 0 n (λ i low high. let e = late_back i in omega arith) in
      let gone : sum_by (cancelled_weight net s) (range_with_len 0 n) ≤ sum_by (cancelled_weight net q) (range_with_len 0 n) =
      sum-le _ _ 0 n (λ i low high. let e = cancelled_back i in omega arith) in
      let c = mul-le-mul_left penalty gone in
      let d = mul-le-mul_left penalty dropped in
      let e = mul-le-mul_left penalty misses in
      let other : cost_of net s x penalty ≤ relaxed_cost_of net rows path x penalty = omega (arith, late, c, d, e) in
      omega (arith, one, other)
