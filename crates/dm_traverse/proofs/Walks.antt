-- An evaluator that goes back and on along a path.
use Rattle.std.proofs.Common.{◌≡◌, ℕ, zero, suc, ◌+◌, ◌-◌, ◌<◌, ◌≤◌, Bool, true, false, List, [], ◌∷◌, ◌++◌, length, get_or, take, drop, Option, Some, None, refl, sym, ap, subst, ◌∙◌, arith, append-nil}
use Rattle.std.specs.Prelude.{Contains, not, ◌&&◌, slice_get, IfSome}
use Rattle.std.proofs.Math.Seq.{get_or-append_seam, take-append_seam}
use Rattle.std.proofs.lemmas.List.{take_more, take_all, drop_all, length-append}
use Rattle.std.proofs.lemmas.List.Elements.{All-contains, Contains-append_left, Contains-push}
use Rattle.dm_graph.specs.Arcs.{Binds, BindsIn}
use Rattle.dm_graph.proofs.Transfers.{cycle_carries}
use Rattle.dm_network.specs.Net.{Net, activity_at}
use Rattle.dm_network.specs.Held.{arcs_of}
use Rattle.dm_network.specs.Start.{IsNetwork}
use Rattle.dm_rows.specs.declared.messages.Choice.{Choice}
use Rattle.dm_rows.specs.declared.messages.Decision.{Decision}
use Rattle.dm_rows.specs.Decide.{IsChoiceList, choice_of, with_decisions, free_choices_of, is_free_change, is_free_pair, change_choice, pair_choice}
use Rattle.dm_rows.specs.Relax.{is_of_undecided, is_relaxed_active, violated_choices_of}
use Rattle.dm_tree.proofs.Shown.{one_least}
use Rattle.dm_rows.specs.Rows.{RowsValue, IsSized}
use Rattle.dm_rows.specs.Active.{is_active}
use Rattle.dm_evaluate.specs.Evaluator.{EvaluatorValue, IsEvaluatorOf, times_of, path_without}
use Rattle.dm_evaluate.proofs.Relaxing.{relaxed_least, no_relaxed_cycle}
use Rattle.dm_relax.specs.Relaxed.{first_violated, IsRelaxed}
use Rattle.dm_relax.specs.declared.relaxing.Relaxed.{Relaxed}
use Rattle.dm_tree.specs.Plans.{Task}
use Rattle.dm_tree.specs.Relaxed.{IsRelaxedLeast, relaxed_cost_of, IsViolated, HasNoRelaxedCycle}
use Rattle.dm_evaluate.proofs.Lists.{without_at}
use Rattle.dm_paths.proofs.Apart.{got_is_in}
use Rattle.dm_relax.proofs.BoundLaw.{all_from}
use Rattle.dm_rows.proofs.Sides.{same_itself}
use Rattle.dm_paths.proofs.Setting.{has_each, differs_in_none, differs_with, locks_of}
use Rattle.dm_relax.proofs.Bounding.{relaxed_is_active, held_in_relaxed}
use Rattle.dm_traverse.specs.declared.steps.Outcome.{Outcome}
use Rattle.dm_traverse.specs.Steps.{HasRelaxedCycle, IsPruned, IsOutcome, IsBranch, IsBranchOn, IsFoundThere, IsChosenBy, IsHinted, IsByHint}
use Rattle.dm_traverse.specs.Moving.{IsOver}
use Rattle.dm_traverse.proofs.Optimal.{decided_longer}

got_before : (xs ys : List Decision) (k : ℕ) (x : Decision) → slice_get xs k ≡ Some x → slice_get (xs ++ ys) k ≡ Some x
got_before [] ys k x at = cc
got_before (y ∷ xs) ys zero x at = at
got_before (y ∷ xs) ys (suc k) x at = got_before xs ys k x at

pub front_of : (net : Net) (rows : RowsValue) (front rest : List Decision) → IsChoiceList net rows (front ++ rest) → IsChoiceList net rows front
front_of net rows front rest list =
    record {
      free = all_from (λ d. Contains (free_choices_of net rows) (choice_of d)) front
          (λ d h. All-contains (λ e. Contains (free_choices_of net rows) (choice_of e)) (front ++ rest) d list.free (Contains-append_left front rest d h));
      once = λ m n d e a b same. list.once m n d e (got_before front rest m d a) (got_before front rest n e b) same;
    }

-- the last decision is taken back
without_last : (net : Net) (rows : RowsValue) (q : List Decision) (d : Decision) → IsChoiceList net rows (q ++ d ∷ []) →
    path_without (choice_of d) (q ++ d ∷ []) ≡ q
without_last net rows q d list =
    let size = length-append q (d ∷ []) in
    let at = without_at net rows (q ++ d ∷ []) list d (Contains-push q d) (choice_of d) (same_itself (choice_of d)) (length q) (omega (arith, size))
    (get_or-append_seam q d [] d) in
    let none : drop (suc (length q)) (q ++ d ∷ []) ≡ [] = drop_all (suc (length q)) (q ++ d ∷ []) (omega (arith, size)) in
    sym at ∙ (ap (λ ys. take (length q) (q ++ d ∷ []) ++ ys) none ∙ (append-nil (take (length q) (q ++ d ∷ [])) ∙ take-append_seam q (d ∷ [])))

pub taken_back : (net : Net) (rows : RowsValue) (path new : List Decision) (d : Decision) → IsChoiceList net rows path →
    path ≡ take (length path - 1) path ++ d ∷ [] → new ≡ path_without (choice_of d) path → new ≡ take (length path - 1) path
taken_back net rows path new d list e is =
    is ∙ (ap (path_without (choice_of d)) e
    ∙ without_last net rows (take (length path - 1) path) d (subst (IsChoiceList net rows) e list))

pub last_is : (path : List Decision) (d : Decision) → 0 < length path → d ≡ get_or path (length path - 1) d → path ≡ take (length path - 1) path ++ d ∷ []
last_is path d some is =
    let whole : path ≡ take (length path - 1 + 1) path =
    sym (take_all (length path - 1 + 1) path (omega arith)) in
    whole ∙ (take_more path (length path - 1) d (omega arith) ∙ ap (λ x. take (length path - 1) path ++ x ∷ []) (sym is))

fewer : (free before after : Bool) → (before ≡ true → after ≡ true) → (free && not before) ≡ false → (free && not after) ≡ false
fewer false before after h e = refl
fewer true true after h e = rw (h refl) refl
fewer true false after h e = cc

module _ (net : Net) (network : IsNetwork net) (rows : RowsValue) (sized : IsSized net rows) (front rest : List Decision)
    (list : IsChoiceList net rows (front ++ rest)) (front_is : IsChoiceList net rows front) where
  undecided_fewer : (a : ℕ) (pair : Option ℕ) → is_of_undecided net rows front a pair ≡ false → is_of_undecided net rows (front ++ rest) a pair ≡ false
  undecided_fewer a None h = fewer (is_free_change net rows a) _ _ (decided_longer front rest (change_choice net a)) h
  undecided_fewer a (Some p) h = fewer (is_free_pair net rows p) _ _ (decided_longer front rest (pair_choice net p)) h

  still_active : (a : ℕ) → a < length net.activities → is_relaxed_active net rows front a ≡ true → is_relaxed_active net rows (front ++ rest) a ≡ true
  still_active a below h =
      let both = held_in_relaxed (is_of_undecided net rows front a (activity_at net a).pair) (is_active net (with_decisions net rows front) a) h in
      let active : is_active net (with_decisions net rows (front ++ rest)) a ≡ true =
      relaxed_is_active net network rows front (with_decisions net rows (front ++ rest)) (differs_with net rows rows (front ++ rest) (differs_in_none rows))
      (locks_of net network rows sized front front_is.free) (locks_of net network rows sized (front ++ rest) list.free)
      (has_each net network rows sized front front_is)
      (λ d c. has_each net network rows sized (front ++ rest) list d (Contains-append_left front rest d c)) a below h in
      let fewer : is_of_undecided net rows (front ++ rest) a (activity_at net a).pair ≡ false = undecided_fewer a (activity_at net a).pair both.0 in
      rw fewer active

  there : (a : ℕ) → Binds (arcs_of net (is_relaxed_active net rows front)) a →
      BindsIn (arcs_of net (is_relaxed_active net rows front)) (arcs_of net (is_relaxed_active net rows (front ++ rest))) a
  there a b = record {
    binds = record {
      is_arc = b.is_arc;
      is_held = still_active a b.is_arc b.is_held;
      from_event = b.from_event;
      to_event = b.to_event;
    };
    same_tail = refl;
    same_head = refl;
  }

  -- a cycle of a front is one of the whole path
  pub longer_cycle : HasRelaxedCycle net rows front → HasRelaxedCycle net rows (front ++ rest)
  longer_cycle h =
      record {
        cycle = h.cycle;
        is_cycle = cycle_carries (arcs_of net (is_relaxed_active net rows front)) (arcs_of net (is_relaxed_active net rows (front ++ rest))) there h.cycle h.is_cycle;
      }

-- what an evaluator shows at its path
module _ (net : Net) (network : IsNetwork net) (e : EvaluatorValue) (is : IsEvaluatorOf net e) (rows : RowsValue) (path : List Decision)
    (same : e.rows ≡ rows) (at : e.path ≡ path) (penalty best c : ℕ) (cost : c ≡ relaxed_cost_of net e.rows e.path (times_of e) penalty) where
  shown_bound : best ≤ c → IsPruned net e.rows e.path penalty best c
  shown_bound no_less =
      record {
        no_cycle = no_relaxed_cycle net e.rows e.path e.priced is.evaluates;
        times = times_of e;
        least = relaxed_least net e.rows e.path e.priced is.evaluates network.formed.ends_are_known is.at_rest;
        cost = cost;
        no_less = no_less;
      }

  pub pruned_there : best ≤ c → IsPruned net rows path penalty best c
  pruned_there no_less =
      subst (λ p. IsPruned net rows p penalty best c) at (subst (λ r. IsPruned net r e.path penalty best c) same (shown_bound no_less))

  shown_branch : (choice : Choice) → c < best → IsViolated net e.rows e.path (times_of e) choice → IsBranchOn net e.rows e.path penalty best c choice
  shown_branch choice less violated =
      record {
        no_cycle = no_relaxed_cycle net e.rows e.path e.priced is.evaluates;
        times = times_of e;
        least = relaxed_least net e.rows e.path e.priced is.evaluates network.formed.ends_are_known is.at_rest;
        cost = cost;
        less = less;
        violated = violated;
      }

  pub branch_there : (choice : Choice) → c < best → IsViolated net e.rows e.path (times_of e) choice → IsBranchOn net rows path penalty best c choice
  branch_there choice less violated =
      subst (λ p. IsBranchOn net rows p penalty best c choice) at
      (subst (λ r. IsBranchOn net r e.path penalty best c choice) same (shown_branch choice less violated))

  shown_first : (choice : Choice) → c < best → first_violated net e.rows e.path (times_of e) ≡ Some choice → IsBranch net e.rows e.path penalty best c choice
  shown_first choice less first =
      record {
        no_cycle = no_relaxed_cycle net e.rows e.path e.priced is.evaluates;
        times = times_of e;
        least = relaxed_least net e.rows e.path e.priced is.evaluates network.formed.ends_are_known is.at_rest;
        cost = cost;
        less = less;
        first = first;
      }

  pub first_there : (choice : Choice) → c < best → first_violated net e.rows e.path (times_of e) ≡ Some choice → IsBranch net rows path penalty best c choice
  first_there choice less first =
      subst (λ p. IsBranch net rows p penalty best c choice) at
      (subst (λ r. IsBranch net r e.path penalty best c choice) same (shown_first choice less first))

pub first_is_violated : (net : Net) (rows : RowsValue) (path : List Decision) (x : List ℕ) (choice : Choice) →
    Some choice ≡ first_violated net rows path x → IsViolated net rows path x choice
first_is_violated net rows path x choice first = got_is_in (violated_choices_of net rows path x) 0 choice (sym first)

pub all_violated : (net : Net) (rows : RowsValue) (path : List Decision) (x : List ℕ) (o : Option Choice) → o ≡ first_violated net rows path x →
    IfSome o (IsViolated net rows path x)
all_violated net rows path x None e = tt
all_violated net rows path x (Some choice) e = first_is_violated net rows path x choice e

-- what one step finds is found there
pub step_is_there : (net : Net) (rows : RowsValue) (path : List Decision) (penalty best : ℕ) (o : Outcome) → IsOutcome net rows path penalty best o →
    IsFoundThere net rows path penalty best o
step_is_there net rows path penalty best Outcome.Cycle h = h
step_is_there net rows path penalty best (Outcome.Pruned c) h = h
step_is_there net rows path penalty best (Outcome.Solved c choices) h = h
step_is_there net rows path penalty best (Outcome.Branch c choice) h =
    record {
      no_cycle = h.no_cycle;
      times = h.times;
      least = h.least;
      cost = h.cost;
      less = h.less;
      violated = first_is_violated net rows path h.times choice (sym h.first);
    }

-- an evaluator's path is one of its rows
pub path_list : (task : Task) (e : EvaluatorValue) → IsOver task e → IsChoiceList task.net task.rows e.path
path_list task e over = subst (λ r. IsChoiceList task.net r e.path) over.same over.is.is_path

-- an evaluator of a task shows the relaxed problem of its path
module _ (task : Task) (network : IsNetwork task.net) (e : EvaluatorValue) (over : IsOver task e) where
  pub no_cycle_over : HasNoRelaxedCycle task.net task.rows e.path
  no_cycle_over = subst (λ r. HasNoRelaxedCycle task.net r e.path) over.same (no_relaxed_cycle task.net e.rows e.path e.priced over.is.evaluates)

  pub relaxed_over : (penalty : ℕ) (relaxed : Relaxed) → relaxed.times ≡ times_of e → relaxed.violated ≡ None →
      relaxed.cost ≡ relaxed_cost_of task.net e.rows e.path (times_of e) penalty → first_violated task.net e.rows e.path (times_of e) ≡ None →
      IsRelaxed task.net task.rows e.path penalty relaxed
  relaxed_over penalty relaxed same_times none cost nothing =
      subst (λ r. IsRelaxed task.net r e.path penalty relaxed) over.same
      (record {
        times = rw same_times (relaxed_least task.net e.rows e.path e.priced over.is.evaluates network.formed.ends_are_known over.is.at_rest);
        cost = rw same_times cost;
        violated = rw same_times (none ∙ sym nothing);
      })

pub outcome_along : (net : Net) (rows : RowsValue) (path at : List Decision) (penalty best : ℕ) (o : Outcome) → at ≡ path →
    IsOutcome net rows at penalty best o → IsOutcome net rows path penalty best o
outcome_along net rows path at penalty best o e h = subst (λ p. IsOutcome net rows p penalty best o) e h

pub found_along : (net : Net) (rows : RowsValue) (path at : List Decision) (penalty best : ℕ) (o : Outcome) → at ≡ path →
    IsOutcome net rows at penalty best o → IsFoundThere net rows path penalty best o
found_along net rows path at penalty best o e h =
    step_is_there net rows path penalty best o (subst (λ p. IsOutcome net rows p penalty best o) e h)

-- what an evaluator shows of a hint where it stands
module _ (net : Net) (network : IsNetwork net) (e : EvaluatorValue) (is : IsEvaluatorOf net e) (rows : RowsValue) (path : List Decision)
    (same : e.rows ≡ rows) (at : e.path ≡ path) (hint : Option Choice) where
  least_there : IsRelaxedLeast net rows path (times_of e)
  least_there =
      subst (λ p. IsRelaxedLeast net rows p (times_of e)) at
      (subst (λ r. IsRelaxedLeast net r e.path (times_of e)) same
      (relaxed_least net e.rows e.path e.priced is.evaluates network.formed.ends_are_known is.at_rest))

  pub hinted_there : (choice : Choice) → IsChosenBy net e.rows e.path (times_of e) hint choice → IsHinted net rows path hint choice
  hinted_there choice chosen =
      record {
        times = times_of e;
        least = least_there;
        chosen = subst (λ p. IsChosenBy net rows p (times_of e) hint choice) at
            (subst (λ r. IsChosenBy net r e.path (times_of e) hint choice) same chosen);
      }

  -- where nothing is violated, one step branches on nothing
  pub none_by_hint : (penalty best : ℕ) (o : Outcome) → first_violated net e.rows e.path (times_of e) ≡ None →
      IsOutcome net rows path penalty best o → IsByHint net rows path hint o
  none_by_hint penalty best Outcome.Cycle none h = tt
  none_by_hint penalty best (Outcome.Pruned c) none h = tt
  none_by_hint penalty best (Outcome.Solved c choices) none h = tt
  none_by_hint penalty best (Outcome.Branch c choice) none h =
      let one : h.times ≡ times_of e =
      one_least net (with_decisions net rows path) (is_relaxed_active net rows path) h.times (times_of e) h.least least_there in
      let first : first_violated net rows path (times_of e) ≡ Some choice =
      subst (λ x. first_violated net rows path x ≡ Some choice) one h.first in
      let nothing : first_violated net rows path (times_of e) ≡ None =
      subst (λ p. first_violated net rows p (times_of e) ≡ None) at
      (subst (λ r. first_violated net r e.path (times_of e) ≡ None) same none) in
      cc
