-- What one step finds is what is known of a leaf.
use Rattle.std.proofs.Common.{◌≡◌, ℕ, ◌<◌, true, List, ◌++◌, refl, sym, subst, ◌∙◌, inl, inr, arith, None, slice_get, lt-ltb}
use Rattle.std.specs.Prelude.{Contains}
use Rattle.std.proofs.lemmas.List.Elements.{Contains-append_cases}
use Rattle.std.proofs.lemmas.Option.{slice_get-get_or}
use Rattle.dm_network.specs.Net.{Net}
use Rattle.dm_network.specs.Start.{IsNetwork}
use Rattle.dm_rows.specs.declared.messages.Choice.{Choice}
use Rattle.dm_rows.specs.declared.messages.Decision.{Decision}
use Rattle.dm_rows.specs.Rows.{RowsValue}
use Rattle.dm_rows.specs.Decide.{free_choices_of, free_changes_of, free_pairs_of, change_choice, pair_choice, is_free_change, is_free_pair, IsChoiceList}
use Rattle.dm_rows.specs.Relax.{violated_choices_of}
use Rattle.dm_tree.specs.Plans.{Task, IsViolatedThere}
use Rattle.dm_rows.specs.Sides.{is_ordered}
use Rattle.dm_relax.proofs.Differing.{differences_complete}
use Rattle.dm_paths.proofs.Naming.{from_place, ids_rise}
use Rattle.dm_traverse.specs.Steps.{IsSolved, IsBranchOn}
use Rattle.dm_traverse.specs.Moving.{IsOver}
use Rattle.dm_traverse.specs.Inside.Searching.{AreBest, IsBetter, IsSplit}
use Rattle.dm_task.specs.Posed.{task_beside, IsPosed}
use Rattle.dm_traverse.proofs.Beside.{beside_is_task, differences_beside}
use Rattle.dm_traverse.proofs.Leaves.{violated_is_undecided}
use Rattle.dm_traverse.proofs.Optimal.{allowed_there}
use Rattle.dm_traverse.proofs.Walks.{path_list}
use Rattle.dm_evaluate.specs.Evaluator.{EvaluatorValue}

-- a free choice is written in order
pub free_is_ordered : (net : Net) → IsNetwork net → (rows : RowsValue) (c : Choice) → Contains (free_choices_of net rows) c → is_ordered c ≡ true
free_is_ordered net network rows c h =
    elim (Contains-append_cases (free_changes_of net rows) (free_pairs_of net rows) c h) [
      | inl l ↦
          let f = from_place (change_choice net) (is_free_change net rows) _ c l in
          subst (λ d. is_ordered d ≡ true) f.is refl
      | inr r ↦
          let f = from_place (pair_choice net) (is_free_pair net rows) _ c r in
          subst (λ d. is_ordered d ≡ true) f.is (lt-ltb _ _ (ids_rise net network f.place f.below))
    ]

-- a list without a first element has none
pub first_of_none : {X : Type 0} (xs : List X) (x : X) → slice_get xs 0 ≡ None → Contains xs x → ⊥
first_of_none xs x none h =
    let lt = h.1 in
    let at = slice_get-get_or xs 0 x (omega arith) in
    cc

module _ (net : Net) (network : IsNetwork net) (rows : RowsValue) (penalty : ℕ) (base : List Decision) (budget : ℕ)
    (posed : IsPosed net rows penalty base budget) (path : List Decision) (list : IsChoiceList net rows (base ++ path)) (best ceiling : ℕ) where
  abbrev task : Task
  task = task_beside net rows penalty base budget

  pub found_better : (c : ℕ) (choices old : List Decision) → IsSolved net rows (base ++ path) penalty best c choices → AreBest task old best →
      IsBetter task path best (record { choices = choices; cost = c })
  found_better c choices old h are =
      let done = differences_complete net rows (base ++ path) h.times network posed.sized list
      (record { least = h.least; none = λ ch v. first_of_none (violated_choices_of net rows (base ++ path) h.times) ch h.nothing v }) in
      rw h.completes (record {
        relaxed = record { times = h.times; least = h.least; cost = h.cost };
        are_best = record {
          choices = differences_beside net network rows posed.sized base path list h.times posed.as_the_rows done.in_order;
          differ = done.differ;
          costs = record {
            no_cycle = done.no_cycle;
            cost = record { times = h.times; least = done.least; cost = h.cost ∙ sym (done.cost penalty) };
          };
          own_cost = are.own_cost;
          of_rows = are.of_rows;
          no_dearer = let a = h.less in let b = are.no_dearer in omega arith;
        };
        less = let a = h.less in omega arith;
      })

  violated_there : (c : ℕ) (choice : Choice) → IsBranchOn net rows (base ++ path) penalty best c choice → IsViolatedThere task path choice c
  violated_there c choice h =
      record {
        times = h.times;
        least = h.least;
        cost = h.cost;
        violated = h.violated;
      }

  pub found_split : (c : ℕ) (choice : Choice) (old : List Decision) → IsBranchOn net rows (base ++ path) penalty best c choice →
      AreBest task old best → c < ceiling → IsSplit task path ceiling choice
  unfolding violated_there
  found_split c choice old h are less =
      let v = violated_there c choice h in
      let undecided = violated_is_undecided net rows (base ++ path) h.times choice v.violated in
      record {
        inner = record {
          no_cycle = h.no_cycle;
          allowed = allowed_there task (beside_is_task net rows penalty base budget network posed) path choice undecided;
          cost = c;
          violated = v;
          own_cost = are.own_cost;
          of_rows = are.of_rows;
          cheaper = let a = h.less in let b = are.no_dearer in omega arith;
        };
        ordered = free_is_ordered net network rows choice undecided.free;
        below = omega arith;
      }

-- where an evaluator stands, behind the base
-- the same of a task that is seen as such a one
module _ (t : Task) (net : Net) (network : IsNetwork net) (rows : RowsValue) (penalty : ℕ) (base : List Decision) (budget : ℕ)
    (posed : IsPosed net rows penalty base budget) (is : task_beside net rows penalty base budget ≡ t) (path : List Decision)
    (list : IsChoiceList t.net t.rows (t.base ++ path)) (best ceiling : ℕ) where
  pub better_of : (c : ℕ) (choices old : List Decision) → IsSolved t.net t.rows (t.base ++ path) t.penalty best c choices → AreBest t old best →
      IsBetter t path best (record { choices = choices; cost = c })
  better_of c choices old solved are =
      subst (λ (u : Task). IsChoiceList u.net u.rows (u.base ++ path) → IsSolved u.net u.rows (u.base ++ path) u.penalty best c choices → AreBest u old best →
      IsBetter u path best (record { choices = choices; cost = c })) is
      (λ l s a. found_better net network rows penalty base budget posed path l best ceiling c choices old s a) list solved are

  pub split_of : (c : ℕ) (choice : Choice) (old : List Decision) → IsBranchOn t.net t.rows (t.base ++ path) t.penalty best c choice →
      AreBest t old best → c < ceiling → IsSplit t path ceiling choice
  split_of c choice old there are below =
      subst (λ (u : Task). IsChoiceList u.net u.rows (u.base ++ path) → IsBranchOn u.net u.rows (u.base ++ path) u.penalty best c choice → AreBest u old best →
      IsSplit u path ceiling choice) is
      (λ l b a. found_split net network rows penalty base budget posed path l best ceiling c choice old b a below) list there are

pub better_here : (net : Net) → IsNetwork net → (rows : RowsValue) (penalty : ℕ) (base : List Decision) (budget : ℕ) →
    IsPosed net rows penalty base budget → (e : EvaluatorValue) → (over : IsOver (task_beside net rows penalty base budget) e) →
    (best c : ℕ) (choices old : List Decision) → IsSolved net rows e.path penalty best c choices → AreBest (task_beside net rows penalty base budget) old best →
    IsBetter (task_beside net rows penalty base budget) over.begins.rest best (record { choices = choices; cost = c })
better_here net network rows penalty base budget posed e over best c choices old solved are =
    found_better net network rows penalty base budget posed over.begins.rest
    (subst (IsChoiceList net rows) over.begins.is (path_list (task_beside net rows penalty base budget) e over)) best 0 c choices old
    (subst (λ p. IsSolved net rows p penalty best c choices) over.begins.is solved) are
