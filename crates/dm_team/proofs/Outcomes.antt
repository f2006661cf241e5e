-- What an outcome tells of the path at which it was found.
use Rattle.std.proofs.Common.{◌≡◌, ℕ, ◌<◌, ◌≤◌, List, [], ◌∷◌, ◌++◌, Some, refl, sym, ◌∙◌, subst, arith, inl, inr, append_assoc}
use Rattle.std.specs.Prelude.{Contains}
use Rattle.dm_network.specs.Net.{Net}
use Rattle.dm_network.specs.Start.{IsNetwork}
use Rattle.dm_rows.specs.declared.messages.Choice.{Choice}
use Rattle.dm_rows.specs.declared.messages.Decision.{Decision}
use Rattle.dm_rows.specs.Decide.{IsChoiceList, choice_of}
use Rattle.dm_rows.specs.Relax.{violated_choices_of}
use Rattle.dm_rows.specs.Rows.{RowsValue}
use Rattle.dm_rows.specs.Cost.{Costs}
use Rattle.dm_rows.specs.Sides.{first_decision, second_decision, IsOrdered}
use Rattle.dm_rows.proofs.Sides.{ordered, first_decides, second_decides}
use Rattle.dm_relax.proofs.Differing.{differences_complete}
use Rattle.dm_tree.specs.Plans.{CostsRelaxed, IsViolatedThere}
use Rattle.dm_task.specs.Posed.{task_beside, IsPosed}
use Rattle.dm_task.specs.declared.guides.Hint.{Hint}
use Rattle.dm_evaluate.specs.Evaluator.{EvaluatorValue}
use Rattle.dm_traverse.specs.Moving.{IsOver}
use Rattle.dm_traverse.specs.Steps.{IsPruned, IsSolved, IsBranchOn}
use Rattle.dm_traverse.proofs.Beside.{beside_is_task, differences_beside}
use Rattle.dm_traverse.proofs.Finding.{free_is_ordered}
use Rattle.dm_traverse.proofs.Leaves.{violated_is_undecided, path_goes_on}
use Rattle.dm_traverse.proofs.Optimal.{allowed_there}
use Rattle.dm_team.specs.Ways.{IsStep}
use Rattle.dm_team.proofs.Ways.{goes_further}
use Rattle.dm_team.specs.Nodes.{GuidedTask, branching_at, IsChosen, IsNode}
use Rattle.dm_team.specs.Found.{AreKept}

-- a list without a first element has none
first_of_none : {X : Type 0} (xs : List X) (x : X) → Rattle.std.specs.Prelude.slice_get xs 0 ≡ Rattle.std.specs.Prelude.None → Contains xs x → ⊥
first_of_none xs x none h =
    let lt = h.1 in
    let at = Rattle.std.proofs.lemmas.Option.slice_get-get_or xs 0 x (omega arith) in
    cc

-- the choice that is chosen at a path is one
pub one_chosen : (task : GuidedTask) (path : List Decision) (a b : Choice) → IsChosen task path a → IsChosen task path b → a ≡ b
one_chosen task path a b c d = let same : Some a ≡ Some b = sym c.hinted ∙ d.hinted in cc

module _ (net : Net) (network : IsNetwork net) (rows : RowsValue) (penalty : ℕ) (base : List Decision) (budget : ℕ) (hints : List Hint) (posed : IsPosed net rows penalty base budget) where
  abbrev task : GuidedTask
  task = record { task = task_beside net rows penalty base budget; hints = hints }

  pub chosen_is_ordered : (path : List Decision) (c : Choice) → IsChosen task path c → IsOrdered c
  chosen_is_ordered path c h =
      ordered c (free_is_ordered net network rows c (violated_is_undecided net rows (base ++ path) h.inner.violated.times c h.inner.violated.violated).free)

  pub pruned_costs : (path : List Decision) (best c : ℕ) → IsPruned net rows (base ++ path) penalty best c → CostsRelaxed task.task path c
  pruned_costs path best c h = record { times = h.times; least = h.least; cost = h.cost }

  pub solved_costs : (path : List Decision) (best c : ℕ) (choices : List Decision) → IsSolved net rows (base ++ path) penalty best c choices → CostsRelaxed task.task path c
  solved_costs path best c choices h = record { times = h.times; least = h.least; cost = h.cost }

  pub branch_costs : (path : List Decision) (best c : ℕ) (choice : Choice) → IsBranchOn net rows (base ++ path) penalty best c choice → CostsRelaxed task.task path c
  branch_costs path best c choice h = record { times = h.times; least = h.least; cost = h.cost }

  -- choices that cost no more than the rows by themselves may be kept
  pub solved_kept : (path : List Decision) (own best c : ℕ) (choices : List Decision) → IsChoiceList net rows (base ++ path) → IsSolved net rows (base ++ path) penalty best c choices → c ≤ own
      → AreKept task.task own choices c
  solved_kept path own best c choices list h less =
      let done = differences_complete net rows (base ++ path) h.times network posed.sized list
      (record { least = h.least; none = λ ch v. first_of_none (violated_choices_of net rows (base ++ path) h.times) ch h.nothing v }) in
      rw h.completes (record {
        in_order = differences_beside net network rows posed.sized base path list h.times posed.as_the_rows done.in_order;
        differ = done.differ;
        costs = record {
          no_cycle = done.no_cycle;
          cost = record { times = h.times; least = done.least; cost = h.cost ∙ sym (done.cost penalty) };
        };
        no_dearer = less;
      })

  -- so may those that are found where an evaluator of the task stands
  pub solved_along : (e : EvaluatorValue) (own best c : ℕ) (choices : List Decision) → IsOver task.task e → IsSolved net rows e.path penalty best c choices → best ≤ own
      → AreKept task.task own choices c
  solved_along e own best c choices over h low =
      solved_kept over.begins.rest own best c choices
      (subst (IsChoiceList net rows) over.begins.is (subst (λ (r : RowsValue). IsChoiceList net r e.path) over.same over.is.is_path))
      (subst (λ (p : List Decision). IsSolved net rows p penalty best c choices) over.begins.is h) (let less = h.less in omega (arith, less, low))

  -- where a step branches, some choice is violated
  pub branch_violates : (path : List Decision) (best c : ℕ) (choice : Choice) → IsBranchOn net rows (base ++ path) penalty best c choice → IsViolatedThere task.task path choice c
  branch_violates path best c choice h = record { times = h.times; least = h.least; cost = h.cost; violated = h.violated }

  -- a choice on which a step branches is chosen where the guide's tree branches on it, and the path costs less than the rows by themselves
  pub branch_chosen : (path : List Decision) (own best c : ℕ) (choice : Choice) → Costs net rows penalty own → IsBranchOn net rows (base ++ path) penalty best c choice → c < own
      → branching_at hints path ≡ Some choice → IsChosen task path choice
  branch_chosen path own best c choice of_rows h less hinted =
      record {
        inner = record {
          no_cycle = h.no_cycle;
          allowed = allowed_there task.task (beside_is_task net rows penalty base budget network posed) path choice
              (violated_is_undecided net rows (base ++ path) h.times choice h.violated);
          cost = c;
          violated = branch_violates path best c choice h;
          own_cost = own;
          of_rows = of_rows;
          cheaper = less;
        };
        hinted = hinted;
      }

  -- the two paths below a chosen choice are nodes
  below_chosen : (path : List Decision) (c : Choice) (d : Decision) → IsNode task path → IsChosen task path c → choice_of d ≡ c
      → IsStep (IsChosen task) path d → IsNode task (path ++ d ∷ [])
  below_chosen path c d node chosen is step = record {
    list = subst (IsChoiceList net rows) (append_assoc base path (d ∷ []))
        (path_goes_on net rows (base ++ path) d c is node.list (violated_is_undecided net rows (base ++ path) chosen.inner.violated.times c chosen.inner.violated.violated));
    way = goes_further (IsChosen task) [] path d node.way step;
  }

  pub first_below : (path : List Decision) (c : Choice) → IsNode task path → IsChosen task path c → IsNode task (path ++ first_decision c ∷ [])
  first_below path c node chosen =
      below_chosen path c (first_decision c) node chosen (first_decides c (chosen_is_ordered path c chosen)) (record { choice = c; chosen = chosen; side = inl refl })

  pub second_below : (path : List Decision) (c : Choice) → IsNode task path → IsChosen task path c → IsNode task (path ++ second_decision c ∷ [])
  second_below path c node chosen =
      below_chosen path c (second_decision c) node chosen (second_decides c (chosen_is_ordered path c chosen)) (record { choice = c; chosen = chosen; side = inr refl })
