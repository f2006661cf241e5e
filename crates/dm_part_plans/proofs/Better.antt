-- What a solved path completes to are choices that a plan may have.
use Rattle.std.proofs.Common.{ℕ, List, ◌++◌, sym, subst, ◌∙◌}
use Rattle.dm_network.specs.Net.{Net}
use Rattle.dm_network.specs.Start.{IsNetwork}
use Rattle.dm_rows.specs.declared.messages.Decision.{Decision}
use Rattle.dm_rows.specs.Rows.{RowsValue}
use Rattle.dm_rows.specs.Decide.{IsChoiceList}
use Rattle.dm_rows.specs.Relax.{violated_choices_of}
use Rattle.dm_relax.proofs.Differing.{differences_complete}
use Rattle.dm_evaluate.specs.Evaluator.{EvaluatorValue}
use Rattle.dm_task.specs.Posed.{task_beside, IsPosed}
use Rattle.dm_traverse.specs.Steps.{IsSolved}
use Rattle.dm_traverse.specs.Moving.{IsOver}
use Rattle.dm_traverse.proofs.Beside.{differences_beside}
use Rattle.dm_traverse.proofs.Walks.{path_list}
use Rattle.dm_part_plans.specs.Inside.Chosen.{AreChosen}
use Rattle.dm_traverse.proofs.Finding.{first_of_none}

-- behind the base of a task, as `found_better` of dm_search, but for what the rows cost by themselves
chosen_behind : (net : Net) → IsNetwork net → (rows : RowsValue) (penalty : ℕ) (base : List Decision) (budget : ℕ) →
    IsPosed net rows penalty base budget → (path : List Decision) → IsChoiceList net rows (base ++ path) → (best c : ℕ) (choices : List Decision) →
    IsSolved net rows (base ++ path) penalty best c choices → AreChosen (task_beside net rows penalty base budget) choices c
chosen_behind net network rows penalty base budget posed path list best c choices h =
    let done = differences_complete net rows (base ++ path) h.times network posed.sized list
    (record { least = h.least; none = λ ch v. first_of_none (violated_choices_of net rows (base ++ path) h.times) ch h.nothing v }) in
    rw h.completes (record {
      some = differences_beside net network rows posed.sized base path list h.times posed.as_the_rows done.in_order;
      differ = done.differ;
      costs = record {
        no_cycle = done.no_cycle;
        cost = record { times = h.times; least = done.least; cost = h.cost ∙ sym (done.cost penalty) };
      };
    })

-- where an evaluator of the task stands
pub chosen_here : (net : Net) → IsNetwork net → (rows : RowsValue) (penalty : ℕ) (base : List Decision) (budget : ℕ) →
    IsPosed net rows penalty base budget → (e : EvaluatorValue) → (over : IsOver (task_beside net rows penalty base budget) e) →
    (best c : ℕ) (choices : List Decision) → IsSolved net rows e.path penalty best c choices →
    AreChosen (task_beside net rows penalty base budget) choices c
chosen_here net network rows penalty base budget posed e over best c choices solved =
    chosen_behind net network rows penalty base budget posed over.begins.rest
    (subst (IsChoiceList net rows) over.begins.is (path_list (task_beside net rows penalty base budget) e over)) best c choices
    (subst (λ p. IsSolved net rows p penalty best c choices) over.begins.is solved)
