-- What is made of a plan is for the same rows.
use Rattle.std.proofs.Common.{◌≡◌, ℕ, ◌≤◌, Result, Ok, Err, subst, ◌∙◌}
use Rattle.std.specs.Prelude.{IfOk}
use Rattle.std.specs.declared.alloc.AllocError.{AllocError}
use Rattle.dm_network.specs.Net.{Net}
use Rattle.dm_rows.specs.declared.rows.Snapshot.{Snapshot}
use Rattle.dm_tree.specs.Plans.{Task, whole_task}
use Rattle.dm_parts.specs.declared.parts.PlanByParts.{PlanByParts}
use Rattle.dm_parts.specs.Parts.{IsTruePlanByParts}
use Rattle.dm_parts.specs.Sizes.{ids_of, most_ids}
use Rattle.dm_desk.specs.Planning.{SolvesFor}

pub solves : (net : Net) (penalty : ℕ) (snapshot : Snapshot) (budget entry : ℕ) (task : Task) (given : Result PlanByParts AllocError) → task ≡ whole_task net snapshot.rows penalty budget →
    entry ≡ snapshot.entry → IfOk given (IsTruePlanByParts task) → IfOk given (λ found. found.entry ≡ entry) → IfOk given (λ found. ids_of found.parts ≤ most_ids) →
    IfOk given (SolvesFor net penalty snapshot budget)
solves net penalty snapshot budget entry task (Ok found) same at is entry_is few = record {
  entry = entry_is ∙ at;
  is_true = subst (λ (t : Task). IsTruePlanByParts t found) same is;
  few_ids = few;
}
solves net penalty snapshot budget entry task (Err e) same at is entry_is few = tt
