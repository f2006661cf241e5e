-- What an evaluator that stands at a path says of a part's node there.
use Rattle.std.proofs.Common.{◌≡◌, ℕ, List, ◌++◌, subst, inl, inr}
use Rattle.std.proofs.lemmas.Bool.{both_ways, not_from_false}
use Rattle.dm_rows.specs.declared.messages.Choice.{Choice}
use Rattle.dm_rows.specs.declared.messages.Decision.{Decision}
use Rattle.dm_rows.specs.Rows.{RowsValue}
use Rattle.dm_rows.specs.Relax.{is_decided}
use Rattle.dm_tree.specs.Plans.{Task, CostsRelaxed}
use Rattle.dm_tree.specs.Relaxed.{HasNoRelaxedCycle, RelaxedCosts}
use Rattle.dm_paths.specs.Decisions.{IsOpen}
use Rattle.dm_evaluate.specs.Evaluator.{EvaluatorValue}
use Rattle.dm_evaluate.proofs.Decided.{evaluator_no_cycle}
use Rattle.dm_traverse.specs.Laws.{IsTask}
use Rattle.dm_traverse.specs.Moving.{IsOver}
use Rattle.dm_traverse.proofs.Optimal.{decided_longer}
use Rattle.dm_parts.specs.declared.shares.Share.{Share}
use Rattle.dm_parts.specs.Parts.{task_within, IsTrueBranch}
use Rattle.dm_parts.specs.Shares.{within}

module _ (task : Task) (is : IsTask task) (e : EvaluatorValue) (over : IsOver task e) (path : List Decision)
    (there : e.path ≡ task.base ++ path) where
  no_cycle_there : HasNoRelaxedCycle task.net task.rows (task.base ++ path)
  no_cycle_there =
      subst (HasNoRelaxedCycle task.net task.rows) there
      (subst (λ (r : RowsValue). HasNoRelaxedCycle task.net r e.path) over.same (evaluator_no_cycle task.net e over.is))

  -- a choice that is open there may be branched on
  pub branch_there : (c : Choice) → IsOpen task.net e.rows e.path c → IsTrueBranch task path c
  branch_there c open_choice =
      let h : IsOpen task.net task.rows (task.base ++ path) c =
      subst (λ p. IsOpen task.net task.rows p c) there (subst (λ (r : RowsValue). IsOpen task.net r e.path c) over.same open_choice) in
      record {
        no_cycle = no_cycle_there;
        allowed = elim (is.covers c h.free) [
          | inl decided ↦ absurd (both_ways (is_decided (task.base ++ path) c) h.undecided (decided_longer task.base path c decided))
          | inr among ↦ among
        ];
        undecided = not_from_false (is_decided (task.base ++ path) c) h.undecided;
      }

  -- what a share costs there is what a leaf carries
  pub leaf_there : (share : Share) (c : ℕ) → RelaxedCosts (within task.net share) e.rows e.path task.penalty c →
      CostsRelaxed (task_within task share) path c
  leaf_there share c costs =
      subst (λ p. RelaxedCosts (within task.net share) task.rows p task.penalty c) there
      (subst (λ (r : RowsValue). RelaxedCosts (within task.net share) r e.path task.penalty c) over.same costs)
