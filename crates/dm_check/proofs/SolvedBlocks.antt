-- The lines of a plan by parts behind its first line, and what they come to.
use Rattle.std.proofs.Common.{◌≡◌, ℕ, Bool, List, [], ◌∷◌, ◌++◌, Result, Ok, Err, refl, sym, ap, subst, ◌⊎◌, inl, inr, ◌∙◌}
use Rattle.dm_text.specs.Places.{Place}
use Rattle.dm_rows.specs.declared.messages.Entry.{Entry}
use Rattle.dm_parts.specs.declared.parts.PlanByParts.{PlanByParts}
use Rattle.dm_cert.specs.declared.faults.CertFault.{CertFault}
use Rattle.dm_cert.specs.declared.faults.CertKind.{CertKind}
use Rattle.dm_cert.specs.declared.faults.CertKind.TheVariants as cert
use Rattle.dm_cert.specs.declared.replies.LogItem.{LogItem}
use Rattle.dm_cert.specs.Answers.{Setting}
use Rattle.dm_cert.specs.PlansRead.{want_of_memory}
use Rattle.dm_cert.specs.SolvedRead.{TellsSolvedBehind}
use Rattle.dm_records.specs.RunLines.{SolvedOpening, solved, heading_of, solved_item}
use Rattle.dm_check_answers.specs.declared.past.Past.{Past}
use Rattle.dm_check.specs.declared.faults.Stop.{Stop}
use Rattle.dm_check.specs.declared.faults.Stop.TheVariants.{Fault as Found, OutOfMemory}
use Rattle.dm_check.specs.declared.verdicts.BadKind.TheVariants as kind
use Rattle.dm_check.specs.FalseRecords.{bad, IsSameKind, InRun, IsNextItem}
use Rattle.dm_check.specs.Judged.{Judged, KeepsItem, BehindOn}
use Rattle.dm_check.specs.Inside.Blocks.{stop_at, stop_of}

-- a fault that is told stops the judgement, and so does want of memory
module _ {V X : Type 0} (tells : Place → Result (V × Place) CertFault → Type 0) (seen : X → V) (old new : Place) (fault : CertFault) where
  told_stop : (k : CertKind) → fault.kind ≡ k → tells old (Err fault) → Judged (InRun tells) seen old new (Err (stop_at fault.line k))
  told_stop cert.Form is told = record { cert = fault; told = told; line = refl; kind = subst (λ k. IsSameKind k kind.Form) (sym is) refl }
  told_stop cert.Truncated is told = record { cert = fault; told = told; line = refl; kind = subst (λ k. IsSameKind k kind.Truncated) (sym is) refl }
  told_stop cert.NotATree is told = record { cert = fault; told = told; line = refl; kind = subst (λ k. IsSameKind k kind.Plan) (sym is) refl }
  told_stop cert.OutOfMemory is told = tt

  pub stopped : (stop : Stop) → stop ≡ stop_of fault → (fault ≡ want_of_memory) ⊎ tells old (Err fault) → Judged (InRun tells) seen old new (Err stop)
  stopped stop is (inl wants) =
      let none : stop ≡ OutOfMemory = is ∙ ap stop_of wants in
      subst (λ (t : Stop). Judged (InRun tells) seen old new (Err t)) (sym none) tt
  stopped stop is (inr told) = subst (λ (t : Stop). Judged (InRun tells) seen old new (Err t)) (sym is) (told_stop fault.kind refl told)

module _ (s : Setting) (history : List Entry) (feed : ℕ) (before : List LogItem) (first : ℕ) (past : Past) (named : List Bool) (opening : SolvedOpening) (old new : Place) where
  pub solution_stopped : (mid : Place) (stop : Stop) → Judged {X = PlanByParts} (InRun (TellsSolvedBehind opening.entry (heading_of opening))) (λ plan. plan) old mid (Err stop) →
      BehindOn s history feed before first (solved opening) old new past named named (Err stop)
  solution_stopped mid (Found fault) told = inl told
  solution_stopped mid OutOfMemory told = tt

  pub solution_next : (plan : PlanByParts) (named_too : List Bool) → TellsSolvedBehind opening.entry (heading_of opening) old (Ok (plan, new)) → IsNextItem s history feed before (solved_item opening plan) →
      KeepsItem before past named named_too (solved_item opening plan) → BehindOn s history feed before first (solved opening) old new past named named_too (Ok (tt {0}))
  solution_next plan named_too told next keeps = record {
    value = solved_item opening plan;
    told = record { value = plan; behind = new; told = told; then = (next, refl, refl) };
    holds_of = keeps;
  }

  pub solution_untrue : (plan : PlanByParts) → TellsSolvedBehind opening.entry (heading_of opening) old (Ok (plan, new)) → (IsNextItem s history feed before (solved_item opening plan) → ⊥) →
      BehindOn s history feed before first (solved opening) old new past named named (Err (Found (bad kind.Plan first)))
  solution_untrue plan told none = inr (record { value = plan; behind = new; told = told; then = (none, refl) })
