use Rattle.std.proofs.Common.{Bool, refl, subst}
use Rattle.dm_parts.specs.declared.kinds.AnyPlan.TheVariants.{ByParts}
use Rattle.dm_cert.specs.declared.replies.LogItem.TheVariants.{Answered}
use Rattle.dm_cert.specs.declared.replies.Reply.TheVariants.{Solved}
use Rattle.dm_check_rows.specs.Claims.{Tells}
use Rattle.dm_check.specs.FalseRecords.{IsNextItem}
use Rattle.dm_check.proofs.Items.{nothing_named}
use Rattle.dm_check.proofs.told_items.Logs.is_true_solution.Goals as goal

pub returns-in-Ok-clause-tells : goal.returns-in-Ok-clause-tells
returns-in-Ok-clause-tells c = λ before past.
    let answered = Answered c.args.line c.args.said.now (Solved c.args.plan.now) in
    let next = subst (λ (b : Bool). Tells (IsNextItem c.args.self.now.replay.journal.setting c.args.self.now.replay.journal.history c.args.feed before answered) b) c.in-Ok-true.field-0-test
    (c.in-Ok-true.ensures.tells before past) in (
      next,
      record {
        past_is = (rw c.as_slice.ensures at (c.in-Ok.ensures before c.args.said.now (ByParts c.args.plan.now))) refl past;
        size = refl;
        flagged = λ items flagged. nothing_named items answered c.args.self.now.named.items (λ n. refl) flagged;
      },
    )
