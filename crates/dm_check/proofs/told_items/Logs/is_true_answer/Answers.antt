use Rattle.std.proofs.Common.{Bool, subst}
use Rattle.dm_cert.specs.declared.replies.LogItem.TheVariants.{Answered}
use Rattle.dm_check_rows.specs.Claims.{Tells}
use Rattle.dm_check.specs.FalseRecords.{IsNextItem}
use Rattle.dm_check.proofs.told_items.Logs.is_true_answer.Goals as goal

pub returns-in-Ok-true-clause-tells : goal.returns-in-Ok-true-clause-tells
returns-in-Ok-true-clause-tells c = λ before past.
    let next = subst (λ (b : Bool). Tells (IsNextItem c.args.self.now.replay.journal.setting c.args.self.now.replay.journal.history c.args.feed before (Answered c.args.line c.args.said.now c.args.reply.now)) b)
    c.in-Ok-true.field-0-test (c.in-Ok-true.ensures.tells before past) in (
      next,
      record {
        past_is = c.add_answer.ensures before c.args.said.now past;
        size = c.flag_named.ensures.size;
        flagged = λ items flagged. c.flag_named.ensures.flagged items c.args.line c.args.said.now flagged;
      },
    )
