use Rattle.std.proofs.Common.{subst}
use Rattle.dm_feed.specs.declared.grammar.Line.TheVariants.{Read as AskRead}
use Rattle.dm_cert.specs.Answers.{IsTrueReply}
use Rattle.dm_check_rows.specs.Claims.{Tells}
use Rattle.dm_check_answers.specs.Judging.{ReplayValue}
use Rattle.dm_check_answers.proofs.replay.Replay.is_true_answer.Goals as goal

pub returns-in-Read-clause-tells : goal.returns-in-Read-clause-tells
returns-in-Read-clause-tells c = λ before past.
    rw c.in-Read.is
    (subst (λ (v : ReplayValue). Tells (IsTrueReply v.journal.setting v.journal.history c.args.asked.now.feed before c.args.asked.now.line AskRead c.args.reply.now) c.is_true_of_read.result) c.self-in-Read.view_is
    (c.is_true_of_read.ensures c.args.asked.now.feed c.args.asked.now.line before))
