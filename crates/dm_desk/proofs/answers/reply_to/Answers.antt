use Rattle.std.proofs.lemmas.Result.{IfOk-weaker}
use Rattle.dm_desk.proofs.answers.reply_to.Goals as goal

pub returns-in-Say : goal.returns-in-Say
returns-in-Say g c = rw c.in-Say.is (IfOk-weaker c.post.result _ _ (λ reply replies. replies c.args.items.now) c.post.ensures)

pub returns-in-Time : goal.returns-in-Time
returns-in-Time g c = rw c.in-Time.is (c.time_of.ensures c.args.feed c.args.line c.args.items.now)

pub returns-in-Plan : goal.returns-in-Plan
returns-in-Plan g c = rw c.in-Plan.is (IfOk-weaker c.find.result _ _ (λ reply replies. replies c.args.feed c.args.line) c.find.ensures)

pub returns-in-Solve : goal.returns-in-Solve
returns-in-Solve g c = rw c.in-Solve.is (IfOk-weaker c.find-in-Solve.result _ _ (λ reply replies. replies c.args.feed c.args.line) c.find-in-Solve.ensures)
