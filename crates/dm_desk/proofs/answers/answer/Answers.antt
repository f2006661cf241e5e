use Rattle.dm_desk.proofs.Asking.{has_plans}
use Rattle.dm_desk.proofs.answers.answer.Goals as goal

pub reply_to-requires-clause-had : goal.reply_to-requires-clause-had
reply_to-requires-clause-had g c = has_plans (g.D.Desk.value c.args.desk.now) c.args.feed c.args.items.now c.requires.are_true
