use Rattle.dm_check_answers.proofs.Added.{plan_added}
use Rattle.dm_check_answers.proofs.past.Past.add_plan.Goals as goal

pub returns : goal.returns
returns c = λ before said given same past.
    plan_added before c.args.line said given c.args.plan c.args.self.now same c.requires past
