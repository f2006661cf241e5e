use Rattle.dm_follow.proofs.HeaderSteps.{penalty_breaks, penalty_steps, penalty_stops}
use Rattle.dm_follow.proofs.headers.penalty_behind.Goals as goal

pub returns-in_default : goal.returns-in_default
returns-in_default c = penalty_stops c.args.penalty c.args.line.now c.in_default.ensures

pub returns-then-number-penalty : goal.returns-then-number-penalty
returns-then-number-penalty c = penalty_steps c.args.penalty c.in-Some.number c.args.line.now c.in-Some.ensures c.if-number-penalty.true

pub returns-else-number-penalty : goal.returns-else-number-penalty
returns-else-number-penalty c = penalty_breaks c.args.penalty c.in-Some.number c.args.line.now c.in-Some.ensures c.if-number-penalty.false
