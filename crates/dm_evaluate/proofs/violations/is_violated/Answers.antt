use Rattle.dm_evaluate.proofs.Open.{violated_if_unkept, not_violated_unflagged, violates_none}
use Rattle.dm_evaluate.proofs.violations.is_violated.Goals as goal

pub returns-in_default : goal.returns-in_default
returns-in_default g c path u = violates_none c.args.net.now c.args.rows.now path c.args.times.now c.args.choice c.in_default.ensures.none

pub returns-then-is : goal.returns-then-is
returns-then-is g c path u =
    violated_if_unkept c.args.net.now c.reveal.ensures.network c.args.rows.now path c.args.times.now c.args.choice c.in-Some.place c.in-Some.ensures.some
    c.args.undecided.now.changes.items c.args.undecided.now.pairs.items u.changes u.pairs c.is.result c.is.ensures c.if-is.true
    c.is_unkept.result c.is_unkept.ensures

pub returns-else-is : goal.returns-else-is
returns-else-is g c path u =
    not_violated_unflagged c.args.net.now c.reveal.ensures.network c.args.rows.now path c.args.times.now c.args.choice c.in-Some.place c.in-Some.ensures.some
    c.args.undecided.now.changes.items c.args.undecided.now.pairs.items u.changes u.pairs c.is.result c.is.ensures c.if-is.false
