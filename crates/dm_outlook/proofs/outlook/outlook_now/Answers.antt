use Rattle.std.proofs.Common.{rules}
use Rattle.dm_outlook.proofs.Looked.{looked_now, plan_over}
use Rattle.dm_outlook.proofs.outlook.outlook_now.Goals as goal

pub thinned-requires-clause-plan : goal.thinned-requires-clause-plan
thinned-requires-clause-plan g c =
    plan_over c.network-net.result.now c.reveal-2.ensures.network c.in_ok-now.now.rows (search rules) c.penalty-penalty.result c.args.window.now c.args.asked c.in_ok-plan.plan
    c.in_ok-plan.ensures

pub returns : goal.returns
returns g c =
    looked_now c.args.table.now.network c.network-net.result.now c.args.table.now.start c.args.table.now.rows c.args.table.now.penalty c.penalty-penalty.result c.args.table.now.history
    c.args.window.now c.args.asked c.args.most c.in_ok-now.now c.in_ok-plan.plan c.in_ok-minimal.minimal
    c.network-net.ensures c.penalty-penalty.ensures c.in_ok-now.ensures.entry c.in_ok-now.ensures.rows c.reveal.ensures.table.replayed
    c.in_ok-plan.ensures c.in_ok-minimal.ensures
