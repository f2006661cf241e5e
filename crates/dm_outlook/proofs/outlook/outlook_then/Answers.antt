use Rattle.std.proofs.Common.{sym, subst}
use Rattle.dm_network.specs.Net.{Net}
use Rattle.dm_rows.specs.Rows.{IsSized}
use Rattle.dm_outlook.proofs.Looked.{decide_once, looked, plan_over}
use Rattle.dm_outlook.proofs.outlook.outlook_then.Goals as goal

pub thinned-requires-clause-plan : goal.thinned-requires-clause-plan
thinned-requires-clause-plan g c =
    plan_over c.network-net.result.now c.reveal-2.ensures.network c.in_ok-then.then.rows
    (subst (λ (n : Net). IsSized n c.in_ok-then.then.rows) (sym c.network-net.ensures) c.in_ok-then.ensures.sized) c.penalty-penalty.result c.args.window.now c.args.asked c.in_ok-plan.plan
    c.in_ok-plan.ensures

pub carried_to-requires-clause-once : goal.carried_to-requires-clause-once
carried_to-requires-clause-once g c =
    decide_once c.network-net.result.now c.reveal-2.ensures.network c.in_ok-then.then.rows
    (subst (λ (n : Net). IsSized n c.in_ok-then.then.rows) (sym c.network-net.ensures) c.in_ok-then.ensures.sized) c.penalty-penalty.result c.args.window.now c.args.asked c.in_ok-plan.plan
    c.in_ok-plan.ensures

pub returns : goal.returns
returns g c =
    looked c.args.table.now.network c.network-net.result.now c.args.table.now.start c.args.table.now.rows c.args.table.now.penalty c.penalty-penalty.result c.args.table.now.history
    c.args.window.now c.args.asked c.args.most c.in_ok-now.now c.in_ok-plan.plan c.in_ok-minimal.minimal c.args.at c.in_ok-then.then.rows c.in_ok-carried.carried
    c.network-net.ensures c.penalty-penalty.ensures c.in_ok-then.ensures.rows c.in_ok-now.ensures.entry c.in_ok-now.ensures.rows c.reveal.ensures.table.replayed
    c.in_ok-plan.ensures c.in_ok-minimal.ensures c.in_ok-carried.ensures
