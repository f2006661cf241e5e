use Rattle.dm_network.proofs.Resolving.{resolved_step, resolved_all}
use Rattle.dm_network.proofs.records.resolved.Goals as goal

pub loop-row-preserved : goal.loop-row-preserved
loop-row-preserved c =
    rw c.in-Ok-push.ensures.items
    (resolved_step c.args.events.now c.args.rows.now c.loop-row.row-index c.loop-row.activities.items _ c.in-Some.activity
    c.loop-row.invariant c.loop-row-test.true c.in-Some.ensures)

pub returns-clause-ok : goal.returns-clause-ok
returns-clause-ok c = resolved_all c.args.events.now c.args.rows.now c.loop-row.row-index c.loop-row.activities.items c.loop-row.invariant c.loop-row-test.false
