use Rattle.std.proofs.Common.{get_or, arith, sym}
use Rattle.std.proofs.lemmas.List.{get_or_default}
use Rattle.dm_rows.proofs.StartCancelled.{none_cancelled, one_more_cancelled, ids_known, unknown_id_refuses}
use Rattle.dm_rows.proofs.starting.start_rows_without.Goals as goal

pub loop-id-init : goal.loop-id-init
loop-id-init c =
    none_cancelled c.args.net.now c.args.events.now c.args.activities.now c.args.cancelled.now c.in-Ok.rows c.in-Ok.ensures.rows c.in-Ok.ensures.sized

pub loop-id-preserved : goal.loop-id-preserved
loop-id-preserved c =
    one_more_cancelled c.args.net.now c.args.events.now c.args.activities.now c.args.cancelled.now c.loop-id.id-index c.in-Some.event
    (get_or c.args.cancelled.now c.loop-id.id-index 0) c.loop-id.rows c.apply.new.self c.reveal.ensures.network c.loop-id.invariant
    c.loop-id-test.true (get_or_default c.args.cancelled.now c.loop-id.id-index 0 _ c.loop-id-test.true) (sym c.in-Some.ensures)
    c.apply.ensures.rows (c.apply.ensures.sizes c.args.net.now c.loop-id.invariant.sized)

pub returns-in_default-clause-refused : goal.returns-in_default-clause-refused
returns-in_default-clause-refused c =
    unknown_id_refuses c.args.net.now c.args.events.now c.args.activities.now c.args.cancelled.now c.loop-id.id-index
    (get_or c.args.cancelled.now c.loop-id.id-index 0) c.loop-id.rows c.in-Ok.ensures.events_known c.in-Ok.ensures.activities_known
    c.loop-id.invariant c.loop-id-test.true (get_or_default c.args.cancelled.now c.loop-id.id-index 0 _ c.loop-id-test.true)
    (sym c.in_default.ensures)

pub returns-clause-cancelled_known : goal.returns-clause-cancelled_known
returns-clause-cancelled_known c =
    ids_known c.args.net.now c.args.events.now c.args.activities.now c.args.cancelled.now c.loop-id.id-index c.loop-id.rows (omega arith)
    c.loop-id.invariant
