use Rattle.std.proofs.Common.{arith, ◌<◌, length}
use Rattle.std.proofs.lemmas.List.{get_or_default}
use Rattle.dm_rows.proofs.Adopting.{one_more_named, none_refused}
use Rattle.dm_rows.proofs.admission.flips_of.Goals as goal

pub loop-decision-preserved : goal.loop-decision-preserved
loop-decision-preserved c =
    let below : c.loop-decision.decision-index < length c.args.decisions.now = omega arith in
    rw c.in-Ok-push.ensures.items
    (one_more_named c.args.net.now c.args.rows.now c.args.decisions.now c.loop-decision.decision-index
    c.loop-decision.flips.items _ c.in-Ok.flip c.loop-decision.invariant below
    (get_or_default c.args.decisions.now c.loop-decision.decision-index _ _ below)
    c.in-Ok.ensures.named c.in-Ok.ensures.reaches c.in-Ok.ensures.passes)

pub returns-clause-passes : goal.returns-clause-passes
returns-clause-passes c =
    none_refused c.args.net.now c.args.rows.now c.args.decisions.now c.loop-decision.decision-index
    c.loop-decision.flips.items c.loop-decision.invariant (omega arith)
