use Rattle.std.proofs.Common.{◌+◌, ◌<◌, ◌∙◌, length, arith, set, ap, sym, subst}
use Rattle.dm_settle.specs.Constraints.{ConstraintsValue}
use Rattle.dm_times.specs.Inside.Filling.{ActivitiesTo}
use Rattle.dm_times.proofs.Filled.{activities_next}
use Rattle.dm_times.proofs.filling.set_activities.Goals as goal

pub loop-a-preserved : goal.loop-a-preserved
loop-a-preserved g c =
    let held = g.H.Holding.held c.args.holding.now in
    let below : c.loop-a.a < length c.args.constraints.now.held =
    omega (arith, c.loop-a-test.true, c.activities-a-end.ensures.count, c.requires.flags) in
    let within : c.loop-a.a < length c.args.constraints.now.spans =
    omega (arith, c.loop-a-test.true, c.activities-a-end.ensures.count, c.requires.spans) in
    subst (ActivitiesTo c.args.net.now c.args.rows.now held (c.loop-a.a + 1) c.args.constraints.now)
    (sym (c.set_span.ensures ∙ ap (λ (k : ConstraintsValue). record k { spans = set k.spans c.loop-a.a c.span_of.result }) c.set_held.ensures))
    (activities_next c.args.net.now c.args.rows.now held c.loop-a.a c.args.constraints.now c.loop-a.constraints c.is_held.result c.span_of.result below within
    c.is_held.ensures c.span_of.ensures.value c.loop-a.invariant)
