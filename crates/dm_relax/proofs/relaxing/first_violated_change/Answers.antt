use Rattle.std.proofs.Common.{◌<◌, length, sym, ap, ◌∙◌, arith, Some}
use Rattle.std.proofs.lemmas.Bool.{and_from}
use Rattle.std.proofs.lemmas.List.{get_or_default}
use Rattle.dm_network.specs.declared.parts.Activity.{Activity}
use Rattle.dm_rows.specs.declared.messages.Choice.TheVariants.{Change}
use Rattle.dm_rows.specs.Cost.{comes_too_early}
use Rattle.dm_rows.specs.Decide.{change_choice}
use Rattle.dm_rows.specs.Relax.{is_undecided_change, is_violated_change}
use Rattle.dm_relax.proofs.Flagging.{first_listed, none_listed}
use Rattle.dm_relax.proofs.relaxing.first_violated_change.Goals as goal

pub returns-then-comes_too_early : goal.returns-then-comes_too_early
returns-then-comes_too_early c =
    let r = c.args.relaxation.now in
    let below : c.loop-a.a < length r.net.now.activities = omega (arith, c.loop-a-test.true, c.activities-a-end.ensures.count) in
    ap (λ (a : Activity). Some (Change a.id)) c.activity.ensures
    ∙ sym (first_listed (change_choice r.net.now) (is_violated_change r.net.now r.rows.now r.path.now c.args.times.now) (length r.net.now.activities) c.loop-a.a below c.loop-a.invariant
    (and_from (is_undecided_change r.net.now r.rows.now r.path.now c.loop-a.a) (comes_too_early r.net.now r.rows.now c.args.times.now c.loop-a.a)
    (sym (r.changes_are.each c.loop-a.a below) ∙ get_or_default r.undecided.changes.items c.loop-a.a _ _ (let size = r.changes_are.size in omega arith) ∙ sym c.index.ensures ∙ c.if-index.true) (sym c.comes_too_early.ensures ∙ c.if-comes_too_early.true)))

pub returns : goal.returns
returns c =
    let r = c.args.relaxation.now in
    sym (none_listed (change_choice r.net.now) (is_violated_change r.net.now r.rows.now r.path.now c.args.times.now) (length r.net.now.activities) c.loop-a.a
    (omega (arith, c.loop-a-test.false, c.activities-a-end.ensures.count)) c.loop-a.invariant)
