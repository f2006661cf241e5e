use Rattle.std.proofs.Common.{[], ◌++◌, ap, ◌∙◌}
use Rattle.std.specs.List.{cons_option}
use Rattle.dm_relax.specs.Inside.Differing.{differing_pair}
use Rattle.dm_relax.proofs.Differences.{gathered_more}
use Rattle.dm_relax.proofs.completing.with_differing_pairs.Goals as goal

pub loop-p-preserved : goal.loop-p-preserved
loop-p-preserved c =
    let r = c.args.relaxation.now in
    gathered_more (differing_pair r.net.now r.rows.now r.path.now c.args.times.now) c.args.changes.items c.loop-p.p c.loop-p.decisions.items _ c.loop-p.invariant
    (c.in_ok-push_some.ensures ∙ ap (λ o. c.loop-p.decisions.items ++ cons_option o []) c.differing_pair.ensures)
