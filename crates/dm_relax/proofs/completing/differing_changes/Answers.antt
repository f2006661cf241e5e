use Rattle.std.proofs.Common.{[], ◌++◌, ap, ◌∙◌}
use Rattle.std.specs.List.{cons_option}
use Rattle.dm_relax.specs.Inside.Differing.{differing_change}
use Rattle.dm_relax.proofs.Differences.{gathered_more}
use Rattle.dm_relax.proofs.completing.differing_changes.Goals as goal

pub loop-a-preserved : goal.loop-a-preserved
loop-a-preserved c =
    let r = c.args.relaxation.now in
    gathered_more (differing_change r.net.now r.rows.now r.path.now) [] c.loop-a.a c.loop-a.decisions.items _ c.loop-a.invariant
    (c.in_ok-push_some.ensures ∙ ap (λ o. c.loop-a.decisions.items ++ cons_option o []) c.differing_change.ensures)
