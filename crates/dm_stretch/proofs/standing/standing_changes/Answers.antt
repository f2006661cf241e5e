use Rattle.std.proofs.Common.{[], ◌++◌, ap, ◌∙◌}
use Rattle.std.specs.List.{cons_option}
use Rattle.dm_stretch.specs.Inside.Standing.{standing_change}
use Rattle.dm_relax.proofs.Differences.{gathered_more}
use Rattle.dm_stretch.proofs.standing.standing_changes.Goals as goal

pub loop-a-preserved : goal.loop-a-preserved
loop-a-preserved c =
    gathered_more (standing_change c.args.net.now c.args.rows.now c.args.window.now) [] c.loop-a.a c.loop-a.decisions.items _
    c.loop-a.invariant (c.in_ok-push_some.ensures ∙ ap (λ o. c.loop-a.decisions.items ++ cons_option o []) c.standing_change.ensures)
