use Rattle.std.proofs.Common.{[], ◌++◌, ap, ◌∙◌}
use Rattle.std.specs.List.{cons_option}
use Rattle.dm_stretch.specs.Inside.Standing.{standing_pair}
use Rattle.dm_relax.proofs.Differences.{gathered_more}
use Rattle.dm_stretch.proofs.standing.with_standing_pairs.Goals as goal

pub loop-p-preserved : goal.loop-p-preserved
loop-p-preserved c =
    gathered_more (standing_pair c.args.net.now c.args.rows.now c.args.window.now) c.args.changes.items c.loop-p.p
    c.loop-p.decisions.items _ c.loop-p.invariant
    (c.in_ok-push_some.ensures ∙ ap (λ o. c.loop-p.decisions.items ++ cons_option o []) c.standing_pair.ensures)
