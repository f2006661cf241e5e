use Rattle.std.proofs.Common.{sym, ap, ◌∙◌}
use Rattle.dm_rows.specs.Decide.{is_free_change}
use Rattle.dm_waitrule.specs.Inside.Keyed.{keyed}
use Rattle.dm_waitrule.proofs.Gathered.{gathers, passes_over}
use Rattle.dm_waitrule.proofs.order.free_changes.Goals as goal
use Rattle.dm_waitrule.proofs.order.free_changes.Goals.{then-is_free_change+in_ok-push, else-is_free_change}

pub loop-act-preserved : goal.loop-act-preserved
loop-act-preserved c =
    elim c.if-is_free_change.branch [
      | then-is_free_change+in_ok-push w ↦
          ap (λ v. v.items) w.changes-is ∙ w.in_ok-push.ensures.items
          ∙ gathers (is_free_change c.args.net.now c.args.rows.now) (keyed c.args.net.now) c.loop-act.act c.loop-act.changes.items
          w.keyed.result c.loop-act.invariant (sym c.is_free_change.ensures ∙ w.if-is_free_change.true) w.keyed.ensures
      | else-is_free_change w ↦
          ap (λ v. v.items) w.changes-is
          ∙ passes_over (is_free_change c.args.net.now c.args.rows.now) (keyed c.args.net.now) c.loop-act.act c.loop-act.changes.items
          c.loop-act.invariant (sym c.is_free_change.ensures ∙ w.if-is_free_change.false)
    ]
