use Rattle.std.proofs.Common.{[], ap, sym, ◌∙◌}
use Rattle.dm_rows.specs.Decide.{is_free_change, change_choice}
use Rattle.dm_rows.specs.declared.messages.Choice.TheVariants.{Change}
use Rattle.dm_network.specs.declared.parts.Activity.{Activity}
use Rattle.dm_rows.proofs.Choosing.{one_chosen, one_passed_over}
use Rattle.dm_rows.proofs.choices.free_changes.Goals.{then-is_free_change+in_ok-push, else-is_free_change}
use Rattle.dm_rows.proofs.choices.free_changes.Goals as goal

pub loop-a-preserved : goal.loop-a-preserved
loop-a-preserved c =
    elim c.if-is_free_change.branch [
      | then-is_free_change+in_ok-push w ↦
          rw (w.choices-is, w.in_ok-push.ensures.items)
          (one_chosen (is_free_change c.args.net.now c.args.rows.now) (change_choice c.args.net.now) [] c.loop-a.a c.loop-a.choices.items _ c.loop-a.invariant
          (sym c.is_free_change.ensures ∙ w.if-is_free_change.true) (ap (λ (a : Activity). Change a.id) w.activity.ensures))
      | else-is_free_change w ↦
          rw w.choices-is
          (one_passed_over (is_free_change c.args.net.now c.args.rows.now) (change_choice c.args.net.now) [] c.loop-a.a c.loop-a.choices.items c.loop-a.invariant
          (sym c.is_free_change.ensures ∙ w.if-is_free_change.false))
    ]
