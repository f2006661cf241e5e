use Rattle.std.proofs.Common.{sym, ap, ◌∙◌}
use Rattle.dm_rows.specs.Rows.{kept_at}
use Rattle.dm_paths.specs.Decisions.{change_decision}
use Rattle.dm_waitrule.specs.Rules.{is_decided_otherwise}
use Rattle.dm_waitrule.proofs.Gathered.{gathers, passes_over}
use Rattle.dm_waitrule.proofs.choosing.differences_to.Goals as goal
use Rattle.dm_waitrule.proofs.choosing.differences_to.Goals.{then-is_decided_otherwise+in_ok-push, else-is_decided_otherwise}

pub loop-act-preserved : goal.loop-act-preserved
loop-act-preserved c =
    elim c.if-is_decided_otherwise.branch [
      | then-is_decided_otherwise+in_ok-push w ↦
          ap (λ v. v.items) w.choices-is ∙ w.in_ok-push.ensures.items
          ∙ gathers (is_decided_otherwise c.args.net.now c.args.rows.now c.args.other.now) (λ a. change_decision c.args.net.now a (kept_at c.args.other.now a))
          c.loop-act.act c.loop-act.choices.items w.change_decision.result c.loop-act.invariant
          (sym c.is_decided_otherwise.ensures ∙ w.if-is_decided_otherwise.true) (w.change_decision.ensures ∙ ap (change_decision c.args.net.now c.loop-act.act) w.kept.ensures)
      | else-is_decided_otherwise w ↦
          ap (λ v. v.items) w.choices-is
          ∙ passes_over (is_decided_otherwise c.args.net.now c.args.rows.now c.args.other.now) (λ a. change_decision c.args.net.now a (kept_at c.args.other.now a))
          c.loop-act.act c.loop-act.choices.items c.loop-act.invariant (sym c.is_decided_otherwise.ensures ∙ w.if-is_decided_otherwise.false)
    ]
