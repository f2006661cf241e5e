use Rattle.std.proofs.Common.{sym, ◌∙◌, ap, arith, subst, ◌+◌, Bool, true, List}
use Rattle.std.specs.Prelude.{slice_set}
use Rattle.dm_network.specs.declared.parts.Activity.{Activity}
use Rattle.dm_network.specs.Held.{is_held}
use Rattle.dm_settle.specs.Constraints.{arcs_given}
use Rattle.dm_network.proofs.EventRows.{leads_out}
use Rattle.dm_settle.specs.Inside.Sweep.{HasMarked}
use Rattle.dm_settle.proofs.Held.{out_may_be_held}
use Rattle.dm_settle.proofs.Marking.{marked_with, marked_without, marked_whole}
use Rattle.dm_live.proofs.Heads.{heads_marked}
use Rattle.dm_live.proofs.marking.mark_heads.Goals as goal
use Rattle.dm_live.proofs.marking.mark_heads.Goals.{then-is_held, else-is_held}

pub is_held-requires : goal.is_held-requires
is_held-requires g c =
    out_may_be_held c.args.net.now c.args.constraints.now c.requires.sized c.args.event c.loop-a.a-index c.out_row-a-items.result.now
    c.out_row-a-items.ensures.places (omega arith)

pub activity-requires : goal.activity-requires
activity-requires g c =
    (leads_out c.args.net.now c.args.event c.loop-a.a-index c.out_row-a-items.result.now c.out_row-a-items.ensures.places (omega arith)).is_activity

pub loop-a-preserved : goal.loop-a-preserved
loop-a-preserved g c =
    let marked : List Bool → Type 0 =
    λ now. HasMarked (arcs_given c.args.net.now c.args.constraints.now) (λ e. e) c.args.event c.out_row-a-items.result.now (c.loop-a.a-index + 1) c.args.marks.now now in
    elim c.if-is_held.branch [
      | then-is_held w ↦
          let known = c.reveal.ensures.network.formed.ends_are_known in
          let leads = leads_out c.args.net.now c.args.event c.loop-a.a-index c.out_row-a-items.result.now c.out_row-a-items.ensures.places (omega arith) in
          let head = known.heads _ leads.is_activity in
          let same = c.loop-a.invariant.as_many in
          let many = c.requires.as_many in
          subst marked (sym (w.marks-is ∙ w.mark.ensures ∙ ap (λ (v : Activity). slice_set c.loop-a.marks v.head true) w.activity.ensures))
          (marked_with c.args.net.now (is_held c.args.constraints.now.held) (λ e. e) c.args.event c.out_row-a-items.result.now c.loop-a.a-index c.args.marks.now c.loop-a.marks
          c.loop-a.invariant known c.out_row-a-items.ensures.places (omega arith) (sym c.is_held.ensures ∙ w.if-is_held.true) (omega arith))
      | else-is_held w ↦
          subst marked (sym w.marks-is)
          (marked_without c.args.net.now (is_held c.args.constraints.now.held) (λ e. e) c.args.event c.out_row-a-items.result.now c.loop-a.a-index c.args.marks.now c.loop-a.marks
          c.loop-a.invariant (sym c.is_held.ensures ∙ w.if-is_held.false))
    ]

pub returns-clause-marks : goal.returns-clause-marks
returns-clause-marks g c =
    heads_marked (arcs_given c.args.net.now c.args.constraints.now) c.args.event c.args.marks.now c.loop-a.marks
    (marked_whole c.args.net.now (is_held c.args.constraints.now.held) (λ e. e) c.args.event c.out_row-a-items.result.now c.loop-a.a-index c.args.marks.now c.loop-a.marks
    c.loop-a.invariant c.out_row-a-items.ensures.places (omega arith))
