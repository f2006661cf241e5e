use Rattle.std.proofs.Common.{sym, ◌∙◌, arith, subst, ◌+◌, Bool, List, slice_index}
use Rattle.dm_settle.specs.Constraints.{graph_given}
use Rattle.dm_settle.specs.Inside.Sweep.{HasMarked, pulls, pulling}
use Rattle.dm_settle.proofs.Marking.{marked_with, marked_without, marked_whole}
use Rattle.dm_network.proofs.EventRows.{leads_out}
use Rattle.dm_settle.proofs.sweep.Sweep.mark_heads.Goals as goal
use Rattle.dm_settle.proofs.sweep.Sweep.mark_heads.Goals.{then-pulls, else-pulls}

pub pulls-requires-clause-is_activity : goal.pulls-requires-clause-is_activity
pulls-requires-clause-is_activity c =
    (leads_out c.args.self.now.net.now c.args.to.now.event c.loop-a.a-index c.args.to.now.out_of.now c.requires.is_move.out_of (omega arith)).is_activity

pub mark_head-requires-clause-is_activity : goal.mark_head-requires-clause-is_activity
mark_head-requires-clause-is_activity c =
    (leads_out c.args.self.now.net.now c.args.to.now.event c.loop-a.a-index c.args.to.now.out_of.now c.requires.is_move.out_of (omega arith)).is_activity

pub loop-a-preserved : goal.loop-a-preserved
loop-a-preserved c =
    let to = c.args.to.now in
    let marked : List Bool → Type 0 =
    λ now. HasMarked (pulling (graph_given c.args.self.now.net.now to.constraints.now) to.times.now to.event to.time) (slice_index c.args.self.now.ranks.now) to.event to.out_of.now (c.loop-a.a-index + 1) c.args.marks.now now in
    elim c.if-pulls.branch [
      | then-pulls w ↦
          let known = c.reveal.ensures.network.formed.ends_are_known in
          let leads = leads_out c.args.self.now.net.now to.event c.loop-a.a-index to.out_of.now c.requires.is_move.out_of (omega arith) in
          let head = known.heads _ leads.is_activity in
          let place = c.requires.ranks _ head in
          let same = c.loop-a.invariant.as_many in
          subst marked (sym (w.marks-is ∙ w.mark_head.ensures))
          (marked_with c.args.self.now.net.now (pulls (graph_given c.args.self.now.net.now to.constraints.now) to.times.now to.event to.time) (slice_index c.args.self.now.ranks.now) to.event to.out_of.now c.loop-a.a-index c.args.marks.now c.loop-a.marks
          c.loop-a.invariant known c.requires.is_move.out_of (omega arith) (sym c.pulls.ensures ∙ w.if-pulls.true) (omega arith))
      | else-pulls w ↦
          subst marked (sym w.marks-is)
          (marked_without c.args.self.now.net.now (pulls (graph_given c.args.self.now.net.now to.constraints.now) to.times.now to.event to.time) (slice_index c.args.self.now.ranks.now) to.event to.out_of.now c.loop-a.a-index c.args.marks.now c.loop-a.marks
          c.loop-a.invariant (sym c.pulls.ensures ∙ w.if-pulls.false))
    ]

pub returns : goal.returns
returns c =
    let to = c.args.to.now in
    marked_whole c.args.self.now.net.now (pulls (graph_given c.args.self.now.net.now to.constraints.now) to.times.now to.event to.time) (slice_index c.args.self.now.ranks.now) to.event to.out_of.now c.loop-a.a-index c.args.marks.now c.loop-a.marks
    c.loop-a.invariant c.requires.is_move.out_of (omega arith)
