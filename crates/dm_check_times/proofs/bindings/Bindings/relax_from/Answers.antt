use Rattle.std.proofs.Common.{ℕ, List, Bool, ◌+◌, arith, refl, sym, ◌∙◌, subst, slice_index}
use Rattle.dm_check_times.specs.Binding.{graph_with}
use Rattle.dm_network.specs.declared.parts.Activity.{Activity}
use Rattle.dm_check_times.specs.Inside.Rising.{HasRelaxed, Raises}
use Rattle.dm_check_times.proofs.Rising.{relaxed_none, relaxed_more, relaxed_same, relaxed_all}
use Rattle.dm_marks.specs.Places.{PlaceSetValue}
use Rattle.dm_check_times.specs.Noting.{NotesMoves}
use Rattle.dm_check_times.proofs.Noted.{notes_none, notes_then}
use Rattle.dm_network.proofs.EventRows.{leads_out}
use Rattle.dm_check_times.proofs.bindings.Bindings.relax_from.Goals as goal
use Rattle.dm_check_times.proofs.bindings.Bindings.relax_from.Goals.{then-self-a, else-self-a}

pub loop-a-init : goal.loop-a-init
loop-a-init c = record {
  relaxed = λ floor. relaxed_none (graph_with c.args.self.now.net.now c.args.self.now.held.now c.args.self.now.spans.now floor) c.args.event _ _ _ _;
  notes = notes_none c.args.times.now c.args.moved.now.flags;
}

pub bounds-self-a : goal.bounds-self-a
bounds-self-a c =
    let leads = leads_out c.args.self.now.net.now c.args.event c.loop-a.a-index _ c.row_out_of-row.ensures (omega arith) in
    let is_activity = leads.is_activity in
    let sized = c.args.self.now.are.flags in
    omega arith

pub loop-a-preserved : goal.loop-a-preserved
loop-a-preserved c = record {
  relaxed =
      λ floor.
      let had = c.loop-a.invariant.relaxed floor in
      let after : List ℕ → List Bool → Type 0 = λ times due.
      HasRelaxed (graph_with c.args.self.now.net.now c.args.self.now.held.now c.args.self.now.spans.now floor) c.args.event (slice_index c.args.times.now c.args.event) c.row_out_of-row.result.now (c.loop-a.a-index + 1) c.args.times.now times c.args.due.now due in
      elim c.if-self-a.branch [
        | then-self-a w ↦
            let raised = subst (λ (x : Activity). Raises x.head (slice_index c.args.times.now c.args.event + slice_index c.args.self.now.spans.now (slice_index c.row_out_of-row.result.now c.loop-a.a-index)) c.loop-a.times w.raise_to.new.times c.loop-a.due w.raise_to.new.due) w.activity.ensures w.raise_to.ensures.raises in
            subst (λ times. after times c.if-self-a.due) (sym w.times-is) (subst (λ due. after w.raise_to.new.times due) (sym w.due-is)
            (relaxed_more c.args.self.now.net.now c.args.self.now.held.now c.args.self.now.spans.now floor c.args.event _ c.loop-a.a-index c.row_out_of-row.result.now c.args.times.now c.loop-a.times w.raise_to.new.times c.args.due.now c.loop-a.due w.raise_to.new.due
            c.row_out_of-row.ensures (omega arith) refl had c.reveal.ensures.network.formed.ends_are_known w.if-self-a.true (c.args.self.now.are.short _) raised))
        | else-self-a w ↦
            subst (λ times. after times c.if-self-a.due) (sym w.times-is) (subst (λ due. after c.loop-a.times due) (sym w.due-is)
            (relaxed_same c.args.self.now.net.now c.args.self.now.held.now c.args.self.now.spans.now floor c.args.event _ c.loop-a.a-index c.row_out_of-row.result.now c.args.times.now c.loop-a.times c.loop-a.times c.args.due.now c.loop-a.due c.loop-a.due
            c.row_out_of-row.ensures (omega arith) refl had w.if-self-a.false))
      ];
  notes =
      let init = c.args.times.now in
      let flags = c.args.moved.now.flags in
      elim c.if-self-a.branch [
        | then-self-a w ↦
            subst (λ (times : List ℕ). NotesMoves init times flags c.if-self-a.moved.flags) (sym w.times-is) (subst (λ (set : PlaceSetValue). NotesMoves init w.raise_to.new.times flags set.flags) (sym w.moved-is)
            (notes_then init c.loop-a.times w.raise_to.new.times flags c.loop-a.moved.flags w.raise_to.new.moved.flags c.loop-a.invariant.notes w.raise_to.ensures.notes))
        | else-self-a w ↦
            subst (λ (times : List ℕ). NotesMoves init times flags c.if-self-a.moved.flags) (sym w.times-is) (subst (λ (set : PlaceSetValue). NotesMoves init c.loop-a.times flags set.flags) (sym w.moved-is) c.loop-a.invariant.notes)
      ];
}

pub returns-clause-relaxes : goal.returns-clause-relaxes
returns-clause-relaxes c = λ floor.
    relaxed_all c.args.self.now.net.now c.args.self.now.held.now c.args.self.now.spans.now floor c.args.event _ c.loop-a.a-index c.row_out_of-row.result.now c.args.times.now c.loop-a.times c.args.due.now c.loop-a.due
    c.row_out_of-row.ensures (omega arith) refl (c.loop-a.invariant.relaxed floor)

pub raise_to-requires-clause-as_many_flags : goal.raise_to-requires-clause-as_many_flags
raise_to-requires-clause-as_many_flags c =
    let rise = (c.loop-a.invariant.relaxed (λ _. 0)).rise in
    rise.flags ∙ (c.requires.as_many_flags ∙ sym (rise.times ∙ c.requires.as_many_times))

pub raise_to-requires-clause-as_many_moved : goal.raise_to-requires-clause-as_many_moved
raise_to-requires-clause-as_many_moved c =
    let rise = (c.loop-a.invariant.relaxed (λ _. 0)).rise in
    c.loop-a.invariant.notes.as_many ∙ (c.requires.as_many_moved ∙ sym (rise.times ∙ c.requires.as_many_times))
