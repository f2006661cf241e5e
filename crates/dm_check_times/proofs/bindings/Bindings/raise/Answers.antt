use Rattle.std.proofs.Common.{List, Bool, ◌+◌, length, refl, sym, ap, ◌∙◌, subst, arith, rules}
use Rattle.dm_check_times.specs.Binding.{graph_with}
use Rattle.dm_marks.specs.Marked.{HasMark}
use Rattle.dm_check_times.proofs.Rounding.{HaveRounds, no_rounds, settled, one_more}
use Rattle.dm_check_times.proofs.Noted.{notes_none, notes_then}
use Rattle.dm_check_times.proofs.bindings.Bindings.raise.Goals as goal

pub loop-round-init : goal.loop-round-init
loop-round-init c = record {
  rounds = λ floor begins. no_rounds (graph_with c.args.self.now.net.now c.args.self.now.held.now c.args.self.now.spans.now floor) _ _ begins;
  within = c.requires.early;
  as_many_times = refl;
  as_many_flags = refl;
  notes = notes_none c.args.times.now c.args.moved.now.flags;
}

pub returns-then-not-is_any-clause-least : goal.returns-then-not-is_any-clause-least
returns-then-not-is_any-clause-least c = λ floor begins.
    let had = c.loop-round.invariant.rounds floor begins in
    settled (graph_with c.args.self.now.net.now c.args.self.now.held.now c.args.self.now.spans.now floor) c.loop-round.round c.loop-round.times c.sweep.new.times c.loop-round.due c.sweep.new.due
    had (c.sweep.ensures.swept floor had.begins.met) (c.is_any.ensures.none (search rules))

pub loop-round-preserved : goal.loop-round-preserved
loop-round-preserved c = record {
  rounds = λ floor begins.
      let had = c.loop-round.invariant.rounds floor begins in
      subst (λ (due : List Bool). HaveRounds (graph_with c.args.self.now.net.now c.args.self.now.held.now c.args.self.now.spans.now floor) (c.loop-round.round + 1) c.sweep.new.times due) (sym c.is_any.ensures.same)
      (one_more (graph_with c.args.self.now.net.now c.args.self.now.held.now c.args.self.now.spans.now floor) c.loop-round.round c.loop-round.times c.sweep.new.times c.loop-round.due c.sweep.new.due
      had (c.sweep.ensures.swept floor had.begins.met)
      (subst (λ n. HasMark c.sweep.new.due n) (c.sweep.ensures.as_many_due ∙ (c.loop-round.invariant.as_many_flags ∙ c.requires.as_many_flags)) (c.is_any.ensures.some (search rules))));
  within = c.sweep.ensures.within;
  as_many_times = c.sweep.ensures.as_many ∙ c.loop-round.invariant.as_many_times;
  as_many_flags = ap (λ (due : List Bool). length due) c.is_any.ensures.same ∙ (c.sweep.ensures.as_many_due ∙ c.loop-round.invariant.as_many_flags);
  notes = notes_then c.args.times.now c.loop-round.times c.sweep.new.times c.args.moved.now.flags c.loop-round.moved.flags c.sweep.new.moved.flags c.loop-round.invariant.notes c.sweep.ensures.notes;
}

pub returns-clause-cyclic : goal.returns-clause-cyclic
returns-clause-cyclic c = λ floor begins none.
    let had = c.loop-round.invariant.rounds floor begins in
    had.cyclic (omega arith) none

pub returns-then-not-is_any-clause-notes : goal.returns-then-not-is_any-clause-notes
returns-then-not-is_any-clause-notes c =
    notes_then c.args.times.now c.loop-round.times c.sweep.new.times c.args.moved.now.flags c.loop-round.moved.flags c.sweep.new.moved.flags c.loop-round.invariant.notes c.sweep.ensures.notes
