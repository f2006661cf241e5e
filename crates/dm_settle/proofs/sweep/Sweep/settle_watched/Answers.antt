use Rattle.std.proofs.Common.{ℕ, false, refl, sym, ap, ◌∙◌, inl, arith}
use Rattle.std.specs.Prelude.{slice_set}
use Rattle.dm_settle.specs.Settling.{arcs_swept, graph_swept}
use Rattle.dm_settle.proofs.Given.{given_is_bounded}
use Rattle.dm_settle.proofs.Going.{is_next, next_tails_are_early, sweeps_on, reads_on}
use Rattle.dm_settle.proofs.Sweeping.{all_settled, settled_is_least}
use Rattle.dm_settle.proofs.Reading.{none_read}
use Rattle.dm_settle.proofs.sweep.Sweep.settle_watched.Goals as goal

pub loop-next-init : goal.loop-next-init
loop-next-init g c = record {
  sweeping = record { unsettled = c.requires.begins.unsettled; later = λ k _. omega arith; may_move = λ e _ marked. inl marked };
  read = none_read (arcs_swept c.args.self.now) c.args.self.now.ranks.now (record { marks = c.args.marks.now; times = c.args.times.now; steps = c.args.steps.now });
  knows = c.requires.knows;
  other_knows = c.requires.other_knows;
  flags = refl;
}

pub renew-requires-clause-early : goal.renew-requires-clause-early
renew-requires-clause-early g c =
    next_tails_are_early (graph_swept c.args.self.now) c.args.self.now.order.now c.args.self.now.ranks.now c.requires.begins.ranked c.args.marks.now c.requires.begins.forward
    c.loop-next.marks c.loop-next.times c.loop-next.place c.in-Some.next c.loop-next.invariant.sweeping c.in-Some.ensures.first
    (given_is_bounded c.args.self.now.net.now c.args.self.now.constraints.now c.reveal.ensures.within c.within_limits.ensures)

pub loop-next-preserved : goal.loop-next-preserved
loop-next-preserved g c =
    let at =
    is_next (graph_swept c.args.self.now) c.args.self.now.order.now c.args.self.now.ranks.now c.requires.begins.ranked c.args.marks.now c.requires.begins.forward
    c.loop-next.marks c.loop-next.times c.loop-next.place c.in-Some.next c.loop-next.invariant.sweeping c.in-Some.ensures.first in
    let renews = c.renew.ensures.renews c.loop-next.marks (c.in-Some.ensures.taken ∙ ap (λ (k : ℕ). slice_set c.loop-next.marks k false) (sym at)) in
    record {
      sweeping =
          sweeps_on (graph_swept c.args.self.now) c.args.self.now.order.now c.args.self.now.ranks.now c.requires.begins.ranked c.args.marks.now c.requires.begins.forward
          c.loop-next.marks c.loop-next.times c.loop-next.place c.in-Some.next c.loop-next.invariant.sweeping c.in-Some.ensures.first
          c.loop-next.steps (record { marks = c.renew.new.marks; times = c.renew.new.times; steps = c.renew.new.steps }) c.renew.result renews;
      read =
          reads_on (graph_swept c.args.self.now) c.args.self.now.order.now c.args.self.now.ranks.now c.requires.begins.ranked c.args.marks.now c.requires.begins.forward
          c.loop-next.marks c.loop-next.times c.loop-next.place c.in-Some.next c.loop-next.invariant.sweeping c.in-Some.ensures.first
          c.loop-next.steps (record { marks = c.renew.new.marks; times = c.renew.new.times; steps = c.renew.new.steps })
          (record { marks = c.args.marks.now; times = c.args.times.now; steps = c.args.steps.now }) c.loop-next.invariant.read c.renew.result renews;
      knows = c.renew.ensures.knows;
      other_knows = c.renew.ensures.other_knows;
      flags = c.renew.ensures.flags ∙ c.loop-next.invariant.flags;
    }

pub returns-clause-least : goal.returns-clause-least
returns-clause-least g c =
    settled_is_least (graph_swept c.args.self.now) c.args.self.now.order.now c.args.self.now.ranks.now c.requires.begins.ranked c.args.marks.now c.requires.begins.forward
    c.loop-next.times c.loop-next.invariant.sweeping.unsettled.as_many_times
    (all_settled (graph_swept c.args.self.now) c.args.self.now.order.now c.args.self.now.ranks.now c.requires.begins.ranked c.args.marks.now c.requires.begins.forward
    c.loop-next.marks c.loop-next.times c.loop-next.place c.loop-next.invariant.sweeping c.in_default.ensures.none)
