use Rattle.std.proofs.Common.{Bool, List, ℕ, refl, sym, subst, ◌∙◌, length}
use Rattle.dm_graph.specs.Arrays.{AreRanks}
use Rattle.dm_settle.specs.Constraints.{arcs_given}
use Rattle.dm_live.specs.Live.{IsLive, LiveValue, ReadsFew}
use Rattle.dm_live.specs.Inside.Placing.{ArePlaced}
use Rattle.dm_live.proofs.Moves.{settled_live, sweep_begins, reads_few}
use Rattle.dm_live.proofs.timetable.LiveTimetable.settle_watched.Goals as goal

pub returns-clause-live : goal.returns-clause-live
returns-clause-live g c =
    settled_live c.args.net.now (record { given = c.self.inside.constraints; order = c.self.inside.order; times = c.self.inside.times; marks = c.self.inside.marks; fixed = c.self.inside.fixed.items })
    (subst (IsLive c.args.net.now) (sym c.self.view_is) c.requires.live) c.settle_watched.new.times c.place_marks.new.marks
    c.settle_watched.ensures.least c.place_marks.ensures.room

pub returns-clause-few_reads : goal.returns-clause-few_reads
returns-clause-few_reads g c =
    let was = subst (IsLive c.args.net.now) (sym c.self.view_is) c.requires.live in
    let after : LiveValue = record { given = c.self.inside.constraints; order = c.self.inside.order; times = c.settle_watched.new.times; marks = c.place_marks.new.marks; fixed = c.self.inside.fixed.items } in
    let placed : ArePlaced (length c.self.inside.marks) c.ranks-2.result.now c.self.inside.marks c.self.inside.fixed.items c.place_marks.new.placed =
    subst (λ (r : List ℕ). ArePlaced (length c.self.inside.marks) r c.self.inside.marks c.self.inside.fixed.items c.place_marks.new.placed) (c.ranks.ensures ∙ sym c.ranks-2.ensures)
    (subst (λ (f : List Bool). ArePlaced (length c.self.inside.marks) c.ranks.result.now c.self.inside.marks f c.place_marks.new.placed) c.deref.ensures.value c.place_marks.ensures.placed) in
    subst (λ (v : LiveValue). ReadsFew (arcs_given c.args.net.now v.given) v after c.args.steps.now c.settle_watched.new.steps) c.self.view_is
    (reads_few (arcs_given c.args.net.now c.self.inside.constraints) c.ranks-2.result.now (record { given = c.self.inside.constraints; order = c.self.inside.order; times = c.self.inside.times; marks = c.self.inside.marks; fixed = c.self.inside.fixed.items }) after
    c.place_marks.new.placed c.settle_watched.new.marks c.self.inside.times c.settle_watched.new.times c.args.steps.now c.settle_watched.new.steps
    was.marked.as_many_marks placed refl refl c.settle_watched.ensures.few_reads)

pub settle_watched-requires-clause-begins : goal.settle_watched-requires-clause-begins
settle_watched-requires-clause-begins g c =
    let was = subst (IsLive c.args.net.now) (sym c.self.view_is) c.requires.live in
    let ranked : AreRanks (length c.args.net.now.events) c.order-2.result.now c.ranks-2.result.now =
    rw (c.order-2.ensures, c.ranks-2.ensures) was.ordered.ranked in
    let begins =
    sweep_begins c.args.net.now (record { given = c.self.inside.constraints; order = c.self.inside.order; times = c.self.inside.times; marks = c.self.inside.marks; fixed = c.self.inside.fixed.items })
    was c.ranks.result.now c.ranks-2.result.now c.deref.result.now c.place_marks.new.placed
    c.ranks.ensures c.ranks-2.ensures c.deref.ensures.value c.place_marks.ensures.placed in
    record { sized = was.sized; ranked = ranked; forward = begins.0; unsettled = begins.1 }
