use Rattle.std.proofs.Common.{sym, subst}
use Rattle.dm_graph.specs.Inside.Walk.{LeadsTo}
use Rattle.dm_graph.proofs.WalkGoesOn.{entered, placed_on, skipped_on, top_is}
use Rattle.dm_graph.proofs.walk.Walk.step.Goals as goal

pub returns-in-Over-clause-goes_on : goal.returns-in-Over-clause-goes_on
returns-in-Over-clause-goes_on c =
    placed_on c.args.by_head.now c.args.self.now c.place.new.self c.requires.walk
    c.index-event.result.now c.requires.more
    (top_is c.args.self.now.order.items c.args.self.now.top c.index-event.result.now c.requires.more c.index-event.ensures)
    c.in-Over.ensures c.place.ensures

pub returns-in-Free-clause-goes_on : goal.returns-in-Free-clause-goes_on
returns-in-Free-clause-goes_on c =
    skipped_on c.args.by_head.now c.args.self.now c.skip_arc.new.self c.requires.walk
    c.index-event.result.now c.requires.more
    (top_is c.args.self.now.order.items c.args.self.now.top c.index-event.result.now c.requires.more c.index-event.ensures)
    c.in-Free.ensures.0 c.in-Free.ensures.1 c.skip_arc.ensures

pub returns-in-Unmet-clause-goes_on : goal.returns-in-Unmet-clause-goes_on
returns-in-Unmet-clause-goes_on c =
    let is = top_is c.args.self.now.order.items c.args.self.now.top c.index-event.result.now c.requires.more c.index-event.ensures in
    entered c.args.by_head.now c.args.self.now c.enter.new.self c.requires.walk
    c.in-Unmet.tail c.in-Unmet.ensures.1 c.in-Unmet.ensures.2
    (λ _. subst (λ v. LeadsTo c.args.by_head.now c.args.self.now.next.items v c.in-Unmet.tail) (sym is) c.in-Unmet.ensures.0)
    c.enter.ensures
