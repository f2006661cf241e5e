use Rattle.std.proofs.Common.{◌≡◌, length, take, drop, sym, ap, subst, arith}
use Rattle.dm_graph.specs.Arcs.{IsCycle}
use Rattle.dm_graph.proofs.Found.{placed_is_order, placed_is_ranked, closed_has_arcs, closed_is_cycle, front_of_front}
use Rattle.dm_graph.proofs.search.Search.search.Goals as goal

pub returns-in-Ok-clause-order : goal.returns-in-Ok-clause-order
returns-in-Ok-clause-order c =
    placed_is_order _ c.place_all.new.self c.in-Ok.ensures.all

pub returns-in-Ok-clause-ranks : goal.returns-in-Ok-clause-ranks
returns-in-Ok-clause-ranks c =
    placed_is_ranked _ c.place_all.new.self c.in-Ok.ensures.all

pub write_arcs-self-inside-requires-clause-path : goal.write_arcs-self-inside-requires-clause-path
write_arcs-self-inside-requires-clause-path c =
    closed_has_arcs _ c.place_all.new.self c.in-Err.last c.in-Err.ensures.closes

pub returns-in-Err-clause-cycle : goal.returns-in-Err-clause-cycle
returns-in-Err-clause-cycle c = λ g arrays.
    let is = closed_is_cycle _ c.place_all.new.self c.in-Err.last c.in-Err.ensures.closes
    g arrays (take c.write_arcs-self-inside.result c.write_arcs-self-inside.new.arcs) c.write_arcs-self-inside.ensures.arcs in
    let same = c.write_arcs-self-inside.auto.arcs in
    let lent : length c.deref_mut.result.now ≡ length c.self.inside.cycle.items = ap length c.deref_mut.ensures.value in
    let all = c.self.inside.cycle.ok.0 in
    subst (λ arcs. IsCycle g arcs)
    (sym (front_of_front c.write_arcs-self-inside.result c.self.inside.cycle.len c.write_arcs-self-inside.new.arcs
    (drop (length c.write_arcs-self-inside.new.arcs) c.self.inside.cycle.items)
    c.write_arcs-self-inside.ensures.within (omega arith)))
    is
