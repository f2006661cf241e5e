use Rattle.std.proofs.Common.{Bool, List, sym, subst}
use Rattle.dm_graph.specs.Arcs.{IsCycle}
use Rattle.dm_network.specs.Held.{arcs_of, is_held}
use Rattle.dm_settle.specs.Constraints.{arcs_given}
use Rattle.dm_settle.proofs.Given.{cycle_names}
use Rattle.dm_settle.proofs.scratch.search_order.Goals as goal

pub ids_of-requires : goal.ids_of-requires
ids_of-requires c =
    cycle_names (arcs_given c.args.net.now c.args.constraints.now) c.cycle.result.now
    (subst (λ (flags : List Bool). IsCycle (arcs_of c.args.net.now (is_held flags)) c.cycle.result.now) c.held.ensures
    (subst (IsCycle (arcs_of c.args.net.now (is_held c.held.result.now))) (sym c.cycle.ensures) c.in-Err.ensures.cycle))
