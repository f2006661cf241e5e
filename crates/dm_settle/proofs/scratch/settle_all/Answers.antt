use Rattle.std.proofs.Common.{length, true, ap, ◌∙◌}
use Rattle.std.proofs.lemmas.List.{length-replicate}
use Rattle.dm_graph.specs.Arcs.{IsOrder}
use Rattle.dm_graph.specs.Arrays.{AreRanks}
use Rattle.dm_graph.proofs.Ranks.{ranks_rise}
use Rattle.dm_settle.specs.Constraints.{arcs_given, graph_given}
use Rattle.dm_settle.proofs.Given.{all_marked}
use Rattle.dm_settle.proofs.scratch.settle_all.Goals as goal

pub settle_watched-requires-clause-begins : goal.settle_watched-requires-clause-begins
settle_watched-requires-clause-begins g c =
    let ranked : AreRanks (length c.args.net.now.events) c.order.result.now c.ranks.result.now =
    rw (c.order.ensures, c.ranks.ensures) c.requires.ranks in
    let ordered : IsOrder (arcs_given c.args.net.now c.args.constraints.now) c.order.result.now =
    rw c.order.ensures c.requires.order in
    record {
      sized = c.requires.sized;
      ranked = ranked;
      forward = λ a binds may.
          ranks_rise (arcs_given c.args.net.now c.args.constraints.now) c.order.result.now c.ranks.result.now ranked ordered a binds;
      unsettled =
          all_marked (graph_given c.args.net.now c.args.constraints.now) c.order.result.now c.ranks.result.now c.args.times.now c.args.marks.now
          ranked c.requires.all (ap length c.requires.all ∙ length-replicate (length c.args.net.now.events) true) c.requires.as_many;
    }
