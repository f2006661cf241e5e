use Rattle.std.proofs.Common.{length, ap, ◌∙◌, slice_index}
use Rattle.std.proofs.lemmas.List.{length-replicate}
use Rattle.dm_graph.proofs.Chains.{no_cycle_where_rank_rises}
use Rattle.dm_graph.proofs.Ranks.{ranks_rise}
use Rattle.dm_settle.specs.Constraints.{arcs_given}
use Rattle.dm_settle.proofs.scratch.least_times.Goals as goal

pub settle_all-requires-clause-as_many : goal.settle_all-requires-clause-as_many
settle_all-requires-clause-as_many c = ap length c.in_ok-times.ensures ∙ length-replicate (length c.args.net.now.events) 0

pub returns-clause-no_cycle : goal.returns-clause-no_cycle
returns-clause-no_cycle c =
    no_cycle_where_rank_rises (arcs_given c.args.net.now c.args.constraints.now) (λ e. slice_index c.in_ok-search.search.ranks e)
    (ranks_rise (arcs_given c.args.net.now c.args.constraints.now) c.in_ok-search.search.order c.in_ok-search.search.ranks
    c.in_ok-search.ensures.ranks c.in_ok-search.ensures.order)
