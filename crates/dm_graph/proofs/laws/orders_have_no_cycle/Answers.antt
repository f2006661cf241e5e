use Rattle.dm_graph.proofs.Chains.{place_in, order_rises, no_cycle_where_rank_rises}
use Rattle.dm_graph.proofs.laws.orders_have_no_cycle.Goals as goal

pub returns : goal.returns
returns c = λ g order is. no_cycle_where_rank_rises g (place_in order) (order_rises g order is)
