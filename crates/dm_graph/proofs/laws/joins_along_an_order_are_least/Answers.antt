use Rattle.dm_graph.proofs.Chains.{place_in, order_rises}
use Rattle.dm_graph.proofs.Joins.{joins_are_least}
use Rattle.dm_graph.proofs.laws.joins_along_an_order_are_least.Goals as goal

pub returns : goal.returns
returns c = λ g order x is joins. joins_are_least g (place_in order) x (order_rises g.shape order is) joins
