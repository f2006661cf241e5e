use Rattle.dm_order.proofs.Forward.{forward_has_no_cycle}
use Rattle.dm_order.proofs.laws.held_have_no_cycle.Goals as goal

pub returns : goal.returns
returns c = λ net order is. forward_has_no_cycle net order.held order.ranks is.forward
