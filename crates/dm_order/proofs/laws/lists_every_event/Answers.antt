use Rattle.dm_order.proofs.Forward.{forward_is_order}
use Rattle.dm_order.proofs.laws.lists_every_event.Goals as goal

pub returns : goal.returns
returns c = λ net order is. forward_is_order net order.held order.order order.ranks is.ranked is.forward
