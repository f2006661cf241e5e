use Rattle.std.proofs.Common.{refl}
use Rattle.dm_order.proofs.Changing.{all_forward}
use Rattle.dm_order.proofs.Sweeping.{all_alike}
use Rattle.dm_order.proofs.lists.Lists.move_for.Goals as goal

pub returns-in-None-clause-forward : goal.returns-in-None-clause-forward
returns-in-None-clause-forward c =
    all_forward c.args.net.now c.args.held.now c.args.arcs.now c.args.self.now.places.ranks.items c.requires.others c.in-None.ensures.none

pub sweep-requires-clause-others : goal.sweep-requires-clause-others
sweep-requires-clause-others c =
    all_alike c.args.net.now c.args.held.now c.args.arcs.now c.args.self.now.places.ranks.items c.in-Some.first c.requires.others (c.if-are_alike.ensures.0 refl)
