-- What stands beside a stop are the places with that stop.
use Rattle.dm_network.proofs.Windows.{beside_is_filter}
use Rattle.dm_network.proofs.find.places_beside.Goals as goal

pub returns : goal.returns
returns c key same = beside_is_filter _ c.args.places.now c.args.stop.0 c.window-start.result.0 c.window-start.result.1 c.window-start.ensures key same
