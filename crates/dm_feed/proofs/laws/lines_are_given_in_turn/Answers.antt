use Rattle.dm_feed.proofs.Imagined.{go_on_giving}
use Rattle.dm_feed.proofs.laws.lines_are_given_in_turn.Goals as goal

pub returns : goal.returns
returns g c = go_on_giving
