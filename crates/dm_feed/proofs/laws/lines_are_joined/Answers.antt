use Rattle.dm_feed.proofs.Joining.{are_joined}
use Rattle.dm_feed.proofs.laws.lines_are_joined.Goals as goal

pub returns : goal.returns
returns c = are_joined
