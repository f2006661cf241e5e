use Rattle.dm_feed.proofs.Ahead.{new_ahead}
use Rattle.dm_feed.proofs.laws.new_readers_have_all_ahead.Goals as goal

pub returns : goal.returns
returns g c = new_ahead
