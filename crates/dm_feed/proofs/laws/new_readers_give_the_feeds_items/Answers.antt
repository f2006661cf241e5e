use Rattle.dm_feed.proofs.Ahead.{first_of_feed}
use Rattle.dm_feed.proofs.laws.new_readers_give_the_feeds_items.Goals as goal

pub returns : goal.returns
returns g c = first_of_feed
