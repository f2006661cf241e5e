use Rattle.dm_feed.proofs.Ahead.{ends_with}
use Rattle.dm_feed.proofs.laws.stops_tell_what_was_given.Goals as goal

pub returns : goal.returns
returns g c = ends_with
