use Rattle.dm_feed.proofs.Imagined.{has_feed}
use Rattle.dm_feed.proofs.laws.given_lines_have_a_feed.Goals as goal

pub returns : goal.returns
returns g c = has_feed
