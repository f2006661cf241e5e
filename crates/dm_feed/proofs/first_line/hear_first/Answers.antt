use Rattle.dm_feed.proofs.Joining.{hears_first}
use Rattle.dm_feed.proofs.first_line.hear_first.Goals as goal

pub returns : goal.returns
returns c = hears_first c.args.bytes.now c.in-Some.at c.hear_ended.result c.in-Some.ensures c.hear_ended.ensures
