use Rattle.std.proofs.Common.{rules}
use Rattle.dm_follow.proofs.Taken.{follows_none}
use Rattle.dm_follow.proofs.follower.Follower.new.Goals as goal

pub returns-clause-follows : goal.returns-clause-follows
returns-clause-follows c = follows_none c.in-Ok.table _ c.in-Ok.ensures.table c.in-Ok.ensures.history (search rules)
