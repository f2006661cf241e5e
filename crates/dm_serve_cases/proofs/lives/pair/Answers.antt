use Rattle.std.proofs.Common.{rules}
use Rattle.dm_serve_cases.proofs.Feeds.{two_unread}
use Rattle.dm_serve_cases.proofs.lives.pair.Goals as goal

pub returns-clause-unread : goal.returns-clause-unread
returns-clause-unread c = two_unread _ c.args.first c.args.second (search rules) c.requires.first c.requires.second

pub returns-clause-two : goal.returns-clause-two
returns-clause-two c = record { one = c.args.first; other = c.args.second; are = search rules }
