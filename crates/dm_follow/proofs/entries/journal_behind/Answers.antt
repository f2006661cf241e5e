use Rattle.std.proofs.Common.{arith}
use Rattle.dm_follow.proofs.Advancing.{past_advances}
use Rattle.dm_follow.proofs.entries.journal_behind.Goals as goal

pub returns-then-len-entries-clause-advances : goal.returns-then-len-entries-clause-advances
returns-then-len-entries-clause-advances c = past_advances c.args.table.now c.args.feeds c.args.entries c.args.line.now (omega (arith, c.if-len-entries.true, c.len.ensures.count))
