use Rattle.dm_feed.proofs.Feeding.{return_cut, no_return}
use Rattle.dm_feed.proofs.reader.without_return.Goals as goal

pub returns-then-last-eq13 : goal.returns-then-last-eq13
returns-then-last-eq13 c = return_cut c.args.bytes.now c.in-len1-up.len_at_least c.if-last-eq13.true

pub returns-else-last-eq13 : goal.returns-else-last-eq13
returns-else-last-eq13 c = no_return c.args.bytes.now (λ some. c.if-last-eq13.false)
