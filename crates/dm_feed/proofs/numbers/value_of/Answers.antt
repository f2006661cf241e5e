use Rattle.std.proofs.Common.{arith}
use Rattle.dm_feed.proofs.Digits.{number_is}
use Rattle.dm_feed.proofs.numbers.value_of.Goals as goal

pub returns-in-Ok : goal.returns-in-Ok
returns-in-Ok c = let r = c.in-Ok.ensures.reads in number_is _ _ _ r.0 r.2 (omega (arith, r.1))
