use Rattle.std.proofs.Common.{rules}
use Rattle.dm_bound.proofs.Keeps.{looks}
use Rattle.dm_bound.proofs.word.BoundWord.look.Goals as goal

pub load-requires : goal.load-requires
load-requires c = (search rules, search rules, looks _ _ _ _ _ c.hand.invariant.room)
