use Rattle.std.proofs.Common.{rules}
use Rattle.dm_bound.proofs.Keeps.{lowers}
use Rattle.dm_bound.proofs.word.BoundWord.lower.Goals as goal

pub fetch_min-requires : goal.fetch_min-requires
fetch_min-requires c = (search rules, search rules, lowers _ _ _ _ _ _ c.hand.invariant.room)
