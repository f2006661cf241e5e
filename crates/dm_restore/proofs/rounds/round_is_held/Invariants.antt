use Rattle.std.proofs.Common.{ℕ, ◌<◌, get_or}
use Rattle.dm_items.specs.Holding.{IsHeldPart}
use Rattle.dm_restore.proofs.rounds.round_is_held.Given as goal

abbrev pub invariant-loop-items : goal.invariant-loop-items
invariant-loop-items l = (k : ℕ) (d : _) → k < l.items-index → IsHeldPart (get_or l.round k d)
