use Rattle.std.proofs.Common.{ℕ, ◌<◌, get_or}
use Rattle.dm_watch.specs.Settled.{new_items}
use Rattle.dm_items.specs.Holding.{IsHeldPart}
use Rattle.dm_watch.proofs.keeping.new_are_held.Given as goal

abbrev pub invariant-loop-watched : goal.invariant-loop-watched
invariant-loop-watched g l = (k : ℕ) (d : _) → k < l.watched-index → IsHeldPart (new_items (get_or l.feeds k d))
