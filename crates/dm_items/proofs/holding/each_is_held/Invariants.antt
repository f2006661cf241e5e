use Rattle.std.proofs.Common.{ℕ, ◌<◌, get_or}
use Rattle.dm_records.specs.Laws.{IsHeldItem}
use Rattle.dm_items.proofs.holding.each_is_held.Given as goal

abbrev pub invariant-loop-item : goal.invariant-loop-item
invariant-loop-item l = (k : ℕ) (d : _) → k < l.item-index → IsHeldItem (get_or l.items k d)
