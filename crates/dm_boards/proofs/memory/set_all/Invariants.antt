use Rattle.std.proofs.Common.{◌≡◌, ℕ, take}
use Rattle.dm_outside.specs.Board.{values_after}
use Rattle.dm_boards.specs.Memory.{value_shown}
use Rattle.dm_boards.proofs.memory.set_all.Given as goal

abbrev pub invariant-loop-event : goal.invariant-loop-event
invariant-loop-event g l =
    (event : ℕ) → value_shown l.ids l.values event ≡ values_after (value_shown l.ids l.fn.values) (take l.event-index l.changes) event
