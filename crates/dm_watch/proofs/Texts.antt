-- The text of feeds' new items.
use Rattle.std.proofs.Common.{ℕ, List, map}
use Rattle.dm_tape.specs.Rounds.{parts_text}
use Rattle.dm_tail.specs.declared.watched.Watched.{Watched}
use Rattle.dm_watch.specs.Settled.{new_items}

-- numbered from this number on
abbrev pub feeds_text : {T : Type 0} → ℕ → List (Watched T) → List ℕ
feeds_text number feeds = parts_text number (map new_items feeds)
