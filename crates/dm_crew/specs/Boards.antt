-- What boards show in the end, and the notes of those whose show has failed.
--
-- A board is seen through place, the stop that it is of, times and flags, what it tells that stands on it, faults, its count, and
-- is_sound, what it tells of an event.
use Rattle.std.specs.Prelude.{ℕ, Bool, List, Option}
use Rattle.dm_network.specs.Net.{Net}
use Rattle.dm_cert.specs.declared.notes.Note.{Note}
use Rattle.dm_cert.specs.Runs.{AreTrueNotes}
use Rattle.dm_publish.specs.Since.{AreUpSince}
use Rattle.dm_publish.specs.Value.{Published}

-- Boards that were these at first have been kept up, and show what is published. The notes are true at so many entries.
pub record AreShown {B : Type 0} (place : B → ℕ) (times : B → Option (ℕ → Option ℕ)) (flags : B → Option (ℕ → Option Bool)) (faults : B → ℕ)
    (is_sound : B → ℕ → Type 0) (net : Net) (x : Published) (entries : ℕ) (notes : List Note) (first now : List B) : Type 0 where
  pub up : AreUpSince place times flags faults is_sound net x notes first now
  pub noted : AreTrueNotes entries notes
