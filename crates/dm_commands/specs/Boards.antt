-- What becomes of the boards that a call is given.
--
-- A board is seen through place, the stop that it is of, times and flags, what it tells that stands on it, faults, its count, and
-- is_sound, what it tells of an event.
use Rattle.std.specs.Prelude.{ℕ, ◌≡◌, Bool, List, Option, None, Some}
use Rattle.dm_cert.specs.RunTexts.{Run}
use Rattle.dm_publish.specs.Since.{AreUpSince}
use Rattle.dm_publish.specs.Value.{published}

-- how a run ends: with this text's run, and these marks of the events that are cancelled then
pub record Ended : Type 0 where
  pub run : Run
  pub cancelled : List Bool

-- The list keeps its boards' stops in their order. Each note of the run names a board by its place and with its stop, whose
-- count has risen and which was not sound for the network. Each board that no note names shows the final times of its stop and
-- which of its events are cancelled, where it told at first what it shows.
abbrev pub ShowRun : {B : Type 0} → (B → ℕ) → (B → Option (ℕ → Option ℕ)) → (B → Option (ℕ → Option Bool)) → (B → ℕ) →
    (B → ℕ → Type 0) → List B → List B → Ended → Type 0
ShowRun place times flags faults is_sound old new ended =
    AreUpSince place times flags faults is_sound ended.run.net (published ended.run.times ended.cancelled) ended.run.notes old new

-- of a call that ends without a run, but for want of memory, they are as before
abbrev pub EndBoards : {B : Type 0} → (B → ℕ) → (B → Option (ℕ → Option ℕ)) → (B → Option (ℕ → Option Bool)) → (B → ℕ) →
    (B → ℕ → Type 0) → List B → List B → Option Ended → Type 0
EndBoards place times flags faults is_sound old new None = new ≡ old
EndBoards place times flags faults is_sound old new (Some ended) = ShowRun place times flags faults is_sound old new ended
