-- What feeds that grow are answered, one feed after another.
use Rattle.std.specs.Prelude.{ℕ, ◌≡◌, ◌+◌, List, length, count_by, sum_by, slice_get, All, Option, Some}
use Rattle.dm_cert.specs.Logs.{names}
use Rattle.dm_desk.specs.Desks.{DeskValue, GoesOn}
use Rattle.dm_desk.specs.Answered.{AreTrueOf, times}
use Rattle.dm_tail.specs.declared.watched.Watched.{Watched}
use Rattle.dm_tail.specs.Watching.{Answers, IsShort, KnowsLines}

-- every log is true of what the desk has seen, by its feed's number from 1
abbrev pub AllAreTrue : {T : Type 0} → DeskValue → List (Watched T) → Type 0
AllAreTrue desk feeds = (place : ℕ) (watched : Watched _) → slice_get feeds place ≡ Some watched →
    AreTrueOf desk (place + 1) watched.log.items

-- what holds of a feed between two rounds
pub record IsReady {T : Type 0} (watched : Watched T) : Type 0 where
  pub short : IsShort watched
  pub lines : KnowsLines watched.tail

-- the next lines of a feed were answered while a desk went on
pub record IsAnsweredAmong {T : Type 0} (given : T → Option (List ℕ)) (batch : ℕ) (desk_before desk : DeskValue) (number : ℕ)
    (before now : Watched T) : Type 0 where
  pub first : DeskValue
  pub then : DeskValue
  pub earlier : GoesOn desk_before first
  pub answers : Answers given batch first then number before now
  pub later : GoesOn then desk

-- how often a log names an entry as accepted
abbrev pub log_names : {T : Type 0} → ℕ → Watched T → ℕ
log_names n watched = count_by (names n) watched.log.items

-- The next lines of each feed were answered, in the order of the feeds. What the desk entered meanwhile is named by just one of the
-- items that came.
pub record AnswersAll {T : Type 0} (given : T → Option (List ℕ)) (batch : ℕ) (desk_before desk : DeskValue)
    (before now : List (Watched T)) : Type 0 where
  pub goes_on : GoesOn desk_before desk
  pub as_many : length now ≡ length before
  pub each : (place : ℕ) (one other : Watched T) → slice_get before place ≡ Some one → slice_get now place ≡ Some other →
      IsAnsweredAmong given batch desk_before desk (place + 1) one other
  pub ready : All IsReady now
  pub named : (n : ℕ) → sum_by (log_names n) now + times n desk_before.mine ≡ sum_by (log_names n) before + times n desk.mine
