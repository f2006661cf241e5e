-- Why a round was not finished, and the cause of each.
use Rattle.std.specs.Prelude.{ℕ, ◌≡◌, ◌+◌, ◌<◌, ◌≤◌, List, length, map, slice_get, Option, Some, Result, IfErr}
use Rattle.dm_outside.specs.Faults.{HasRisen}
use Rattle.dm_desk.specs.Desks.{DeskValue}
use Rattle.dm_store.specs.Blocks.{block}
use Rattle.dm_store.specs.Journals.{largest_journal}
use Rattle.dm_store.specs.declared.faults.StoreError.{StoreError}
use Rattle.dm_store.specs.declared.faults.StoreError.TheVariants as error
use Rattle.dm_tape.specs.Rounds.{round_text}
use Rattle.dm_tail.specs.Feeds.{AnswersAll}
use Rattle.dm_tail.specs.declared.watched.Watched.{Watched}
use Rattle.dm_watch.specs.Settled.{new_items}
use Rattle.dm_watch.specs.declared.stops.RoundStop.{RoundStop}
use Rattle.dm_watch.specs.declared.stops.RoundStop.TheVariants as stop

-- where the store or its journal answered so
abbrev pub stop_of : StoreError → RoundStop
stop_of error.OutOfMemory = stop.OutOfMemory
stop_of error.Full = stop.Full
stop_of _ = stop.Failed

-- the feed of this number, from 1, has items that were not yet shown, and a call of it has failed since
pub record IsUnsynced {T : Type 0} (faults : T → ℕ) (feeds : List (Watched T)) (number : ℕ) : Type 0 where
  pub place : ℕ
  pub watched : Watched T
  pub later : T
  pub here : number ≡ place + 1
  pub stands : slice_get feeds place ≡ Some watched
  pub new : watched.shown < length watched.log.items
  pub risen : HasRisen (faults watched.tail.feed) (faults later)

-- a journal that ends here would be too long with the round of the items that were not yet shown
abbrev pub IsTooLong : {T : Type 0} → ℕ → List (Watched T) → Type 0
IsTooLong end feeds = largest_journal < end + length (block (round_text (map new_items feeds))) + 1

-- The cause of a stop as feeds are settled, where the store had counted so many faults before and so many then.
abbrev pub IsCause : {T : Type 0} → (T → ℕ) → ℕ → ℕ → ℕ → List (Watched T) → RoundStop → Type 0
IsCause faults before now end feeds stop.OutOfMemory = Unit {0}
IsCause faults before now end feeds (stop.Unsynced number) = IsUnsynced faults feeds number
IsCause faults before now end feeds stop.Failed = HasRisen before now
IsCause faults before now end feeds stop.Full = IsTooLong end feeds

-- the store's count of faults never falls, and each stop has its cause
pub record HasCauses {T R : Type 0} (faults : T → ℕ) (before now end : ℕ) (feeds : List (Watched T))
    (result : Result R RoundStop) : Type 0 where
  pub later : before ≤ now
  pub stops : IfErr result (IsCause faults before now end feeds)

-- as lines were answered, and what was answered was settled
pub record IsCauseOfRound {T : Type 0} (given : T → Option (List ℕ)) (faults : T → ℕ) (before now end batch : ℕ)
    (desk : DeskValue) (feeds : List (Watched T)) (stopped : RoundStop) : Type 0 where
  pub desk_now : DeskValue
  pub answered : List (Watched T)
  pub answers : AnswersAll given batch desk desk_now feeds answered
  pub cause : IsCause faults before now end answered stopped

-- a round stops for want of memory, or for such a cause
abbrev pub StopsRound : {T : Type 0} → (T → Option (List ℕ)) → (T → ℕ) → ℕ → ℕ → ℕ → ℕ → DeskValue → List (Watched T) → RoundStop → Type 0
StopsRound given faults before now end batch desk feeds stop.OutOfMemory = Unit {0}
StopsRound given faults before now end batch desk feeds stopped = IsCauseOfRound given faults before now end batch desk feeds stopped
