-- Why the parts of a round stop.
use Rattle.std.specs.Prelude.{ℕ, ◌≡◌, ◌<◌, ◌≤◌, List, length, Result, IfErr}
use Rattle.dm_outside.specs.Faults.{HasRisen}
use Rattle.dm_tail.specs.declared.watched.Watched.{Watched}
use Rattle.dm_watch.specs.Stops.{IsUnsynced, IsTooLong}
use Rattle.dm_watch.specs.declared.stops.RoundStop.{RoundStop}
use Rattle.dm_watch.specs.declared.stops.RoundStop.TheVariants as stop

-- a feed with new items, of which a call has failed since
pub record HasFailed {T : Type 0} (faults : T → ℕ) (watched : Watched T) : Type 0 where
  pub later : T
  pub new : watched.shown < length watched.log.items
  pub risen : HasRisen (faults watched.tail.feed) (faults later)

-- a feed of this number could not be synced
abbrev pub IsStopOfFeed : {T : Type 0} → (T → ℕ) → Watched T → ℕ → RoundStop → Type 0
IsStopOfFeed faults watched number (stop.Unsynced n) = (n ≡ number) × HasFailed faults watched
IsStopOfFeed faults watched number _ = ⊥

-- some feed could not be synced, or there was no memory
abbrev pub IsStopOfFeeds : {T : Type 0} → (T → ℕ) → List (Watched T) → RoundStop → Type 0
IsStopOfFeeds faults feeds stop.OutOfMemory = Unit {0}
IsStopOfFeeds faults feeds (stop.Unsynced number) = IsUnsynced faults feeds number
IsStopOfFeeds faults feeds _ = ⊥

-- a call of the store failed, or there was no memory
abbrev pub IsStopOfStore : ℕ → ℕ → RoundStop → Type 0
IsStopOfStore before now stop.OutOfMemory = Unit {0}
IsStopOfStore before now stop.Failed = HasRisen before now
IsStopOfStore before now _ = ⊥

-- the store's count of faults never falls, and each stop of it has its cause
pub record HasCauseInStore {R : Type 0} (before now : ℕ) (result : Result R RoundStop) : Type 0 where
  pub later : before ≤ now
  pub stops : IfErr result (IsStopOfStore before now)

-- and the journal may be too long with the round of the feeds' new items
abbrev pub IsStopOfSettling : {T : Type 0} → ℕ → ℕ → ℕ → List (Watched T) → RoundStop → Type 0
IsStopOfSettling before now end feeds stop.OutOfMemory = Unit {0}
IsStopOfSettling before now end feeds stop.Failed = HasRisen before now
IsStopOfSettling before now end feeds stop.Full = IsTooLong end feeds
IsStopOfSettling before now end feeds _ = ⊥

pub record HasCauseToSettle {T R : Type 0} (before now end : ℕ) (feeds : List (Watched T)) (result : Result R RoundStop) : Type 0 where
  pub later : before ≤ now
  pub stops : IfErr result (IsStopOfSettling before now end feeds)
