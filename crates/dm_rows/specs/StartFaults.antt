-- Why delay records make no start rows.
use Rattle.std.specs.Prelude.{ℕ, ◌≡◌, ◌<◌, ◌≤◌, ◌⊎◌, List, Option, Some, None, IsSome, slice_get}
use Rattle.dm_base.specs.declared.rows.DelayRow.{DelayRow}
use Rattle.dm_base.specs.declared.limits.TheConstants.{DELAY}
use Rattle.dm_network.specs.Net.{Net, event_place, activity_place}
use Rattle.dm_rows.specs.declared.messages.StartFault.{StartFault}
use Rattle.dm_rows.specs.declared.messages.StartFault.TheVariants.{UnknownEvent, UnknownActivity, OutOfMemory}

-- each delay is at most DELAY
abbrev pub DelaysAreWithin : List DelayRow → Type 0
DelaysAreWithin records = (k : ℕ) (row : DelayRow) → slice_get records k ≡ Some row → row.delay ≤ DELAY

-- the place of the event, of the activity with this number as its id
abbrev pub event_numbered : Net → ℕ → Option ℕ
event_numbered net id = event_place net (record { 0 = id })

abbrev pub activity_numbered : Net → ℕ → Option ℕ
activity_numbered net id = activity_place net (record { 0 = id })

-- each of the first n records has a place
abbrev pub AreKnown : (ℕ → Option ℕ) → List DelayRow → ℕ → Type 0
AreKnown place records n =
    (k : ℕ) (row : DelayRow) → k < n → slice_get records k ≡ Some row → IsSome (place row.id)

-- each record has a place
abbrev pub AllAreKnown : (ℕ → Option ℕ) → List DelayRow → Type 0
AllAreKnown place records = (k : ℕ) (row : DelayRow) → slice_get records k ≡ Some row → IsSome (place row.id)

-- the id of the first record that has no place
pub record IsFirstUnknown (place : ℕ → Option ℕ) (records : List DelayRow) (id : ℕ) : Type 0 where
  pub at : ℕ
  pub row : DelayRow
  pub stands : slice_get records at ≡ Some row
  pub named : id ≡ row.id
  pub unknown : place row.id ≡ None
  pub known_before : AreKnown place records at

-- the id has a place
abbrev pub IsKnown : Net → ℕ → Type 0
IsKnown net id = IsSome (event_numbered net id)

-- each of the ids is of an event
abbrev pub AllIdsAreKnown : Net → List ℕ → Type 0
AllIdsAreKnown net ids = (k id : ℕ) → slice_get ids k ≡ Some id → IsKnown net id

-- the first of the ids that is of no event
pub record IsFirstUnknownId (net : Net) (ids : List ℕ) (id : ℕ) : Type 0 where
  pub at : ℕ
  pub stands : slice_get ids at ≡ Some id
  pub unknown : event_numbered net id ≡ None
  pub known_before : (k earlier : ℕ) → k < at → slice_get ids k ≡ Some earlier → IsKnown net earlier

-- what the ids of cancelled events are refused for
abbrev pub RefusesCancelledIds : Net → List ℕ → StartFault → Type 0
RefusesCancelledIds net ids (UnknownEvent id) = IsFirstUnknownId net ids id.0
RefusesCancelledIds net ids (UnknownActivity id) = ⊥
RefusesCancelledIds net ids OutOfMemory = Unit {0}

-- the first unknown event, and after all events the first unknown activity
abbrev pub RefusesDelayRecords : Net → List DelayRow → List DelayRow → StartFault → Type 0
RefusesDelayRecords net events activities (UnknownEvent id) = IsFirstUnknown (event_numbered net) events id.0
RefusesDelayRecords net events activities (UnknownActivity id) =
    AllAreKnown (event_numbered net) events × IsFirstUnknown (activity_numbered net) activities id.0
RefusesDelayRecords net events activities OutOfMemory = Unit {0}

-- what refuses the delay records, and after all of them the first unknown event to cancel
abbrev pub RefusesStart : Net → List DelayRow → List DelayRow → List ℕ → StartFault → Type 0
RefusesStart net events activities ids fault =
    RefusesDelayRecords net events activities fault
    ⊎ (AllAreKnown (event_numbered net) events × AllAreKnown (activity_numbered net) activities
    × RefusesCancelledIds net ids fault)
