-- Which network the records of two files make, and why they make none.
use Rattle.std.specs.Prelude.{ℕ, ◌≡◌, ◌≢◌, ◌<◌, ◌≤◌, ◌⊎◌, true, List, length, map, Some, slice_get, IsPermutation}
use Rattle.dm_base.specs.declared.ids.EventId.{EventId}
use Rattle.dm_base.specs.declared.ids.ActId.{ActId}
use Rattle.dm_base.specs.declared.rows.EventRow.{EventRow}
use Rattle.dm_base.specs.declared.rows.ActRow.{ActRow}
use Rattle.dm_base.specs.declared.limits.TheConstants.{EVENTS, ACTIVITIES, TIME, BOUND, WEIGHT}
use Rattle.dm_network.specs.declared.parts.Event.{Event}
use Rattle.dm_network.specs.declared.parts.Activity.{Activity}
use Rattle.dm_network.specs.declared.parts.NetFault.{NetFault}
use Rattle.dm_network.specs.declared.parts.NetFault.TheVariants.{TooMany, DoubleEvent, DoubleActivity, UnknownEvent, ZeroHeadway, Cycle, OutOfMemory}
use Rattle.dm_network.specs.Net.{Net, event_at, is_headway, IsWithinLimits}
use Rattle.dm_network.specs.Start.{IsFormed, IsNetwork, ShowsStartCycle}

-- the numbers of the records are at most the largest that the files may hold
pub record AreWithinLimits (events : List EventRow) (activities : List ActRow) : Type 0 where
  pub times : (k : ℕ) (row : EventRow) → slice_get events k ≡ Some row → row.time ≤ TIME
  pub event_weights : (k : ℕ) (row : EventRow) → slice_get events k ≡ Some row → row.weight ≤ WEIGHT
  pub bounds : (k : ℕ) (row : ActRow) → slice_get activities k ≡ Some row → row.lower ≤ BOUND
  pub activity_weights : (k : ℕ) (row : ActRow) → slice_get activities k ≡ Some row → row.weight ≤ WEIGHT

-- the record that an event, an activity of the network comes from
abbrev pub event_row : Event → EventRow
event_row e = record { id = e.id; kind = e.kind; time = e.time; weight = e.weight; stop = e.stop }

abbrev pub activity_row : Net → Activity → ActRow
activity_row net a =
    record {
      id = a.id;
      kind = a.kind;
      tail = (event_at net a.tail).id;
      head = (event_at net a.head).id;
      lower = a.lower;
      weight = a.weight;
    }

-- the network holds exactly the records, in order of ids, and its activities name their ends by place
pub record IsMadeOf (events : List EventRow) (activities : List ActRow) (net : Net) : Type 0 where
  pub same_events : IsPermutation events (map event_row net.events)
  pub same_activities : IsPermutation activities (map (activity_row net) net.activities)
  pub formed : IsFormed net

-- a record of this id stands at two places
pub record StandsTwice (ids : List ℕ) (id : ℕ) : Type 0 where
  pub first : ℕ
  pub second : ℕ
  pub apart : first < second
  pub at_first : slice_get ids first ≡ Some id
  pub at_second : slice_get ids second ≡ Some id

abbrev pub NoneStandsTwice : List ℕ → Type 0
NoneStandsTwice ids = (id : ℕ) → StandsTwice ids id → ⊥

-- the least id that stands twice
pub record IsLeastDouble (ids : List ℕ) (id : ℕ) : Type 0 where
  pub twice : StandsTwice ids id
  pub least : (other : ℕ) → StandsTwice ids other → id ≤ other

abbrev pub event_ids : List EventRow → List ℕ
event_ids events = map (λ row. row.id.0) events

abbrev pub activity_ids : List ActRow → List ℕ
activity_ids activities = map (λ row. row.id.0) activities

-- the id is that of no record
abbrev pub IsNoEvent : List EventRow → EventId → Type 0
IsNoEvent events id = (k : ℕ) (row : EventRow) → slice_get events k ≡ Some row → row.id ≢ id

-- the record names a tail or a head that is no event
abbrev pub NamesNoEvent : List EventRow → ActRow → Type 0
NamesNoEvent events row = IsNoEvent events row.tail ⊎ IsNoEvent events row.head

abbrev pub IsZeroHeadway : ActRow → Type 0
IsZeroHeadway row = (is_headway row.kind ≡ true) × (row.lower ≡ 0)

-- the first record of the file for which P holds has this id
pub record IsFirst (P : ActRow → Type 0) (activities : List ActRow) (id : ActId) : Type 0 where
  pub place : ℕ
  pub row : ActRow
  pub at_place : slice_get activities place ≡ Some row
  pub holds : P row
  pub named : id ≡ row.id
  pub none_before : (k : ℕ) (other : ActRow) → k < place → slice_get activities k ≡ Some other → P other → ⊥

abbrev pub HoldsOfNone : (ActRow → Type 0) → List ActRow → Type 0
HoldsOfNone P activities = (k : ℕ) (row : ActRow) → slice_get activities k ≡ Some row → P row → ⊥

-- the lists are not too long
pub record AreFew (events : List EventRow) (activities : List ActRow) : Type 0 where
  pub few_events : length events ≤ EVENTS
  pub few_activities : length activities ≤ ACTIVITIES

-- a cycle of the start rows of the network that the records would make
pub record ShowsCycleOfRecords (events : List EventRow) (activities : List ActRow) (ids : List ActId) : Type 0 where
  pub net : Net
  pub made : IsMadeOf events activities net
  pub shown : ShowsStartCycle net ids

-- The fault is the first that applies, in this order. Want of memory may come in the place of any answer.
abbrev pub RefusesRecords : List EventRow → List ActRow → NetFault → Type 0
RefusesRecords events activities TooMany = (EVENTS < length events) ⊎ (ACTIVITIES < length activities)
RefusesRecords events activities (DoubleEvent id) =
    AreFew events activities × IsLeastDouble (event_ids events) id.0
RefusesRecords events activities (DoubleActivity id) =
    AreFew events activities × NoneStandsTwice (event_ids events) × IsLeastDouble (activity_ids activities) id.0
RefusesRecords events activities (UnknownEvent id) =
    AreFew events activities × NoneStandsTwice (event_ids events) × NoneStandsTwice (activity_ids activities)
    × IsFirst (NamesNoEvent events) activities id
RefusesRecords events activities (ZeroHeadway id) =
    AreFew events activities × NoneStandsTwice (event_ids events) × NoneStandsTwice (activity_ids activities)
    × HoldsOfNone (NamesNoEvent events) activities × IsFirst IsZeroHeadway activities id
RefusesRecords events activities (Cycle ids) = AreFew events activities × ShowsCycleOfRecords events activities ids
RefusesRecords events activities OutOfMemory = Unit {0}

-- The network that the records make: it is within the limits, and has no cycle at the start.
pub record IsBuiltFrom (events : List EventRow) (activities : List ActRow) (net : Net) : Type 0 where
  pub few : AreFew events activities
  pub made : IsMadeOf events activities net
  pub network : IsNetwork net
  pub within : IsWithinLimits net
