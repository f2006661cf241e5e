-- What a network holds, by place, and how the ids of files name its parts.
use Rattle.std.specs.Prelude.{ℕ, ◌≡◌, ◌==◌, ◌^◌, ◌<◌, ◌≤◌, Bool, true, false, List, length, Option, None, slice_index_or, map, filter, position}
use Rattle.std.specs.List.{range_with_len}
use Rattle.std.specs.List.Sorted.{IsStrictlyIncreasing}
use Rattle.dm_base.specs.declared.ids.EventId.{EventId}
use Rattle.dm_base.specs.declared.ids.ActId.{ActId}
use Rattle.dm_base.specs.declared.ids.StopId.{StopId}
use Rattle.dm_base.specs.declared.rows.EventKind.TheVariants.{Departure}
use Rattle.dm_base.specs.declared.rows.ActKind.{ActKind}
use Rattle.dm_base.specs.declared.rows.ActKind.TheVariants.{Drive, Change, Headway}
use Rattle.dm_base.specs.declared.limits.TheConstants.{EVENTS, ACTIVITIES, TIME, BOUND, WEIGHT}
use Rattle.dm_network.specs.declared.parts.Event.{Event}
use Rattle.dm_network.specs.declared.parts.Activity.{Activity}
use Rattle.dm_network.specs.declared.parts.Pair.{Pair}

-- events, activities and pairs, each at its place
pub record Net : Type 0 where
  pub events : List Event
  pub activities : List Activity
  pub pairs : List Pair

-- what stands past the end of a list
abbrev pub no_event : Event
no_event = record { id = record { 0 = 0 }; kind = Departure; time = 0; weight = 0; stop = record { 0 = 0 } }

abbrev pub no_activity : Activity
no_activity =
    record { id = record { 0 = 0 }; kind = Drive; tail = 0; head = 0; lower = 0; weight = 0; pair = None }

abbrev pub no_pair : Pair
no_pair = record { small = 0; large = 0 }

-- the event, the activity, the pair at a place
abbrev pub event_at : Net → ℕ → Event
event_at net i = slice_index_or net.events i no_event

abbrev pub activity_at : Net → ℕ → Activity
activity_at net a = slice_index_or net.activities a no_activity

abbrev pub pair_at : Net → ℕ → Pair
pair_at net p = slice_index_or net.pairs p no_pair

-- the place of the event, of the activity with this id, or None where there is none
abbrev pub event_place : Net → EventId → Option ℕ
event_place net id = position (λ e. e.id.0 == id.0) net.events

abbrev pub activity_place : Net → ActId → Option ℕ
activity_place net id = position (λ a. a.id.0 == id.0) net.activities

abbrev pub is_change : ActKind → Bool
is_change Change = true
is_change _ = false

abbrev pub is_headway : ActKind → Bool
is_headway Headway = true
is_headway _ = false

-- the places of the activities with this head, with this tail, ascending
abbrev pub places_into : Net → ℕ → List ℕ
places_into net i = filter (λ a. (activity_at net a).head == i) (range_with_len 0 (length net.activities))

abbrev pub places_out_of : Net → ℕ → List ℕ
places_out_of net i = filter (λ a. (activity_at net a).tail == i) (range_with_len 0 (length net.activities))

-- the places of the events at this stop, ascending
abbrev pub places_at : Net → StopId → List ℕ
places_at net stop = filter (λ i. (event_at net i).stop.0 == stop.0) (range_with_len 0 (length net.events))

-- each list is in ascending order of ids, so that none stands twice
abbrev pub EventsAscend : Net → Type 0
EventsAscend net = IsStrictlyIncreasing (map (λ e. e.id.0) net.events)

abbrev pub ActivitiesAscend : Net → Type 0
ActivitiesAscend net = IsStrictlyIncreasing (map (λ a. a.id.0) net.activities)

-- each tail and each head is the place of an event
pub record EndsAreKnown (net : Net) : Type 0 where
  pub tails : (a : ℕ) → a < length net.activities → (activity_at net a).tail < length net.events
  pub heads : (a : ℕ) → a < length net.activities → (activity_at net a).head < length net.events

-- a headway keeps its two events at least a second apart
abbrev pub HeadwaysAreApart : Net → Type 0
HeadwaysAreApart net =
    (a : ℕ) → a < length net.activities → is_headway (activity_at net a).kind ≡ true → 1 ≤ (activity_at net a).lower

-- ids of events are numbers of 32 bits
abbrev pub EventIdsFit : Net → Type 0
EventIdsFit net = (i : ℕ) → (event_at net i).id.0 < 2 ^ 32

-- sizes and numbers are within the limits
pub record IsWithinLimits (net : Net) : Type 0 where
  pub events : length net.events ≤ EVENTS
  pub activities : length net.activities ≤ ACTIVITIES
  pub times : (i : ℕ) → (event_at net i).time ≤ TIME
  pub event_weights : (i : ℕ) → (event_at net i).weight ≤ WEIGHT
  pub bounds : (a : ℕ) → (activity_at net a).lower ≤ BOUND
  pub activity_weights : (a : ℕ) → (activity_at net a).weight ≤ WEIGHT
