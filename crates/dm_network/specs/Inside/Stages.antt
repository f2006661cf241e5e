-- What the stages of a build pass on to each other.
use Rattle.std.specs.Prelude.{ℕ, ◌≡◌, ◌-◌, ◌<◌, ◌≤◌, ◌↔◌, ◌&&◌, true, List, [], length, map, Option, Some, None, if◌then◌else◌, slice_index_or, All, Contains, position, nat_lt, nat_le, filter, ◌==◌, IsPermutation}
use Rattle.std.specs.List.Sorted.{IsStrictlyIncreasing, IsNonDecreasing}
use Rattle.dm_base.specs.declared.rows.EventRow.{EventRow}
use Rattle.dm_base.specs.declared.rows.ActRow.{ActRow}
use Rattle.dm_network.specs.declared.parts.Event.{Event}
use Rattle.dm_network.specs.declared.parts.Activity.{Activity}
use Rattle.dm_network.specs.declared.parts.Pair.{Pair}
use Rattle.dm_network.specs.declared.parts.NetFault.{NetFault}
use Rattle.dm_network.specs.declared.parts.NetFault.TheVariants.{DoubleEvent, DoubleActivity, UnknownEvent, ZeroHeadway, Cycle, OutOfMemory}
use Rattle.dm_base.specs.declared.ids.StopId.{StopId}
use Rattle.dm_network.specs.declared.forming.Formed.{Formed}
use Rattle.dm_network.specs.declared.arrays.Standing.{Standing}
use Rattle.dm_network.specs.Net.{Net, no_event, no_activity, no_pair, pair_at, is_headway, places_into, places_out_of}
use Rattle.dm_network.specs.declared.arrays.Arrays.{Arrays}
use Rattle.dm_network.specs.Start.{IsStartCycle, ShowsStartCycle}
use Rattle.dm_network.specs.Inside.Flat.{AreByStop, IsAdjacency}
use Rattle.dm_network.specs.Pairs.{joins, ComesBefore}
use Rattle.dm_network.specs.Build.{event_row, activity_row, event_ids, activity_ids, NamesNoEvent, IsFirst, HoldsOfNone, NoneStandsTwice, IsLeastDouble, IsZeroHeadway}

-- the event of a record
abbrev pub event_with : EventRow → Event
event_with row = record { id = row.id; kind = row.kind; time = row.time; weight = row.weight; stop = row.stop }

-- the record of an activity whose ends are places of these events
abbrev pub row_with : List Event → Activity → ActRow
row_with events a = activity_row (record { events = events; activities = []; pairs = [] }) a

-- both ends are places of so many events
pub record HasEnds (count : ℕ) (a : Activity) : Type 0 where
  pub tail : a.tail < count
  pub head : a.head < count

-- the activity is the record's, by place, and so the record names events alone
pub record Resolves (events : List Event) (row : ActRow) (a : Activity) : Type 0 where
  pub is : row ≡ row_with events a
  pub ends : HasEnds (length events) a
  pub known : NamesNoEvent (map event_row events) row → ⊥

-- the activities are those of the records, in their order
pub record AreResolved (events : List Event) (rows : List ActRow) (activities : List Activity) : Type 0 where
  pub are : rows ≡ map (row_with events) activities
  pub ends : All (HasEnds (length events)) activities
  pub known : HoldsOfNone (NamesNoEvent (map event_row events)) rows

-- why records are not resolved: the first that names an end which is no event, or want of memory
abbrev pub RefusesEnds : List Event → List ActRow → NetFault → Type 0
RefusesEnds events rows (UnknownEvent id) = IsFirst (NamesNoEvent (map event_row events)) rows id
RefusesEnds events rows OutOfMemory = Unit {0}
RefusesEnds events rows _ = ⊥

-- a headway from one event to another, by place
pub record IsHeadwayAmong (activities : List Activity) (i j a : ℕ) : Type 0 where
  pub is_activity : a < length activities
  pub headway : is_headway (slice_index_or activities a no_activity).kind ≡ true
  pub tail : (slice_index_or activities a no_activity).tail ≡ i
  pub head : (slice_index_or activities a no_activity).head ≡ j

abbrev pub HasHeadway : List Activity → ℕ → ℕ → Type 0
HasHeadway activities i j = (a : ℕ) × IsHeadwayAmong activities i j a

-- two events of a headway, where the first is the smaller one
abbrev pub headway_pair : Activity → ℕ → ℕ → Option Pair
headway_pair a small large = if is_headway a.kind && nat_lt small large then Some (record { small = small; large = large }) else None

-- the two events of a headway that leads from the smaller to the larger one, or from the larger to the smaller one
abbrev pub upward_pair : Activity → Option Pair
upward_pair a = headway_pair a a.tail a.head

abbrev pub downward_pair : Activity → Option Pair
downward_pair a = headway_pair a a.head a.tail

-- no pair comes before the one before it
abbrev pub PairsDoNotFall : List Pair → Type 0
PairsDoNotFall pairs = (i j : ℕ) → i ≤ j → j < length pairs →
    ComesBefore (slice_index_or pairs j no_pair) (slice_index_or pairs i no_pair) → ⊥

-- a pair stands in one of two lists exactly where it stands in both
abbrev pub AreCommon : List Pair → List Pair → List Pair → Type 0
AreCommon xs ys pairs = (p : Pair) → Contains pairs p ↔ (Contains xs p × Contains ys p)

-- the pairs are the two-way headways between different events
abbrev pub AreTwoWay : List Activity → List Pair → Type 0
AreTwoWay activities pairs =
    (p : Pair) → Contains pairs p ↔ ((p.small < p.large) × HasHeadway activities p.small p.large × HasHeadway activities p.large p.small)

-- the activity with the pair that its events form, if it is a headway
abbrev pub with_pair : List Pair → Activity → Activity
with_pair pairs a = record a { pair = if is_headway a.kind then position (λ p. joins p a.tail a.head) pairs else None }

-- each pair comes before all later ones
abbrev pub AscendStrictly : List Pair → Type 0
AscendStrictly pairs = (i j : ℕ) → i < j → j < length pairs → ComesBefore (slice_index_or pairs i no_pair) (slice_index_or pairs j no_pair)

-- the pair is not the last of the list
abbrev pub DiffersFromLast : List Pair → Pair → Type 0
DiffersFromLast pairs p = 0 < length pairs → slice_index_or pairs (length pairs - 1) no_pair ≡ p → ⊥

-- the events of the records, each once, in ascending order
pub record AreEventsOf (rows : List EventRow) (events : List Event) : Type 0 where
  pub same : IsPermutation rows (map event_row events)
  pub ascend : IsStrictlyIncreasing (map (λ e. e.id.0) events)
  pub once : NoneStandsTwice (event_ids rows)

-- why records make no events: the least id that stands twice, or want of memory
abbrev pub RefusesEvents : List EventRow → NetFault → Type 0
RefusesEvents rows (DoubleEvent id) = IsLeastDouble (event_ids rows) id.0
RefusesEvents rows OutOfMemory = Unit {0}
RefusesEvents rows _ = ⊥

-- a headway keeps its events apart
abbrev pub IsApart : Activity → Type 0
IsApart a = is_headway a.kind ≡ true → 1 ≤ a.lower

-- the activities of the records between these events, each once, in ascending order
pub record AreActivitiesOf (events : List Event) (rows : List ActRow) (activities : List Activity) : Type 0 where
  pub same : IsPermutation rows (map (row_with events) activities)
  pub ascend : IsStrictlyIncreasing (map (λ a. a.id.0) activities)
  pub ends : All (HasEnds (length events)) activities
  pub apart : All IsApart activities

-- why records make no activities between these events
abbrev pub RefusesActivities : List Event → List ActRow → NetFault → Type 0
RefusesActivities events rows (DoubleActivity id) = IsLeastDouble (activity_ids rows) id.0
RefusesActivities events rows (UnknownEvent id) =
    NoneStandsTwice (activity_ids rows) × IsFirst (NamesNoEvent (map event_row events)) rows id
RefusesActivities events rows (ZeroHeadway id) =
    NoneStandsTwice (activity_ids rows) × HoldsOfNone (NamesNoEvent (map event_row events)) rows × IsFirst IsZeroHeadway rows id
RefusesActivities events rows OutOfMemory = Unit {0}
RefusesActivities events rows _ = ⊥

-- the network that the parts make
abbrev pub formed_net : Formed → Net
formed_net formed = record { events = formed.events.items; activities = formed.activities.items; pairs = formed.pairs.items }

abbrev pub with_events : List Event → Net
with_events events = record { events = events; activities = []; pairs = [] }

abbrev pub net_with : List Event → List Activity → List Pair → Net
net_with events activities pairs = record { events = events; activities = activities; pairs = pairs }

-- what stands beside a network
pub record StandBeside (net : Net) (arrays : Arrays) : Type 0 where
  pub rows_in : IsAdjacency (places_into net) (length net.events) arrays.incoming.offsets.items arrays.incoming.places.items
  pub rows_out : IsAdjacency (places_out_of net) (length net.events) arrays.outgoing.offsets.items arrays.outgoing.places.items
  pub tails_are : arrays.tails.items ≡ map (λ a. a.tail) net.activities
  pub at_stops : AreByStop net arrays.by_stop.stops.items arrays.by_stop.places.items

-- why a network that is formed is refused: a cycle at the start, or want of memory
abbrev pub RefusesFormed : Net → NetFault → Type 0
RefusesFormed net (Cycle ids) = ShowsStartCycle net ids
RefusesFormed net OutOfMemory = Unit {0}
RefusesFormed net _ = ⊥

-- the stop of the event at a place, with the place
abbrev pub standing_at : List Event → ℕ → Standing
standing_at events i = record { stop = (slice_index_or events i no_event).stop; place = i }

-- the stops do not fall, and those of one stop stand in their order
pub record AreSortedByStop (standings sorted : List Standing) : Type 0 where
  pub same : IsPermutation standings sorted
  pub ascending : IsNonDecreasing (map (λ s. s.stop.0) sorted)
  pub stable : (stop : ℕ) → filter (λ s. s.stop.0 == stop) sorted ≡ filter (λ s. s.stop.0 == stop) standings

-- the places of the events by stop, beside their stops
abbrev pub AreStopsOf : List Event → List StopId → List ℕ → Type 0
AreStopsOf events stops places = AreByStop (record { events = events; activities = []; pairs = [] }) stops places

-- if the activity has a pair, then it is one, and its two events are events
abbrev pub KnowsPair : Net → Activity → Type 0
KnowsPair net a = (p : ℕ) → a.pair ≡ Some p →
    (p < length net.pairs) × ((pair_at net p).small < length net.events) × ((pair_at net p).large < length net.events)

-- the event of a pair that is first at the start
abbrev pub first_in : List Event → Pair → ℕ
first_in events pair =
    if nat_le (slice_index_or events pair.small no_event).time
    (slice_index_or events pair.large no_event).time then pair.small else pair.large

-- no list of activities is a cycle at the start
abbrev pub HasNoStartCycle : Net → Type 0
HasNoStartCycle net = (cycle : List ℕ) → IsStartCycle net cycle → ⊥
