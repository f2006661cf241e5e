-- A timetable that is kept while what its events are held to changes.
use Rattle.std.specs.Prelude.{ℕ, nat_eq, ◌≡◌, ◌≢◌, ◌+◌, ◌<◌, ◌⊎◌, Bool, true, false, List, length, slice_index, slice_index_or, slice_set, if◌then◌else◌}
use Rattle.std.specs.List.{Contains, IsDistinct}
use Rattle.dm_graph.specs.Arcs.{Arcs, Binds}
use Rattle.dm_graph.specs.Graph.{Graph}
use Rattle.dm_network.specs.Net.{Net, activity_at}
use Rattle.dm_network.specs.Held.{is_held, IsCycleOf}
use Rattle.dm_order.specs.declared.faults.OrderFault.{OrderFault}
use Rattle.dm_order.specs.declared.faults.OrderFault.TheVariants.{Cyclic, OutOfMemory}
use Rattle.dm_order.specs.Value.{OrderValue}
use Rattle.dm_order.specs.Orders.{IsOrderOf}
use Rattle.dm_settle.specs.Constraints.{ConstraintsValue, IsSizedFor, graph_given}
use Rattle.dm_settle.specs.Settling.{IsSettled, LeadsOn, Follows}
use Rattle.dm_marks.specs.Marked.{is_marked, NoneFrom}

-- what the events are held to, an order of held activities, the times of the events, which events are marked, and which are
-- fixed
pub record LiveValue : Type 0 where
  pub given : ConstraintsValue
  pub order : OrderValue
  pub times : List ℕ
  pub marks : List Bool
  pub fixed : List Bool

abbrev pub is_fixed : List Bool → ℕ → Bool
is_fixed fixed i = slice_index_or fixed i false

-- no event is fixed
abbrev pub NoneFixed : List Bool → Type 0
NoneFixed fixed = (i : ℕ) → is_fixed fixed i ≡ false

-- the activity is held, and its tail is not fixed
abbrev pub is_held_on : Net → ConstraintsValue → List Bool → ℕ → Bool
is_held_on net given fixed a = if is_fixed fixed (activity_at net a).tail then false else is_held given.held a

-- the order holds the held activities out of events that are not fixed, and no others
abbrev pub HoldsUnfixed : Net → OrderValue → ConstraintsValue → List Bool → Type 0
HoldsUnfixed net order given fixed = (a : ℕ) → a < length net.activities → is_held order.held a ≡ is_held_on net given fixed a

-- the held activities have a cycle
pub record HasHeldCycle (net : Net) (given : ConstraintsValue) : Type 0 where
  pub cycle : List ℕ
  pub is_cycle : IsCycleOf net (is_held given.held) cycle

-- why constraints have no timetable
abbrev pub RefusesLive : Net → ConstraintsValue → OrderFault → Type 0
RefusesLive net given Cyclic = HasHeldCycle net given
RefusesLive net given OutOfMemory = Unit {0}

-- an event that is not marked has the least time that its floor and the arcs into it allow beside the times of the others
pub record AreMarked (g : Graph) (marks : List Bool) (times : List ℕ) : Type 0 where
  pub as_many_marks : length marks ≡ g.shape.events
  pub as_many_times : length times ≡ g.shape.events
  pub settled : (e : ℕ) → e < g.shape.events → is_marked marks e ≡ false → IsSettled g times e

-- nothing that is held enters the event
abbrev pub IsEnteredByNone : Net → List Bool → ℕ → Type 0
IsEnteredByNone net held i = (a : ℕ) → a < length net.activities → is_held held a ≡ true → (activity_at net a).head ≢ i

-- nothing that is held enters the event, and its time is its floor
pub record Stands (net : Net) (given : ConstraintsValue) (times : List ℕ) (i : ℕ) : Type 0 where
  pub entered : IsEnteredByNone net given.held i
  pub at_floor : slice_index times i ≡ slice_index given.floors i

-- each fixed event stands
abbrev pub FixedStand : Net → ConstraintsValue → List ℕ → List Bool → Type 0
FixedStand net given times fixed = (i : ℕ) → is_fixed fixed i ≡ true → Stands net given times i

-- The lists are the network's, the order is one of the held activities but for those out of fixed events, which stand, and the
-- marks take in every event that may not have its time.
pub record IsLive (net : Net) (live : LiveValue) : Type 0 where
  pub sized : IsSizedFor net live.given
  pub ordered : IsOrderOf net live.order
  pub as_many_fixed : length live.fixed ≡ length net.events
  pub in_order : HoldsUnfixed net live.order live.given live.fixed
  pub stand : FixedStand net live.given live.times live.fixed
  pub marked : AreMarked (graph_given net live.given) live.marks live.times

-- no event is marked
abbrev pub IsAtRest : LiveValue → Type 0
IsAtRest live = NoneFrom live.marks 0

-- the marks with those of one event, of the head of an activity
abbrev pub with_mark : List Bool → ℕ → List Bool
with_mark marks i = slice_set marks i true

abbrev pub with_head : Net → List Bool → ℕ → List Bool
with_head net marks a = with_mark marks (activity_at net a).head

-- the constraints with another floor of one event, with another span of one activity, with one activity held or not
abbrev pub with_floor : ConstraintsValue → ℕ → ℕ → ConstraintsValue
with_floor given i floor = record given { floors = slice_set given.floors i floor }

abbrev pub with_span : ConstraintsValue → ℕ → ℕ → ConstraintsValue
with_span given a span = record given { spans = slice_set given.spans a span }

abbrev pub with_held : ConstraintsValue → ℕ → Bool → ConstraintsValue
with_held given a held = record given { held = slice_set given.held a held }

-- beside the marks before, the heads of the arcs that bind out of the event are marked, and no other event
pub record MarksHeads (g : Arcs) (event : ℕ) (before now : List Bool) : Type 0 where
  pub as_many : length now ≡ length before
  pub kept : (e : ℕ) → is_marked before e ≡ true → is_marked now e ≡ true
  pub heads : (a : ℕ) → Binds g a → g.tail a ≡ event → is_marked now (g.head a) ≡ true
  pub only : (e : ℕ) → is_marked now e ≡ true → (is_marked before e ≡ true) ⊎ LeadsOn g event e

-- The event has its time, so that it is not marked. Where its time differs, the heads of the arcs that bind out of it are
-- marked, which reads one row; else no row is read.
pub record IsFixed (g : Arcs) (i time : ℕ) (before after : LiveValue) (first last : ℕ) : Type 0 where
  pub times : after.times ≡ slice_set before.times i time
  pub stays : slice_index before.times i ≡ time → (after.marks ≡ slice_set before.marks i false) × (last ≡ first)
  pub moves : slice_index before.times i ≢ time → MarksHeads g i (slice_set before.marks i false) after.marks × (last ≡ first + 1)

-- Which rows are read while it settles: of each event in `renewed` the one in, of each in `moved` the one out, each once.
-- An event is renewed because it was marked or follows one that has moved. One has moved if its time differs.
pub record AreReadFor (g : Arcs) (before after : LiveValue) (renewed moved : List ℕ) : Type 0 where
  pub are_events : (e : ℕ) → Contains renewed e → e < g.events
  pub renewed_once : IsDistinct nat_eq renewed
  pub moved_once : IsDistinct nat_eq moved
  pub caused : (e : ℕ) → Contains renewed e → (is_marked before.marks e ≡ true) ⊎ Follows g moved e
  pub differs : (e : ℕ) → Contains moved e → slice_index before.times e ≢ slice_index after.times e

-- So many rows are read: one for each event that is computed anew, and one for each that has moved.
pub record ReadsFew (g : Arcs) (before after : LiveValue) (first last : ℕ) : Type 0 where
  pub renewed : List ℕ
  pub moved : List ℕ
  pub counted : last ≡ first + length renewed + length moved
  pub reads : AreReadFor g before after renewed moved
