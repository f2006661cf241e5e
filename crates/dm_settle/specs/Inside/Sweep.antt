-- How far a sweep along an order has come.
use Rattle.std.specs.Prelude.{ℕ, ◌≡◌, ◌≢◌, slice_set, nat_le, max, ◌&&◌, ◌+◌, ◌*◌, ◌^◌, ◌<◌, ◌≤◌, ◌⊎◌, Bool, true, false, IsTrue, List, length, slice_index}
use Rattle.std.specs.List.{Contains}
use Rattle.dm_base.specs.declared.limits.TheConstants.{PASSED_TIME, BOUND, DELAY}
use Rattle.dm_graph.specs.Arcs.{Arcs, Binds}
use Rattle.dm_graph.specs.Graph.{Graph, IsJoin}
use Rattle.dm_marks.specs.Marked.{is_marked}
use Rattle.dm_settle.specs.Settling.{IsSettled, MayMove, MarksUnsettled, State, Follows, AreReadFor}

-- no event of n can be later than this
abbrev pub latest : ℕ → ℕ
latest n = PASSED_TIME + n * (BOUND + DELAY)

-- the tails of the arcs that bind into the event are so early that the event is below the limit of all times
abbrev pub TailsAreEarly : Graph → List ℕ → ℕ → Type 0
TailsAreEarly g times e =
    (a : ℕ) → Binds g.shape a → g.shape.head a ≡ e → slice_index times (g.shape.tail a) + (BOUND + DELAY) < 2 ^ 38

-- the time when the head of an arc can be
abbrev pub time_along : Graph → List ℕ → ℕ → ℕ
time_along g times a = slice_index times (g.shape.tail a) + g.span a

-- the time that the floor of an event and the first n arcs of a row allow
pub record HasJoined (g : Graph) (times : List ℕ) (e : ℕ) (row : List ℕ) (n time : ℕ) : Type 0 where
  pub above : g.floor e ≤ time
  pub along : (k : ℕ) → k < n → IsTrue (g.shape.held (slice_index row k)) → time_along g times (slice_index row k) ≤ time
  pub least : (u : ℕ) → g.floor e ≤ u →
      ((k : ℕ) → k < n → IsTrue (g.shape.held (slice_index row k)) → time_along g times (slice_index row k) ≤ u) → time ≤ u

-- an arc that binds leads from the event to one whose mark has this place
pub record LeadsToPlace (g : Arcs) (place_of : ℕ → ℕ) (from place : ℕ) : Type 0 where
  pub arc : ℕ
  pub binds : Binds g arc
  pub leaves : g.tail arc ≡ from
  pub there : place_of (g.head arc) ≡ place

-- beside the marks before, the heads of the arcs held among the first n of the row out of the event are marked
pub record HasMarked (g : Arcs) (place_of : ℕ → ℕ) (event : ℕ) (row : List ℕ) (n : ℕ) (before now : List Bool) : Type 0 where
  pub as_many : length now ≡ length before
  pub kept : (k : ℕ) → is_marked before k ≡ true → is_marked now k ≡ true
  pub heads : (k : ℕ) → k < n → IsTrue (g.held (slice_index row k)) → is_marked now (place_of (g.head (slice_index row k))) ≡ true
  pub only : (k : ℕ) → is_marked now k ≡ true → (is_marked before k ≡ true) ⊎ LeadsToPlace g place_of event k

-- beside the marks before, the heads of the arcs that bind out of the event are marked, and no other place
pub record MarksHeads (g : Arcs) (place_of : ℕ → ℕ) (event : ℕ) (before now : List Bool) : Type 0 where
  pub as_many : length now ≡ length before
  pub kept : (k : ℕ) → is_marked before k ≡ true → is_marked now k ≡ true
  pub heads : (a : ℕ) → Binds g a → g.tail a ≡ event → is_marked now (place_of (g.head a)) ≡ true
  pub only : (k : ℕ) → is_marked now k ≡ true → (is_marked before k ≡ true) ⊎ LeadsToPlace g place_of event k

-- the marks take in every event that may not have its time, none stands before a place, and each is of an event that may
-- move by the marks at first
pub record IsSweeping (g : Graph) (ranks : List ℕ) (first : List Bool) (marks : List Bool) (times : List ℕ) (from : ℕ) : Type 0 where
  pub unsettled : MarksUnsettled g ranks marks times
  pub later : (k : ℕ) → is_marked marks k ≡ true → from ≤ k
  pub may_move : (e : ℕ) → e < g.shape.events → is_marked marks (slice_index ranks e) ≡ true → MayMove g.shape ranks first e

-- the event was computed anew and has its time still; its mark is gone
pub record Stays (g : Graph) (ranks : List ℕ) (event : ℕ) (before after : State) : Type 0 where
  pub settled : IsSettled g before.times event
  pub times : after.times ≡ before.times
  pub marks : after.marks ≡ slice_set before.marks (slice_index ranks event) false
  pub counted : after.steps ≡ before.steps + 1

-- an arc out of an event that moves may move its head: it is held, and the head is no later than it asks for with the later one
-- of the event's two times
abbrev pub pulls : Graph → List ℕ → ℕ → ℕ → ℕ → Bool
pulls g times event time a =
    g.shape.held a && nat_le (slice_index times (g.shape.head a)) (max (slice_index times event) time + g.span a)

-- these arcs alone are held
abbrev pub pulling : Graph → List ℕ → ℕ → ℕ → Arcs
pulling g times event time = record g.shape { held = pulls g times event time }

-- the event was computed anew and has another time; its mark is gone, and the heads that it may move are marked
pub record Moves (g : Graph) (ranks : List ℕ) (event : ℕ) (before after : State) : Type 0 where
  pub time : ℕ
  pub join : IsJoin g (slice_index before.times) event time
  pub differs : slice_index before.times event ≢ time
  pub times : after.times ≡ slice_set before.times event time
  pub marks : MarksHeads (pulling g before.times event time) (slice_index ranks) event
      (slice_set before.marks (slice_index ranks event) false) after.marks
  pub counted : after.steps ≡ before.steps + 2

-- the event was computed anew, and it has moved or not
abbrev pub Renews : Bool → Graph → List ℕ → ℕ → State → State → Type 0
Renews true g ranks event before after = Moves g ranks event before after
Renews false g ranks event before after = Stays g ranks event before after

-- what has been read between two moments of a sweep, at a place
pub record HasRead (g : Arcs) (ranks : List ℕ) (before after : State) (from : ℕ) : Type 0 where
  pub renewed : List ℕ
  pub moved : List ℕ
  pub counted : after.steps ≡ before.steps + length renewed + length moved
  pub reads : AreReadFor g ranks before after renewed moved
  pub renewed_before : (e : ℕ) → Contains renewed e → slice_index ranks e < from
  pub moved_before : (e : ℕ) → Contains moved e → slice_index ranks e < from
  pub same_after : (e : ℕ) → e < g.events → from ≤ slice_index ranks e → slice_index after.times e ≡ slice_index before.times e
  pub marked_for : (e : ℕ) → e < g.events → is_marked after.marks (slice_index ranks e) ≡ true →
      (is_marked before.marks (slice_index ranks e) ≡ true) ⊎ Follows g moved e
