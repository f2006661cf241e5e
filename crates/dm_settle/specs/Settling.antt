-- When a sweep along an order may be made, what it leaves, and which rows it reads. Times are lists, by place of the event.
use Rattle.std.specs.Prelude.{ℕ, ◌≡◌, ◌≢◌, nat_eq, ◌+◌, ◌^◌, ◌<◌, ◌⊎◌, Bool, true, false, List, length, slice_index}
use Rattle.std.specs.List.{Contains, IsDistinct}
use Rattle.dm_graph.specs.Arcs.{Arcs, Binds}
use Rattle.dm_graph.specs.Arrays.{AreRanks}
use Rattle.dm_graph.specs.Graph.{Graph, IsJoin, IsLeast}
use Rattle.dm_marks.specs.Marked.{is_marked}
use Rattle.dm_settle.specs.declared.sweep.Sweep.{Sweep}
use Rattle.dm_settle.specs.Constraints.{IsSizedFor, arcs_given, graph_given}

-- the times, one for each event, are the least timetable of the graph
pub record AreLeast (g : Graph) (times : List ℕ) : Type 0 where
  pub as_many : length times ≡ g.shape.events
  pub least : IsLeast g (slice_index times)

-- the event has the least time that its floor and the arcs into it allow beside the times of the others
abbrev pub IsSettled : Graph → List ℕ → ℕ → Type 0
IsSettled g times e = IsJoin g (slice_index times) e (slice_index times e)

-- every time is below the limit of all times
abbrev pub AreEarly : List ℕ → Type 0
AreEarly times = (i : ℕ) → slice_index times i < 2 ^ 38

-- an arc that binds enters the event
pub record IsEntered (g : Arcs) (e : ℕ) : Type 0 where
  pub arc : ℕ
  pub binds : Binds g arc
  pub enters : g.head arc ≡ e

-- the time of an event may change: the event is marked, or an arc that binds enters it
abbrev pub MayMove : Arcs → List ℕ → List Bool → ℕ → Type 0
MayMove g ranks marks e = (is_marked marks (slice_index ranks e) ≡ true) ⊎ IsEntered g e

-- each arc that binds out of an event that may move leads to a higher rank
abbrev pub GoesForward : Arcs → List ℕ → List Bool → Type 0
GoesForward g ranks marks =
    (a : ℕ) → Binds g a → MayMove g ranks marks (g.tail a) → slice_index ranks (g.tail a) < slice_index ranks (g.head a)

-- the marks at the ranks of the events take in every event that may not have its time
pub record MarksUnsettled (g : Graph) (ranks : List ℕ) (marks : List Bool) (times : List ℕ) : Type 0 where
  pub as_many_marks : length marks ≡ g.shape.events
  pub as_many_times : length times ≡ g.shape.events
  pub settled : (e : ℕ) → e < g.shape.events → is_marked marks (slice_index ranks e) ≡ false → IsSettled g times e

-- the held activities of a sweep as arcs
abbrev pub arcs_swept : Sweep → Arcs
arcs_swept s = arcs_given s.net.now s.constraints.now

-- the held activities of a sweep with their spans, and the floors of the events
abbrev pub graph_swept : Sweep → Graph
graph_swept s = graph_given s.net.now s.constraints.now

-- a sweep may begin with these marks and times
pub record MayBegin (s : Sweep) (marks : List Bool) (times : List ℕ) : Type 0 where
  pub sized : IsSizedFor s.net.now s.constraints.now
  pub ranked : AreRanks (length s.net.now.events) s.order.now s.ranks.now
  pub forward : GoesForward (arcs_swept s) s.ranks.now marks
  pub unsettled : MarksUnsettled (graph_swept s) s.ranks.now marks times

-- the marks and the times at a moment, and how many rows have been read
pub record State : Type 0 where
  pub marks : List Bool
  pub times : List ℕ
  pub steps : ℕ

-- an arc that binds leads from one event to another
pub record LeadsOn (g : Arcs) (from to : ℕ) : Type 0 where
  pub arc : ℕ
  pub binds : Binds g arc
  pub leaves : g.tail arc ≡ from
  pub enters : g.head arc ≡ to

-- the event is the head of an arc that binds out of one of these events
pub record Follows (g : Arcs) (events : List ℕ) (e : ℕ) : Type 0 where
  pub from : ℕ
  pub among : Contains events from
  pub leads : LeadsOn g from e

-- Which rows are read between two moments: of each event in `renewed` the one in, of each in `moved` the one out, each once.
-- An event is renewed because it was marked or follows one that has moved. One has moved if its time differs.
pub record AreReadFor (g : Arcs) (ranks : List ℕ) (before after : State) (renewed moved : List ℕ) : Type 0 where
  pub are_events : (e : ℕ) → Contains renewed e → e < g.events
  pub renewed_once : IsDistinct nat_eq renewed
  pub moved_once : IsDistinct nat_eq moved
  pub caused : (e : ℕ) → Contains renewed e → (is_marked before.marks (slice_index ranks e) ≡ true) ⊎ Follows g moved e
  pub differs : (e : ℕ) → Contains moved e → slice_index before.times e ≢ slice_index after.times e

-- So many rows are read: one for each event that is computed anew, and one for each that has moved.
pub record ReadsFew (g : Arcs) (ranks : List ℕ) (before after : State) : Type 0 where
  pub renewed : List ℕ
  pub moved : List ℕ
  pub counted : after.steps ≡ before.steps + length renewed + length moved
  pub reads : AreReadFor g ranks before after renewed moved
