-- Graphs of events with spans between them, and the timetables that keep to the spans. A timetable gives each event a time.
use Rattle.std.specs.Prelude.{◌≡◌, ℕ, ◌+◌, ◌<◌, ◌≤◌, List, [], ◌∷◌}
use Rattle.dm_graph.specs.Arcs.{Arcs, Binds, BindsIn, IsCycle}

-- arcs, the least span of each from its tail to its head, and the least time of each event by itself
pub record Graph : Type 0 where
  pub shape : Arcs
  pub span : ℕ → ℕ
  pub floor : ℕ → ℕ

-- a timetable meets a graph if no event is before its floor, and the head of each arc that binds is at least the arc's span after its tail
pub record Meets (g : Graph) (x : ℕ → ℕ) : Type 0 where
  pub above : (e : ℕ) → e < g.shape.events → g.floor e ≤ x e
  pub along : (a : ℕ) → Binds g.shape a → x (g.shape.tail a) + g.span a ≤ x (g.shape.head a)

-- a timetable is least if it meets the graph, and is at no event later than any other that meets it
pub record IsLeast (g : Graph) (x : ℕ → ℕ) : Type 0 where
  pub meets : Meets g x
  pub earliest : (y : ℕ → ℕ) → Meets g y → (e : ℕ) → e < g.shape.events → x e ≤ y e

-- some timetable meets the graph
abbrev pub CanBeMet : Graph → Type 0
CanBeMet g = (x : ℕ → ℕ) × Meets g x

-- some timetable is least
abbrev pub HasLeast : Graph → Type 0
HasLeast g = (x : ℕ → ℕ) × IsLeast g x

-- the spans of the arcs together
abbrev pub total_span : Graph → List ℕ → ℕ
total_span g [] = 0
total_span g (a ∷ rest) = g.span a + total_span g rest

-- each cycle has a span of more than 0
abbrev pub HasPositiveCycles : Graph → Type 0
HasPositiveCycles g = (cycle : List ℕ) → IsCycle g.shape cycle → 0 < total_span g cycle

-- one graph asks no more than another: of the same events, none has a higher floor,
-- and each arc that binds in it binds between the same events in the other, with a span at least as long
pub record AsksNoMore (less more : Graph) : Type 0 where
  pub same_events : less.shape.events ≡ more.shape.events
  pub floors : (e : ℕ) → e < less.shape.events → less.floor e ≤ more.floor e
  pub binds : (a : ℕ) → Binds less.shape a → BindsIn less.shape more.shape a
  pub spans : (a : ℕ) → Binds less.shape a → less.span a ≤ more.span a

-- a time is the join at an event if it is the least that the event's floor and the arcs into the event allow, whose tails are at x
pub record IsJoin (g : Graph) (x : ℕ → ℕ) (e time : ℕ) : Type 0 where
  pub above : g.floor e ≤ time
  pub along : (a : ℕ) → Binds g.shape a → g.shape.head a ≡ e → x (g.shape.tail a) + g.span a ≤ time
  pub least : (u : ℕ) → g.floor e ≤ u →
      ((a : ℕ) → Binds g.shape a → g.shape.head a ≡ e → x (g.shape.tail a) + g.span a ≤ u) → time ≤ u
