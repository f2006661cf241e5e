-- Arcs between events, and the chains, cycles and orders that they make. Events and arcs go by their place, from 0.
use Rattle.std.specs.Prelude.{◌≡◌, ℕ, ◌<◌, Bool, IsTrue, List, [], ◌∷◌, length, Some, slice_get}
use Rattle.std.specs.List.{Contains}

-- so many events and so many arcs, the two events of each arc, and which arcs are held to
pub record Arcs : Type 0 where
  pub events : ℕ
  pub arcs : ℕ
  pub tail : ℕ → ℕ
  pub head : ℕ → ℕ
  pub held : ℕ → Bool

-- an arc binds if it is one of the arcs, is held, and leads from an event to an event
pub record Binds (g : Arcs) (a : ℕ) : Type 0 where
  pub is_arc : a < g.arcs
  pub is_held : IsTrue (g.held a)
  pub from_event : g.tail a < g.events
  pub to_event : g.head a < g.events

-- the arcs lead from i to j: each binds, the first leaves i, the last enters j, and each enters the event that the next one leaves
abbrev pub Chain : Arcs → ℕ → List ℕ → ℕ → Type 0
Chain g i [] j = i ≡ j
Chain g i (a ∷ rest) j = Binds g a × (g.tail a ≡ i) × Chain g (g.head a) rest j

-- a cycle is a chain of at least one arc that leads from an event back to it
abbrev pub IsCycle : Arcs → List ℕ → Type 0
IsCycle g [] = ⊥
IsCycle g (a ∷ rest) = Chain g (g.tail a) (a ∷ rest) (g.tail a)

-- no list of arcs is a cycle
abbrev pub HasNoCycle : Arcs → Type 0
HasNoCycle g = (cycle : List ℕ) → IsCycle g cycle → ⊥

-- an order lists every event once, and each arc that binds goes forward in it: its tail stands before its head
pub record IsOrder (g : Arcs) (order : List ℕ) : Type 0 where
  pub as_many : length order ≡ g.events
  pub has_each : (e : ℕ) → e < g.events → Contains order e
  pub forward : (a : ℕ) → Binds g a → (i j : ℕ) → slice_get order i ≡ Some (g.tail a) → slice_get order j ≡ Some (g.head a) → i < j

-- an arc binds in h too, and leads between the same events there as in g
pub record BindsIn (g h : Arcs) (a : ℕ) : Type 0 where
  pub binds : Binds h a
  pub same_tail : g.tail a ≡ h.tail a
  pub same_head : g.head a ≡ h.head a
