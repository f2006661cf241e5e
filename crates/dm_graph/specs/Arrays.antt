-- Arcs given by plain arrays: tails and flags go by arc, and the arcs that enter an event stand in a row,
-- at the places from the event's offset up to the offset of the next event.
use Rattle.std.specs.Prelude.{◌≡◌, ℕ, ◌+◌, ◌<◌, ◌≤◌, Bool, false, List, length, slice_index, slice_index_or}
use Rattle.dm_graph.specs.Arcs.{Arcs}

-- the arcs of these events with these tails, heads and flags
abbrev pub arcs_in_arrays : ℕ → List ℕ → List ℕ → List Bool → Arcs
arcs_in_arrays events tails heads held = record {
  events = events;
  arcs = length tails;
  tail = λ a. slice_index tails a;
  head = λ a. slice_index heads a;
  held = λ a. slice_index_or held a false;
}

-- a place is in the row of an event
pub record InRow (offsets : List ℕ) (e place : ℕ) : Type 0 where
  pub begun : slice_index offsets e ≤ place
  pub not_over : place < slice_index offsets (e + 1)

-- an arc stands in the row of an event
pub record StandsInRow (offsets places : List ℕ) (e a : ℕ) : Type 0 where
  pub place : ℕ
  pub in_row : InRow offsets e place
  pub is : slice_index places place ≡ a

-- each event has a row within the list of places, and the row has only arcs
pub record AreArcRows (events arcs : ℕ) (offsets places : List ℕ) : Type 0 where
  pub offset_count : length offsets ≡ events + 1
  pub rises : (e : ℕ) → e < events → slice_index offsets e ≤ slice_index offsets (e + 1)
  pub within : (e : ℕ) → e < events → slice_index offsets (e + 1) ≤ length places
  pub has_arcs : (e place : ℕ) → e < events → InRow offsets e place → slice_index places place < arcs

-- the row of each event has the arcs that end there, by the given end (their heads or their tails), and no others
pub record ListsArcs (events arcs : ℕ) (end : ℕ → ℕ) (offsets places : List ℕ) : Type 0 where
  pub ends_there : (e place : ℕ) → e < events → InRow offsets e place → end (slice_index places place) ≡ e
  pub has_each : (a : ℕ) → a < arcs → end a < events → StandsInRow offsets places (end a) a

-- the flags and tails are as many as the arcs, and each tail is an event
pub record AreEnds (events arcs : ℕ) (tails : List ℕ) (held : List Bool) : Type 0 where
  pub tail_count : length tails ≡ arcs
  pub held_count : length held ≡ arcs
  pub from_event : (a : ℕ) → a < arcs → slice_index tails a < events

-- the arrays give the arcs: their number, tails and flags, and by the rows their heads
pub record AreArraysOf (g : Arcs) (tails offsets places : List ℕ) (held : List Bool) : Type 0 where
  pub offset_count : length offsets ≡ g.events + 1
  pub tail_count : length tails ≡ g.arcs
  pub same_tail : (a : ℕ) → a < g.arcs → slice_index tails a ≡ g.tail a
  pub same_held : (a : ℕ) → a < g.arcs → slice_index_or held a false ≡ g.held a
  pub lists : ListsArcs g.events g.arcs g.head offsets places

-- rank says where each event stands in the order, and at each place of the order stands one event
pub record AreRanks (events : ℕ) (order rank : List ℕ) : Type 0 where
  pub order_count : length order ≡ events
  pub rank_count : length rank ≡ events
  pub has_place : (e : ℕ) → e < events → slice_index rank e < events
  pub stands_there : (e : ℕ) → e < events → slice_index order (slice_index rank e) ≡ e
  pub is_event : (k : ℕ) → k < events → slice_index order k < events
  pub is_ranked : (k : ℕ) → k < events → slice_index rank (slice_index order k) ≡ k
