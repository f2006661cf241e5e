-- The walk that searches for an order: the events that are placed, those on the path, and how far each row is looked through.
use Rattle.std.specs.Prelude.{◌≡◌, ℕ, ◌+◌, ◌-◌, ◌*◌, ◌<◌, ◌≤◌, ◌⊎◌, ◌==◌, false, IsTrue, List, length, slice_index, slice_index_or, slice_set, take, replicate, sum, count_by}
use Rattle.dm_graph.specs.Arrays.{InRow, AreArcRows, AreEnds}
use Rattle.dm_graph.specs.declared.walk.Walk.{Walk}
use Rattle.dm_graph.specs.declared.walk.ArcsByHead.{ArcsByHead}
use Rattle.dm_graph.specs.declared.walk.Look.{Look}
use Rattle.dm_graph.specs.declared.walk.Look.TheVariants.{Over, Free, Unmet, OnPath}

-- the arc at a place of the rows is held to
abbrev pub IsHeldAt : ArcsByHead → ℕ → Type 0
IsHeldAt by_head place = IsTrue (slice_index_or by_head.held.now (slice_index by_head.places.now place) false)

-- the event that the arc at a place of the rows leaves
abbrev pub tail_at : ArcsByHead → ℕ → ℕ
tail_at by_head place = slice_index by_head.tails.now (slice_index by_head.places.now place)

-- the event at a place of the order has that place as its rank
pub record Stands (n : ℕ) (order rank : List ℕ) (place : ℕ) : Type 0 where
  pub is_event : slice_index order place < n
  pub is_ranked : slice_index rank (slice_index order place) ≡ place

-- the first places of the order have the events that are placed, those from top on the path, and every other event has rank n
pub record AreMarks (n : ℕ) (order rank : List ℕ) (placed top : ℕ) : Type 0 where
  pub order_count : length order ≡ n
  pub rank_count : length rank ≡ n
  pub top_within : top ≤ n
  pub unmet : placed + count_by (λ r. r == n) rank ≡ top
  pub placed_stand : (place : ℕ) → place < placed → Stands n order rank place
  pub path_stands : (place : ℕ) → top ≤ place → place < n → Stands n order rank place
  pub rank_within : (e : ℕ) → e < n → slice_index rank e ≤ n
  pub met : (e : ℕ) → e < n → slice_index rank e < n → (slice_index rank e < placed) ⊎ (top ≤ slice_index rank e)
  pub ranked : (e : ℕ) → e < n → slice_index rank e < n → slice_index order (slice_index rank e) ≡ e

-- the next arc to look at in the row of e is held to, and leaves u
pub record LeadsTo (by_head : ArcsByHead) (next : List ℕ) (e u : ℕ) : Type 0 where
  pub not_over : slice_index next e < slice_index by_head.offsets.now (e + 1)
  pub is_held : IsHeldAt by_head (slice_index next e)
  pub tail : tail_at by_head (slice_index next e) ≡ u

-- each arc looked at is not held to or leaves an event that is placed; among the placed events the arcs go forward;
-- and each event of the path is what the next arc of the one below it leaves
pub record AreLooks (by_head : ArcsByHead) (n : ℕ) (order rank next : List ℕ) (placed top : ℕ) : Type 0 where
  pub next_count : length next ≡ n
  pub begun : (e : ℕ) → e < n → slice_index by_head.offsets.now e ≤ slice_index next e
  pub not_past : (e : ℕ) → e < n → slice_index next e ≤ slice_index by_head.offsets.now (e + 1)
  pub looked : (e place : ℕ) → e < n → slice_index by_head.offsets.now e ≤ place → place < slice_index next e →
      IsHeldAt by_head place → slice_index rank (tail_at by_head place) < placed
  pub forward : (e place : ℕ) → e < n → slice_index rank e < placed → InRow by_head.offsets.now e place →
      IsHeldAt by_head place → slice_index rank (tail_at by_head place) < slice_index rank e
  pub path : (place : ℕ) → top ≤ place → place + 1 < n →
      LeadsTo by_head next (slice_index order (place + 1)) (slice_index order place)

-- what holds of the walk between its steps
pub record IsWalk (by_head : ArcsByHead) (walk : Walk) : Type 0 where
  pub rows : AreArcRows (length walk.order.items) (length by_head.tails.now) by_head.offsets.now by_head.places.now
  pub ends : AreEnds (length walk.order.items) (length by_head.tails.now) by_head.tails.now by_head.held.now
  pub marks : AreMarks (length walk.order.items) walk.order.items walk.rank.items walk.placed walk.top
  pub looks : AreLooks by_head (length walk.order.items) walk.order.items walk.rank.items walk.next.items walk.placed walk.top

-- the next arc into the event on top of the path leaves the event that stands at a place of the path
pub record Closes (by_head : ArcsByHead) (walk : Walk) (place : ℕ) : Type 0 where
  pub holds : IsWalk by_head walk
  pub on_path : walk.top ≤ place
  pub within : place < length walk.order.items
  pub leads : LeadsTo by_head walk.next.items (slice_index walk.order.items walk.top) (slice_index walk.order.items place)

-- what a look at the row of e finds: it is looked through; its next arc may be passed over; the arc leaves an event
-- not met yet; or it leaves the event at a place of the path
abbrev pub Finds : ArcsByHead → Walk → ℕ → Look → Type 0
Finds by_head walk e Over = slice_index walk.next.items e ≡ slice_index by_head.offsets.now (e + 1)
Finds by_head walk e Free =
    (slice_index walk.next.items e < slice_index by_head.offsets.now (e + 1)) ×
    (IsHeldAt by_head (slice_index walk.next.items e) →
    slice_index walk.rank.items (tail_at by_head (slice_index walk.next.items e)) < walk.placed)
Finds by_head walk e (Unmet u) =
    LeadsTo by_head walk.next.items e u × (u < length walk.order.items) ×
    (slice_index walk.rank.items u ≡ length walk.order.items)
Finds by_head walk e (OnPath place) =
    LeadsTo by_head walk.next.items e (slice_index walk.order.items place) ×
    (walk.top ≤ place) × (place < length walk.order.items)

-- at most so many steps are left
abbrev pub steps_left : ArcsByHead → Walk → ℕ
steps_left by_head walk =
    length walk.order.items * length by_head.places.now + length walk.order.items + walk.top - (sum walk.next.items + 2 * walk.placed)

-- every event that was met before is met after
abbrev pub KeepsMet : Walk → Walk → Type 0
KeepsMet old new = (e : ℕ) → e < length old.order.items → slice_index old.rank.items e < length old.order.items →
    slice_index new.rank.items e < length new.order.items

-- an event goes on top of the path
pub record GoesOnTop (old : Walk) (e : ℕ) (new : Walk) : Type 0 where
  pub top : old.top ≡ new.top + 1
  pub order : new.order.items ≡ slice_set old.order.items new.top e
  pub rank : new.rank.items ≡ slice_set old.rank.items e new.top
  pub next : new.next.items ≡ old.next.items
  pub placed : new.placed ≡ old.placed

-- the event on top of the path is placed
pub record Places (old : Walk) (e : ℕ) (new : Walk) : Type 0 where
  pub top : new.top ≡ old.top + 1
  pub placed : new.placed ≡ old.placed + 1
  pub order : new.order.items ≡ slice_set old.order.items old.placed e
  pub rank : new.rank.items ≡ slice_set old.rank.items e old.placed
  pub next : new.next.items ≡ old.next.items

-- the next arc into an event is skipped
pub record SkipsArc (old : Walk) (e : ℕ) (new : Walk) : Type 0 where
  pub top : new.top ≡ old.top
  pub placed : new.placed ≡ old.placed
  pub order : new.order.items ≡ old.order.items
  pub rank : new.rank.items ≡ old.rank.items
  pub next : new.next.items ≡ slice_set old.next.items e (slice_index old.next.items e + 1)

-- the walk went on: it holds, has fewer steps left, and no event that was met is not met
pub record GoesOn (by_head : ArcsByHead) (old new : Walk) : Type 0 where
  pub holds : IsWalk by_head new
  pub as_many : length new.order.items ≡ length old.order.items
  pub fewer : steps_left by_head new < steps_left by_head old
  pub met : KeepsMet old new

-- the path is empty again, and no event that was met is not met
pub record Returns (by_head : ArcsByHead) (old new : Walk) : Type 0 where
  pub holds : IsWalk by_head new
  pub as_many : length new.order.items ≡ length old.order.items
  pub is_empty : new.top ≡ length new.order.items
  pub met : KeepsMet old new

-- the lists of the walk have one length
pub record HasEvenLists (walk : Walk) : Type 0 where
  pub ranks : length walk.rank.items ≡ length walk.order.items
  pub nexts : length walk.next.items ≡ length walk.order.items

-- the walk begins: no event is met, and each row is looked at from its first place
pub record Starts (old : Walk) (offsets : List ℕ) (new : Walk) : Type 0 where
  pub order : new.order.items ≡ old.order.items
  pub rank : new.rank.items ≡ replicate (length old.order.items) (length old.order.items)
  pub next : new.next.items ≡ take (length old.order.items) offsets
  pub placed : new.placed ≡ 0
  pub top : new.top ≡ length old.order.items

-- the path is empty again, no event that was met is not met, and the event is met
pub record Visits (by_head : ArcsByHead) (old : Walk) (e : ℕ) (new : Walk) : Type 0 where
  pub returns : Returns by_head old new
  pub is_met : slice_index new.rank.items e < length new.order.items

-- every event is placed
pub record PlacesAll (by_head : ArcsByHead) (walk : Walk) : Type 0 where
  pub holds : IsWalk by_head walk
  pub is_empty : walk.top ≡ length walk.order.items
  pub met : (e : ℕ) → e < length walk.order.items → slice_index walk.rank.items e < length walk.order.items

-- the arc that the walk looks at next for the event at a place of the path
abbrev pub path_arc : List ℕ → Walk → ℕ → ℕ
path_arc places walk place = slice_index places (slice_index walk.next.items (slice_index walk.order.items place))

-- the events of the path from its top to this place have each a next place within the rows
pub record HasPathArcs (places : List ℕ) (walk : Walk) (last : ℕ) : Type 0 where
  pub on_path : walk.top ≤ last
  pub within : last < length walk.order.items
  pub is_event : (place : ℕ) → walk.top ≤ place → place ≤ last → slice_index walk.order.items place < length walk.next.items
  pub is_place : (place : ℕ) → walk.top ≤ place → place ≤ last →
      slice_index walk.next.items (slice_index walk.order.items place) < length places

-- the arcs of the path from its top to this place, in its order
pub record ListsPathArcs (places : List ℕ) (walk : Walk) (last : ℕ) (arcs : List ℕ) : Type 0 where
  pub as_many : length arcs + walk.top ≡ last + 1
  pub each : (k : ℕ) → k < length arcs → slice_index arcs k ≡ path_arc places walk (walk.top + k)
