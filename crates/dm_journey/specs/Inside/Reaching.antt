-- How events are reached from departures with few changes. What is said goes by two tests: which events begin a walk, and which
-- activities it may use.
use Rattle.std.specs.Prelude.{ℕ, ◌≡◌, ◌+◌, ◌<◌, ◌≤◌, ◌⊎◌, Bool, false, IsTrue, List, length, Option, Some, None, is_some, slice_index, slice_index_or, if◌then◌else◌}
use Rattle.dm_base.specs.declared.ids.StopId.{StopId}
use Rattle.dm_graph.specs.Arcs.{Binds, Chain}
use Rattle.dm_network.specs.Net.{Net, activity_at, is_change, is_headway}
use Rattle.dm_network.specs.Held.{arcs_of, is_held}
use Rattle.dm_journey.specs.declared.reaching.Reach.{Reach}
use Rattle.dm_journey.specs.Walks.{departs, changes_in}

-- how an event is reached, or None
abbrev pub reach_at : List (Option Reach) → ℕ → Option Reach
reach_at reached e = slice_index_or reached e None

-- the beginning of a walk
abbrev pub beginning : Reach
beginning = record { changes = 0; by = None }

-- at first, the departures at a stop from a time on are reached, as beginnings
abbrev pub boarding_at : Net → List ℕ → StopId → ℕ → ℕ → Option Reach
boarding_at net x from after e = if departs net x from after e then Some beginning else None

-- one change for a change
abbrev pub changes_of : Net → ℕ → ℕ
changes_of net a = if is_change (activity_at net a).kind then 1 else 0

-- it is reached with at most so many changes, with exactly so many
abbrev pub IsWithin : Option Reach → ℕ → Type 0
IsWithin None n = ⊥
IsWithin (Some reach) n = reach.changes ≤ n

abbrev pub IsExactly : Option Reach → ℕ → Type 0
IsExactly None n = ⊥
IsExactly (Some reach) n = reach.changes ≡ n

-- the activity by which it is reached, or None where it is not, or begins a walk
abbrev pub by_of : Option Reach → Option ℕ
by_of None = None
by_of (Some reach) = reach.by

-- it is not reached, or reached as the beginning of a walk
abbrev pub IsBeginning : Option Reach → Type 0
IsBeginning None = Unit {0}
IsBeginning (Some reach) = reach ≡ beginning

-- with so many changes more than it is reached with, there are n
abbrev pub IsWithMore : Option Reach → ℕ → ℕ → Type 0
IsWithMore None more n = ⊥
IsWithMore (Some reach) more n = n ≡ reach.changes + more

-- n changes are those by which the tail of an activity is reached, and the activity's
abbrev pub IsOneOn : Net → List (Option Reach) → ℕ → ℕ → Type 0
IsOneOn net reached a n = IsWithMore (reach_at reached (activity_at net a).tail) (changes_of net a) n

-- the head is reached as well as the activity allows, as long as there are at most `most` changes
abbrev pub ReachesAlong : Net → List (Option Reach) → ℕ → ℕ → Option Reach → Type 0
ReachesAlong net reached most a reach =
    (n : ℕ) → IsWithin (reach_at reached (activity_at net a).tail) n → n + changes_of net a ≤ most → IsWithin reach (n + changes_of net a)

-- no flag holds a headway
abbrev pub HasNoHeadway : Net → List Bool → Type 0
HasNoHeadway net flags =
    (a : ℕ) → a < length net.activities → IsTrue (is_held flags a) → is_headway (activity_at net a).kind ≡ false

-- The event is reached with n changes by a usable activity, whose tail stands before it in the order.
pub record ComesAlong (net : Net) (usable : ℕ → Bool) (ranks : List ℕ) (reached : List (Option Reach)) (e a n : ℕ) : Type 0 where
  pub binds : Binds (arcs_of net usable) a
  pub enters : (activity_at net a).head ≡ e
  pub earlier : slice_index ranks (activity_at net a).tail < slice_index ranks e
  pub counted : IsOneOn net reached a n

-- the event is reached with n changes as the beginning of a walk, or along an activity
abbrev pub ComesBy : Net → (ℕ → Bool) → (ℕ → Bool) → List ℕ → List (Option Reach) → ℕ → ℕ → Option ℕ → Type 0
ComesBy net begins usable ranks reached e n None = IsTrue (begins e) × (n ≡ 0)
ComesBy net begins usable ranks reached e n (Some a) = ComesAlong net usable ranks reached e a n

-- if the event is reached, then so
abbrev pub Comes : Net → (ℕ → Bool) → (ℕ → Bool) → List ℕ → List (Option Reach) → ℕ → Option Reach → Type 0
Comes net begins usable ranks reached e None = Unit {0}
Comes net begins usable ranks reached e (Some reach) = ComesBy net begins usable ranks reached e reach.changes reach.by

-- each event that is reached is reached so
pub record AreReached (net : Net) (begins usable : ℕ → Bool) (ranks : List ℕ) (reached : List (Option Reach)) : Type 0 where
  pub as_many : length reached ≡ length net.events
  pub comes : (e : ℕ) → e < length net.events → Comes net begins usable ranks reached e (reach_at reached e)

-- An event is reached as well as the events before it allow: as at first, or along any usable activity into it, as long as there
-- are at most `most` changes.
pub record IsReachedWell (net : Net) (usable : ℕ → Bool) (most : ℕ) (at_first : Option Reach)
    (reached : List (Option Reach)) (e : ℕ) (reach : Option Reach) : Type 0 where
  pub at_least : (n : ℕ) → IsWithin at_first n → IsWithin reach n
  pub along : (a : ℕ) → Binds (arcs_of net usable) a → (activity_at net a).head ≡ e → ReachesAlong net reached most a reach

-- the same along the first k activities of a row
pub record IsReachedAlong (net : Net) (flags : List Bool) (most : ℕ) (at_first : Option Reach)
    (reached : List (Option Reach)) (row : List ℕ) (k : ℕ) (reach : Option Reach) : Type 0 where
  pub at_least : (n : ℕ) → IsWithin at_first n → IsWithin reach n
  pub along : (j : ℕ) → j < k → IsTrue (is_held flags (slice_index row j)) → ReachesAlong net reached most (slice_index row j) reach

-- if it is reached by an activity, then by one of the first k of a row, which is usable
abbrev pub IsOneOfRow : Net → List Bool → List (Option Reach) → List ℕ → ℕ → ℕ → Option ℕ → Type 0
IsOneOfRow net flags reached row k n None = ⊥
IsOneOfRow net flags reached row k n (Some a) =
    (j : ℕ) × (j < k) × (slice_index row j ≡ a) × IsTrue (is_held flags a) × IsOneOn net reached a n

abbrev pub ComesByRow : Net → List Bool → List (Option Reach) → List ℕ → ℕ → Option Reach → Type 0
ComesByRow net flags reached row k None = ⊥
ComesByRow net flags reached row k (Some reach) = IsOneOfRow net flags reached row k reach.changes reach.by

-- an event is reached, or not, as at first, or along one of the first k activities of a row
abbrev pub IsFromRow : Net → List Bool → Option Reach → List (Option Reach) → List ℕ → ℕ → Option Reach → Type 0
IsFromRow net flags at_first reached row k reach = (reach ≡ at_first) ⊎ ComesByRow net flags reached row k reach

-- The events before a place in the order are reached from those that are reached at first, and well; the others are as at first.
pub record HasReached (net : Net) (flags : List Bool) (ranks : List ℕ) (most : ℕ) (before now : List (Option Reach)) (k : ℕ) : Type 0 where
  pub as_many : length now ≡ length before
  pub comes : (e : ℕ) → e < length net.events → slice_index ranks e < k →
      Comes net (λ i. is_some (reach_at before i)) (is_held flags) ranks now e (reach_at now e)
  pub well : (e : ℕ) → e < length net.events → slice_index ranks e < k →
      IsReachedWell net (is_held flags) most (reach_at before e) now e (reach_at now e)
  pub others : (e : ℕ) → e < length net.events → k ≤ slice_index ranks e → reach_at now e ≡ reach_at before e

-- all events are reached from those that are reached at first, and well
pub record HasReachedAll (net : Net) (flags : List Bool) (ranks : List ℕ) (most : ℕ) (before now : List (Option Reach)) : Type 0 where
  pub reached : AreReached net (λ i. is_some (reach_at before i)) (is_held flags) ranks now
  pub well : (e : ℕ) → e < length net.events → IsReachedWell net (is_held flags) most (reach_at before e) now e (reach_at now e)

-- A walk to an event from one that begins walks, along usable activities, with so many changes.
pub record IsTraced (net : Net) (begins usable : ℕ → Bool) (last : ℕ) (walk : List ℕ) (n : ℕ) : Type 0 where
  pub first : ℕ
  pub starts : IsTrue (begins first)
  pub leads : Chain (arcs_of net usable) first walk last
  pub counted : n ≡ changes_in net walk

-- the end of such a walk, from an event on: with the changes by which that event is reached, there are n
pub record IsTracedFrom (net : Net) (usable : ℕ → Bool) (reached : List (Option Reach)) (event last : ℕ) (walk : List ℕ)
    (n : ℕ) : Type 0 where
  pub is_event : event < length net.events
  pub leads : Chain (arcs_of net usable) event walk last
  pub counted : IsWithMore (reach_at reached event) (changes_in net walk) n
