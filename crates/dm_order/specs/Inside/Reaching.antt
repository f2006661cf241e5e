-- Which events of an interval of places held activities lead to, and by which.
use Rattle.std.specs.Prelude.{ℕ, ◌≡◌, ◌&&◌, ◌<◌, ◌≤◌, nat_lt, nat_le, Bool, true, IsTrue, List, length, fold, Option, Some, None, is_some, slice_index, slice_index_or, slice_set, if◌then◌else◌}
use Rattle.dm_network.specs.Net.{Net, activity_at}
use Rattle.dm_network.specs.Held.{is_held}

-- the event at a place was reached
abbrev pub is_reached : List (Option ℕ) → ℕ → Bool
is_reached causes place = is_some (slice_index_or causes place None)

-- an activity is held and leads from a place to a later one, up to the last
abbrev pub leads_on : Net → List Bool → List ℕ → ℕ → ℕ → ℕ → Bool
leads_on net held ranks at high a =
    is_held held a && (nat_lt at (slice_index ranks (activity_at net a).head) && nat_le (slice_index ranks (activity_at net a).head) high)

-- the causes when an activity out of the event at a place has been followed
abbrev pub followed : Net → List Bool → List ℕ → ℕ → ℕ → List (Option ℕ) → ℕ → List (Option ℕ)
followed net held ranks at high causes a =
    if leads_on net held ranks at high a then slice_set causes (slice_index ranks (activity_at net a).head) (Some a) else causes

abbrev pub followed_all : Net → List Bool → List ℕ → ℕ → ℕ → List (Option ℕ) → List ℕ → List (Option ℕ)
followed_all net held ranks at high causes arcs = fold (followed net held ranks at high) causes arcs

-- a held activity leads to the event at a place from one that was reached at a place before
pub record IsCause (net : Net) (held : List Bool) (ranks : List ℕ) (causes : List (Option ℕ)) (low place a : ℕ) : Type 0 where
  pub is_activity : a < length net.activities
  pub holds : IsTrue (is_held held a)
  pub head : slice_index ranks (activity_at net a).head ≡ place
  pub not_before : low ≤ slice_index ranks (activity_at net a).tail
  pub before : slice_index ranks (activity_at net a).tail < place
  pub reached : is_reached causes (slice_index ranks (activity_at net a).tail) ≡ true

-- Each event reached between two places, but the one at the first, has its cause; and what held activities lead to from
-- those reached before a place is reached.
pub record HasReached (net : Net) (held : List Bool) (ranks : List ℕ) (low high at : ℕ) (causes : List (Option ℕ)) : Type 0 where
  pub as_many : length causes ≡ length net.events
  pub begun : is_reached causes low ≡ true
  pub caused : (place a : ℕ) → low < place → place ≤ high → slice_index_or causes place None ≡ Some a →
      IsCause net held ranks causes low place a
  pub closed : (a : ℕ) → a < length net.activities → IsTrue (is_held held a) →
      low ≤ slice_index ranks (activity_at net a).tail → slice_index ranks (activity_at net a).tail < at →
      slice_index ranks (activity_at net a).tail < slice_index ranks (activity_at net a).head →
      slice_index ranks (activity_at net a).head ≤ high →
      is_reached causes (slice_index ranks (activity_at net a).tail) ≡ true →
      is_reached causes (slice_index ranks (activity_at net a).head) ≡ true

-- no event from one place up to another was reached, but the one at the first by an activity
pub record IsCleared (low high first : ℕ) (before now : List (Option ℕ)) : Type 0 where
  pub as_many : length now ≡ length before
  pub begun : slice_index_or now low None ≡ Some first
  pub none : (place : ℕ) → low < place → place ≤ high → slice_index_or now place None ≡ None
