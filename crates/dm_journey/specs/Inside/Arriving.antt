-- How the journeys are chosen among the arrivals that are reached.
use Rattle.std.specs.Prelude.{ℕ, ◌≡◌, ◌<◌, ◌≤◌, ◌⊎◌, Bool, IsTrue, List, length, Option, Some, None, slice_index}
use Rattle.std.specs.List.{All, Any, AllPairs}
use Rattle.dm_base.specs.declared.ids.StopId.{StopId}
use Rattle.dm_network.specs.Net.{Net, event_at}
use Rattle.dm_rows.specs.Timetable.{time_at}
use Rattle.dm_rows.specs.Cost.{is_arrival}
use Rattle.dm_journey.specs.declared.arriving.Journey.{Journey}
use Rattle.dm_journey.specs.declared.reaching.Reach.{Reach}
use Rattle.dm_journey.specs.Walks.{arrives}
use Rattle.dm_journey.specs.Journeys.{Trades, IsNoWorse}
use Rattle.dm_journey.specs.Inside.Reaching.{reach_at, IsExactly, AreReached, IsTraced}

-- a journey arrives later than at this time, or not
abbrev pub ArrivesAfter : ℕ → Journey → Type 0
ArrivesAfter arrival journey = arrival < journey.arrival

abbrev pub ArrivesBy : ℕ → Journey → Type 0
ArrivesBy arrival journey = journey.arrival ≤ arrival

-- the event is an arrival at the stop that is reached with exactly n changes
pub record ArrivesWith (net : Net) (reached : List (Option Reach)) (to : StopId) (n e : ℕ) : Type 0 where
  pub is_event : e < length net.events
  pub arrival : IsTrue (arrives net to e)
  pub exactly : IsExactly (reach_at reached e) n

-- the event is an arrival that is reached with exactly n changes
abbrev pub IsReachedArrival : Net → List (Option Reach) → ℕ → ℕ → Type 0
IsReachedArrival net reached n e = IsTrue (is_arrival (event_at net e).kind) × IsExactly (reach_at reached e) n

-- the earliest of these among the first k of a row, or None where there is none
abbrev pub IsEarliestOf : Net → List (Option Reach) → List ℕ → ℕ → List ℕ → ℕ → Option ℕ → Type 0
IsEarliestOf net reached x n row k None = (j : ℕ) → j < k → IsReachedArrival net reached n (slice_index row j) → ⊥
IsEarliestOf net reached x n row k (Some e) =
    ((j : ℕ) × (j < k) × (slice_index row j ≡ e)) × IsReachedArrival net reached n e
    × ((j : ℕ) → j < k → IsReachedArrival net reached n (slice_index row j) → time_at x e ≤ time_at x (slice_index row j))

-- one of two events, of which one may be missing, and no later than these
abbrev pub IsEarlierOf : List ℕ → Option ℕ → ℕ → ℕ → Type 0
IsEarlierOf x None other e = e ≡ other
IsEarlierOf x (Some one) other e = ((e ≡ one) ⊎ (e ≡ other)) × (time_at x e ≤ time_at x one) × (time_at x e ≤ time_at x other)

-- the earliest of these, or None where there is none
abbrev pub IsEarliest : Net → List (Option Reach) → List ℕ → StopId → ℕ → Option ℕ → Type 0
IsEarliest net reached x to n None = (e : ℕ) → ArrivesWith net reached to n e → ⊥
IsEarliest net reached x to n (Some earliest) =
    ArrivesWith net reached to n earliest × ((e : ℕ) → ArrivesWith net reached to n e → time_at x earliest ≤ time_at x e)

-- a journey along a walk that is traced to an arrival, with fewer than n changes
pub record IsFound (net : Net) (begins usable : ℕ → Bool) (x : List ℕ) (to : StopId) (n : ℕ) (journey : Journey) : Type 0 where
  pub last : ℕ
  pub arrival : IsTrue (arrives net to last)
  pub traced : IsTraced net begins usable last journey.walk journey.changes
  pub arrives_at : journey.arrival ≡ time_at x last
  pub few : journey.changes < n

-- the journeys are found, each next one trades, and each arrival that is reached with fewer than n changes is met
pub record AreFound (net : Net) (x : List ℕ) (to : StopId) (ranks : List ℕ) (reached : List (Option Reach)) (n : ℕ)
    (answer : List Journey) : Type 0 where
  pub found : (begins usable : ℕ → Bool) → AreReached net begins usable ranks reached → All (IsFound net begins usable x to n) answer
  pub fewer : All (λ (j : Journey). j.changes < n) answer
  pub trade : AllPairs Trades answer
  pub meets_each : (e m : ℕ) → m < n → ArrivesWith net reached to m e → Any (IsNoWorse (time_at x e) m) answer
