-- Which journeys answer a query.
use Rattle.std.specs.Prelude.{ℕ, ◌<◌, ◌≤◌, List}
use Rattle.std.specs.List.{All, Any, AllPairs}
use Rattle.dm_base.specs.declared.ids.StopId.{StopId}
use Rattle.dm_network.specs.Net.{Net}
use Rattle.dm_rows.specs.Rows.{RowsValue}
use Rattle.dm_journey.specs.declared.arriving.Journey.{Journey}
use Rattle.dm_journey.specs.Walks.{IsWalk}

-- a walk with its arrival and its changes, of which there are at most so many
pub record IsJourney (net : Net) (rows : RowsValue) (x : List ℕ) (from to : StopId) (after most : ℕ) (journey : Journey) : Type 0 where
  pub is_walk : IsWalk net rows x from to after journey.walk journey.arrival journey.changes
  pub few : journey.changes ≤ most

-- the later journey of a list has more changes, and arrives earlier
pub record Trades (one later : Journey) : Type 0 where
  pub more_changes : one.changes < later.changes
  pub earlier : later.arrival < one.arrival

-- a journey has no later arrival and no more changes than these
pub record IsNoWorse (arrival changes : ℕ) (journey : Journey) : Type 0 where
  pub no_later : journey.arrival ≤ arrival
  pub no_more : journey.changes ≤ changes

-- The list answers a query: its journeys are walks from the one stop to the other after the time, with at most `most` changes;
-- along it the changes rise strictly and the arrivals fall strictly; and for each such walk it has a journey with no more changes
-- and no later arrival.
pub record AreJourneys (net : Net) (rows : RowsValue) (x : List ℕ) (from to : StopId) (after most : ℕ)
    (answer : List Journey) : Type 0 where
  pub walks : All (IsJourney net rows x from to after most) answer
  pub trade : AllPairs Trades answer
  pub meets_each : (walk : List ℕ) (arrival changes : ℕ) → IsWalk net rows x from to after walk arrival changes → changes ≤ most →
      Any (IsNoWorse arrival changes) answer

-- there is no walk with at most `most` changes
abbrev pub HasNoWalk : Net → RowsValue → List ℕ → StopId → StopId → ℕ → ℕ → Type 0
HasNoWalk net rows x from to after most =
    (walk : List ℕ) (arrival changes : ℕ) → IsWalk net rows x from to after walk arrival changes → changes ≤ most → ⊥
