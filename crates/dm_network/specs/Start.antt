-- What binds before any message, and what a network is.
use Rattle.std.specs.Prelude.{ℕ, ◌==◌, nat_le, Bool, true, List, Option, Some, None, if◌then◌else◌}
use Rattle.dm_base.specs.declared.ids.ActId.{ActId}
use Rattle.dm_network.specs.Net.{Net, event_at, activity_at, pair_at, EventsAscend, ActivitiesAscend, EndsAreKnown, HeadwaysAreApart}
use Rattle.dm_network.specs.Held.{IsCycleOf, ShowsCycleOf}
use Rattle.dm_network.specs.Pairs.{IsPaired}

-- At the start the event of a pair with the smaller scheduled time is first, and on a tie the one with the smaller id,
-- which is the small one.
abbrev pub starts_small_first : Net → ℕ → Bool
starts_small_first net p = nat_le (event_at net (pair_at net p).small).time (event_at net (pair_at net p).large).time

-- the event that is first in a pair
abbrev pub first_event : Net → ℕ → Bool → ℕ
first_event net p small_first = if small_first then (pair_at net p).small else (pair_at net p).large

-- At the start every change is kept and no event has passed. So every activity binds but the headways of a pair whose
-- tail is not first.
abbrev pub binds_at_start : Net → Option ℕ → ℕ → Bool
binds_at_start net None tail = true
binds_at_start net (Some p) tail = tail == first_event net p (starts_small_first net p)

abbrev pub is_start_active : Net → ℕ → Bool
is_start_active net a = binds_at_start net (activity_at net a).pair (activity_at net a).tail

-- a closed list of activities that bind at the start
abbrev pub IsStartCycle : Net → List ℕ → Type 0
IsStartCycle net cycle = IsCycleOf net (is_start_active net) cycle

-- a cycle of the start rows, shown by its ids
abbrev pub ShowsStartCycle : Net → List ActId → Type 0
ShowsStartCycle net ids = ShowsCycleOf net (is_start_active net) ids

-- Events and activities with no double id, every tail and head known, headways of at least a second, and pairs as the
-- headways form them.
pub record IsFormed (net : Net) : Type 0 where
  pub events_ascend : EventsAscend net
  pub activities_ascend : ActivitiesAscend net
  pub ends_are_known : EndsAreKnown net
  pub headways_are_apart : HeadwaysAreApart net
  pub is_paired : IsPaired net

-- A network is so formed, and has no cycle at the start.
pub record IsNetwork (net : Net) : Type 0 where
  pub formed : IsFormed net
  pub no_start_cycle : (cycle : List ℕ) → IsStartCycle net cycle → ⊥
