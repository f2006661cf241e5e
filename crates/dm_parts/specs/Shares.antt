-- Shares of a cost's terms: the network in which these alone cost something, and the one in which the others do.
use Rattle.std.specs.Prelude.{ℕ, ◌≡◌, ◌==◌, Bool, IsTrue, List, map, All, Contains, slice_get, Some, if◌then◌else◌}
use Rattle.std.specs.List.{list_any}
use Rattle.std.specs.List.Sorted.{IsStrictlyIncreasing}
use Rattle.dm_base.specs.declared.ids.EventId.{EventId}
use Rattle.dm_base.specs.declared.ids.ActId.{ActId}
use Rattle.dm_network.specs.declared.parts.Event.{Event}
use Rattle.dm_network.specs.declared.parts.Activity.{Activity}
use Rattle.dm_network.specs.Net.{Net, event_at, activity_at, event_place, activity_place, is_change}
use Rattle.dm_rows.specs.Cost.{is_arrival}
use Rattle.dm_parts.specs.declared.shares.Share.{Share}
use Rattle.dm_parts.specs.Weights.{weighed_event, weighed_activity}

-- the share has the arrival, the change
abbrev pub has_arrival : Share → EventId → Bool
has_arrival share id = list_any (λ e. e.0 == id.0) share.arrivals

abbrev pub has_change : Share → ActId → Bool
has_change share id = list_any (λ a. a.0 == id.0) share.changes

-- some share has the arrival, the change
abbrev pub have_arrival : List Share → EventId → Bool
have_arrival shares id = list_any (λ share. has_arrival share id) shares

abbrev pub have_change : List Share → ActId → Bool
have_change shares id = list_any (λ share. has_change share id) shares

-- an event, an activity keeps its weight where the share has it, and weighs nothing else
abbrev pub event_within : Share → Event → Event
event_within share e = weighed_event (if has_arrival share e.id then e.weight else 0) e

abbrev pub activity_within : Share → Activity → Activity
activity_within share a = weighed_activity (if has_change share a.id then a.weight else 0) a

-- and the other way round: it keeps its weight where no share has it
abbrev pub event_beside : List Share → Event → Event
event_beside shares e = weighed_event (if have_arrival shares e.id then 0 else e.weight) e

abbrev pub activity_beside : List Share → Activity → Activity
activity_beside shares a = weighed_activity (if have_change shares a.id then 0 else a.weight) a

-- the network within a share: the weights of all terms outside it are 0
abbrev pub within : Net → Share → Net
within net share =
    record {
      events = map (event_within share) net.events;
      activities = map (activity_within share) net.activities;
      pairs = net.pairs;
    }

-- the network beside shares: the weights of all terms in one of them are 0
abbrev pub beside : Net → List Share → Net
beside net shares =
    record {
      events = map (event_beside shares) net.events;
      activities = map (activity_beside shares) net.activities;
      pairs = net.pairs;
    }

-- the id is that of an arrival, of a change of the network
pub record NamesArrival (net : Net) (id : EventId) : Type 0 where
  pub place : ℕ
  pub found : event_place net id ≡ Some place
  pub arrives : IsTrue (is_arrival (event_at net place).kind)

pub record NamesChange (net : Net) (id : ActId) : Type 0 where
  pub place : ℕ
  pub found : activity_place net id ≡ Some place
  pub changes : IsTrue (is_change (activity_at net place).kind)

-- arrivals and changes of the network, each by ascending id, so that none stands twice
pub record IsShare (net : Net) (share : Share) : Type 0 where
  pub arrivals_ascend : IsStrictlyIncreasing (map (λ e. e.0) share.arrivals)
  pub changes_ascend : IsStrictlyIncreasing (map (λ a. a.0) share.changes)
  pub are_arrivals : All (NamesArrival net) share.arrivals
  pub are_changes : All (NamesChange net) share.changes

-- no arrival and no change stands in two shares
pub record AreApart (shares : List Share) : Type 0 where
  pub arrivals : (m n : ℕ) (a b : Share) (id : EventId) → slice_get shares m ≡ Some a → slice_get shares n ≡ Some b →
      Contains a.arrivals id → Contains b.arrivals id → m ≡ n
  pub changes : (m n : ℕ) (a b : Share) (id : ActId) → slice_get shares m ≡ Some a → slice_get shares n ≡ Some b →
      Contains a.changes id → Contains b.changes id → m ≡ n
