-- Terms that are claimed for one share, and for no other.
use Rattle.std.specs.Prelude.{ℕ, ◌≡◌, ◌<◌, ◌≤◌, ◌-◌, true, false, Bool, List, length, map, All, Contains, slice_get, slice_index_or, Option, Some}
use Rattle.std.specs.List.Sorted.{IsStrictlyIncreasing}
use Rattle.dm_base.specs.declared.ids.EventId.{EventId}
use Rattle.dm_base.specs.declared.ids.ActId.{ActId}
use Rattle.dm_network.specs.Net.{Net, event_place, activity_place}
use Rattle.dm_parts.specs.declared.shares.Share.{Share}
use Rattle.dm_parts.specs.Shares.{NamesArrival, NamesChange, AreApart}

-- the place of the event, of the activity is taken
pub record IsTakenArrival (net : Net) (taken : List Bool) (id : EventId) : Type 0 where
  pub place : ℕ
  pub found : event_place net id ≡ Some place
  pub flagged : slice_index_or taken place false ≡ true

pub record IsTakenChange (net : Net) (taken : List Bool) (id : ActId) : Type 0 where
  pub place : ℕ
  pub found : activity_place net id ≡ Some place
  pub flagged : slice_index_or taken place false ≡ true

-- all terms of the shares are taken, and no term stands in two of them
pub record AreTaken (net : Net) (arrivals changes : List Bool) (shares : List Share) : Type 0 where
  pub as_many_arrivals : length arrivals ≡ length net.events
  pub as_many_changes : length changes ≡ length net.activities
  pub are_arrivals : (s : Share) (id : EventId) → Contains shares s → Contains s.arrivals id → IsTakenArrival net arrivals id
  pub are_changes : (s : Share) (id : ActId) → Contains shares s → Contains s.changes id → IsTakenChange net changes id
  pub apart : AreApart shares

-- the last of a list, if it has one
abbrev pub last_of : {X : Type 0} → List X → Option X
last_of xs = slice_get xs (length xs - 1)

-- the ids ascend, name arrivals, and none of them was taken before
pub record AreNewArrivals (net : Net) (before after : List Bool) (ids : List EventId) : Type 0 where
  pub ascend : IsStrictlyIncreasing (map (λ e. e.0) ids)
  pub are_arrivals : All (NamesArrival net) ids
  pub new : (id : EventId) → Contains ids id → IsTakenArrival net before id → ⊥
  pub taken : (id : EventId) → Contains ids id → IsTakenArrival net after id
  pub kept : (id : EventId) → IsTakenArrival net before id → IsTakenArrival net after id
  pub as_many : length after ≡ length before

pub record AreNewChanges (net : Net) (before after : List Bool) (ids : List ActId) : Type 0 where
  pub ascend : IsStrictlyIncreasing (map (λ a. a.0) ids)
  pub are_changes : All (NamesChange net) ids
  pub new : (id : ActId) → Contains ids id → IsTakenChange net before id → ⊥
  pub taken : (id : ActId) → Contains ids id → IsTakenChange net after id
  pub kept : (id : ActId) → IsTakenChange net before id → IsTakenChange net after id
  pub as_many : length after ≡ length before

-- what was taken stays so
pub record KeepsArrivals (net : Net) (before after : List Bool) : Type 0 where
  pub as_many : length after ≡ length before
  pub kept : (id : EventId) → IsTakenArrival net before id → IsTakenArrival net after id

pub record KeepsChanges (net : Net) (before after : List Bool) : Type 0 where
  pub as_many : length after ≡ length before
  pub kept : (id : ActId) → IsTakenChange net before id → IsTakenChange net after id

-- the id comes behind the others, names an arrival, a change that was not taken, and is taken now
pub record IsNewArrival (net : Net) (before after : List Bool) (ids : List EventId) (id : EventId) : Type 0 where
  pub behind : (other : EventId) → last_of ids ≡ Some other → other.0 < id.0
  pub named : NamesArrival net id
  pub new : IsTakenArrival net before id → ⊥
  pub taken : IsTakenArrival net after id

pub record IsNewChange (net : Net) (before after : List Bool) (ids : List ActId) (id : ActId) : Type 0 where
  pub behind : (other : ActId) → last_of ids ≡ Some other → other.0 < id.0
  pub named : NamesChange net id
  pub new : IsTakenChange net before id → ⊥
  pub taken : IsTakenChange net after id

-- a share of few terms
pub record IsSmall (share : Share) : Type 0 where
  pub few_arrivals : length share.arrivals ≤ 65536
  pub few_changes : length share.changes ≤ 65536
