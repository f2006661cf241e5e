-- Events listed stop by stop.
use Rattle.std.specs.Prelude.{ℕ, ◌≡◌, ◌<◌, ◌≤◌, List, length, map, All, Contains, IsPermutation, slice_index_or}
use Rattle.std.specs.List.Sorted.{IsNonDecreasingBy}
use Rattle.dm_network.specs.Net.{Net, event_at}
use Rattle.dm_publish.specs.declared.changes.Listed.{Listed}
use Rattle.dm_publish.specs.Inside.Changes.{no_listed, StandsIn, AreAtStops}

-- the event at a place, with its stop
abbrev pub listed_at : Net → ℕ → Listed
listed_at net i = record { stop = (event_at net i).stop; place = i }

-- the events at these places
abbrev pub lists : Net → List ℕ → List Listed
lists net places = map (listed_at net) places

-- the events at these places are listed, and the stops ascend
pub record AreListed (net : Net) (places : List ℕ) (listed : List Listed) : Type 0 where
  pub same : IsPermutation (lists net places) listed
  pub ascend : IsNonDecreasingBy (λ l. l.stop.0) listed

-- events of the network are listed, at most as many as it has, each with its stop, and the stops ascend
pub record AreGrouped (net : Net) (listed : List Listed) : Type 0 where
  pub within : All (λ l. l.place < length net.events) listed
  pub few : length listed ≤ length net.events
  pub stops : AreAtStops net listed
  pub ascend : IsNonDecreasingBy (λ l. l.stop.0) listed

-- a part of a list has those that stand in it at this stop, and no others
pub record IsPartOf (listed : List Listed) (stop : ℕ) (part : List Listed) : Type 0 where
  pub each : (k : ℕ) (d : Listed) → k < length listed → (slice_index_or listed k d).stop.0 ≡ stop →
      StandsIn part (slice_index_or listed k d).place
  pub within : All (λ l. Contains listed l) part
  pub of_stop : All (λ l. l.stop.0 ≡ stop) part
  pub few : length part ≤ length listed

-- the events before this place of a list are of the stop, and the one that stands there is not
pub record EndsAt (listed : List Listed) (stop many : ℕ) : Type 0 where
  pub within : many ≤ length listed
  pub of_stop : (k : ℕ) → k < many → (slice_index_or listed k no_listed).stop.0 ≡ stop
  pub next : many < length listed → (slice_index_or listed many no_listed).stop.0 ≡ stop → ⊥
