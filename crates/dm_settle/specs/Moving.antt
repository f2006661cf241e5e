-- An event of a network that gets another time.
use Rattle.std.specs.Prelude.{ℕ, ◌≡◌, ◌^◌, ◌<◌, List, length, slice_set}
use Rattle.dm_network.specs.Net.{Net, places_into, places_out_of}
use Rattle.dm_settle.specs.declared.moving.Move.{Move}
use Rattle.dm_settle.specs.Constraints.{IsSizedFor}

-- the constraints and the times are of the network, the time is early, and the rows are those of the event
pub record IsMove (net : Net) (to : Move) : Type 0 where
  pub sized : IsSizedFor net to.constraints.now
  pub as_many : length to.times.now ≡ length net.events
  pub is_event : to.event < length net.events
  pub early : to.time < 2 ^ 38
  pub into : to.into.now ≡ places_into net to.event
  pub out_of : to.out_of.now ≡ places_out_of net to.event

-- the times where the event has moved
abbrev pub times_after : Move → List ℕ
times_after to = slice_set to.times.now to.event to.time
