-- Networks that differ in weights alone.
use Rattle.std.specs.Prelude.{ℕ, ◌≡◌, map}
use Rattle.dm_network.specs.declared.parts.Event.{Event}
use Rattle.dm_network.specs.declared.parts.Activity.{Activity}
use Rattle.dm_network.specs.Net.{Net}

-- an event, an activity with another weight
abbrev pub weighed_event : ℕ → Event → Event
weighed_event weight e = record { id = e.id; kind = e.kind; time = e.time; weight = weight; stop = e.stop }

abbrev pub weighed_activity : ℕ → Activity → Activity
weighed_activity weight a =
    record { id = a.id; kind = a.kind; tail = a.tail; head = a.head; lower = a.lower; weight = weight; pair = a.pair }

-- the two networks are the same but for their weights: with all weights 0 their events and activities are the same
pub record DifferInWeights (net other : Net) : Type 0 where
  pub events : map (weighed_event 0) net.events ≡ map (weighed_event 0) other.events
  pub activities : map (weighed_activity 0) net.activities ≡ map (weighed_activity 0) other.activities
  pub pairs : net.pairs ≡ other.pairs
