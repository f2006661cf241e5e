-- What the events of a network are held to, and the graph that this makes.
use Rattle.std.specs.Prelude.{ℕ, ◌≡◌, ◌+◌, ◌<◌, ◌≤◌, Bool, false, List, length, replicate, slice_index}
use Rattle.dm_base.specs.declared.limits.TheConstants.{EVENTS, PASSED_TIME, BOUND, DELAY}
use Rattle.dm_graph.specs.Arcs.{Arcs, Binds}
use Rattle.dm_graph.specs.Graph.{Graph}
use Rattle.dm_network.specs.Net.{Net}
use Rattle.dm_network.specs.Held.{arcs_of, is_held, ShowsCycleOf}
use Rattle.dm_settle.specs.declared.faults.NoTimes.{NoTimes}
use Rattle.dm_settle.specs.declared.faults.NoTimes.TheVariants.{Cycle, OutOfMemory}

-- whether each activity is held, before which time no event may be, and how long after its tail, at least, the head of each
-- activity is where the activity is held
pub record ConstraintsValue : Type 0 where
  pub held : List Bool
  pub floors : List ℕ
  pub spans : List ℕ

-- the lists are as long as the network's
pub record IsSizedFor (net : Net) (given : ConstraintsValue) : Type 0 where
  pub held : length given.held ≡ length net.activities
  pub floors : length given.floors ≡ length net.events
  pub spans : length given.spans ≡ length net.activities

-- no activity is held, and no event has a floor above 0
abbrev pub nothing_held : Net → ConstraintsValue
nothing_held net =
    record {
      held = replicate (length net.activities) false;
      floors = replicate (length net.events) 0;
      spans = replicate (length net.activities) 0;
    }

-- floors are at most the latest time at which an event may pass, and spans at most a lower bound and a delay
pub record AreWithinLimits (floors spans : List ℕ) : Type 0 where
  pub of_events : (i : ℕ) → slice_index floors i ≤ PASSED_TIME
  pub of_activities : (a : ℕ) → slice_index spans a ≤ BOUND + DELAY

-- the held activities as arcs
abbrev pub arcs_given : Net → ConstraintsValue → Arcs
arcs_given net given = arcs_of net (is_held given.held)

-- the held activities with their spans, and the floors of the events
abbrev pub graph_given : Net → ConstraintsValue → Graph
graph_given net given =
    record {
      shape = arcs_given net given;
      span = λ a. slice_index given.spans a;
      floor = λ i. slice_index given.floors i;
    }

-- a graph of so few events, so low floors and so short spans that its least times are below 2^38
pub record IsBounded (g : Graph) : Type 0 where
  pub few : g.shape.events ≤ EVENTS
  pub floors : (e : ℕ) → e < g.shape.events → g.floor e ≤ PASSED_TIME
  pub spans : (a : ℕ) → Binds g.shape a → g.span a ≤ BOUND + DELAY

-- the cycle is one of held activities
abbrev pub RefusesTimes : Net → ConstraintsValue → NoTimes → Type 0
RefusesTimes net given (Cycle ids) = ShowsCycleOf net (is_held given.held) ids
RefusesTimes net given OutOfMemory = Unit {0}
