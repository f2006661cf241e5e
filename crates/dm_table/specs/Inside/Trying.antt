-- A message that is tried on an engine.
use Rattle.std.specs.Prelude.{ℕ, ◌≡◌, ◌<◌, ◌≤◌, List, OnOk, OnErr, Result}
use Rattle.dm_base.specs.declared.limits.TheConstants.{ENTRIES}
use Rattle.dm_graph.specs.declared.search.Cyclic.{Cyclic}
use Rattle.dm_network.specs.Net.{Net}
use Rattle.dm_network.specs.Held.{ids_of}
use Rattle.dm_propagate.specs.Engine.{EngineValue, IsEngineOf, times_of, cycle_of}
use Rattle.dm_rows.specs.declared.messages.Message.{Message}
use Rattle.dm_rows.specs.declared.messages.Refusal.{Refusal}
use Rattle.dm_rows.specs.declared.messages.Refusal.TheVariants.{Cycle, OutOfMemory}
use Rattle.dm_rows.specs.Active.{HasNoCycle, IsCycle}
use Rattle.dm_rows.specs.Refuse.{PassesAtOnce, IsNow, RefusesNothing, Refuses}
use Rattle.dm_rows.specs.Resolve.{after}
use Rattle.dm_rows.specs.Rows.{RowsValue}

-- the rows and the times are as before
pub record IsUnmoved (before now : EngineValue) : Type 0 where
  pub same_rows : now.rows ≡ before.rows
  pub same_times : times_of now ≡ times_of before

-- Rows without a cycle are the engine's if there is room in a history of n entries, and else it is as before. It is as
-- before too where they have a cycle, and such a cycle is its last.
pub record HasTried (net : Net) (n : ℕ) (rows : RowsValue) (before now : EngineValue) (outcome : Result (Unit {0}) Cyclic) : Type 0 where
  pub is_engine : IsEngineOf net now
  pub made : OnOk outcome (n < ENTRIES → now.rows ≡ rows)
  pub no_cycle : OnOk outcome (HasNoCycle net rows)
  pub tried : ENTRIES ≤ n → IsUnmoved before now
  pub refused : OnErr outcome (IsUnmoved before now)
  pub cycle : OnErr outcome (IsCycle net rows (cycle_of now))

-- what is known of a message when its rows have been tried: nothing refuses it at once, and its rows have no cycle, or this
pub record IsTried (net : Net) (rows : RowsValue) (m : Message) (cycle : List ℕ) (outcome : Result (Unit {0}) Cyclic) : Type 0 where
  pub passes : PassesAtOnce net rows m
  pub free : OnOk outcome (HasNoCycle net (after net rows m))
  pub cyclic : OnErr outcome (IsCycle net (after net rows m) cycle)
  pub not_now : OnErr outcome (IsNow m → ⊥)

-- nothing refuses the message, and there is room for it
pub record IsAccepted (net : Net) (rows : RowsValue) (n : ℕ) (m : Message) : Type 0 where
  pub nothing : RefusesNothing (Refuses net rows n m)
  pub few : n < ENTRIES

-- the ids of a cycle, or none for want of memory
abbrev pub ShowsPlaces : Net → List ℕ → Refusal → Type 0
ShowsPlaces net places (Cycle ids) = ids ≡ ids_of net places
ShowsPlaces net places OutOfMemory = Unit {0}
ShowsPlaces net places _ = ⊥
