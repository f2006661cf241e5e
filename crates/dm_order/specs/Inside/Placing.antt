-- The lists of an order between its moves.
use Rattle.std.specs.Prelude.{ℕ, ◌≡◌, ◌<◌, ◌≤◌, ◌⊎◌, Bool, true, IsTrue, List, length, drop, if◌then◌else◌}
use Rattle.std.specs.List.{Contains}
use Rattle.dm_graph.specs.Arrays.{AreRanks}
use Rattle.dm_network.specs.Net.{Net, activity_at}
use Rattle.dm_network.specs.Held.{is_held, IsCycleOf}
use Rattle.dm_order.specs.declared.faults.OrderFault.{OrderFault}
use Rattle.dm_order.specs.declared.faults.OrderFault.TheVariants.{Cyclic, OutOfMemory}
use Rattle.dm_order.specs.declared.flags.Flags.{Flags}
use Rattle.dm_order.specs.declared.lists.Lists.{Lists}
use Rattle.dm_order.specs.Orders.{GoesForward, is_among}

-- the cycle that was found last
abbrev pub cycle_in : Lists → List ℕ
cycle_in lists = if lists.by_search then lists.search.cycle else drop lists.way.start lists.way.arcs.items

-- there is as much room as the list has events
pub record HasRoom (lists : Lists) : Type 0 where
  pub search : length lists.search.order ≡ length lists.places.order.items
  pub spare : length lists.places.spare.items ≡ length lists.places.order.items
  pub causes : length lists.reach.causes.items ≡ length lists.places.order.items
  pub way : length lists.way.arcs.items ≡ length lists.places.order.items
  pub start : lists.way.start ≤ length lists.way.arcs.items

-- the lists are an order of the network's events, with room beside
pub record AreLists (net : Net) (lists : Lists) : Type 0 where
  pub ranked : AreRanks (length net.events) lists.places.order.items lists.places.ranks.items
  pub room : HasRoom lists

-- no addition is tried, and there is room
pub record IsKept (flags : Flags) (lists : Lists) : Type 0 where
  pub none_tried : flags.tried.items ≡ flags.held.items
  pub room : HasRoom lists

-- one of these activities does not go forward
pub record IsBehind (net : Net) (ranks arcs : List ℕ) (a : ℕ) : Type 0 where
  pub among : Contains arcs a
  pub behind : GoesForward net ranks a → ⊥

-- two activities join the same events
pub record HasSameEnds (net : Net) (a b : ℕ) : Type 0 where
  pub tail : (activity_at net a).tail ≡ (activity_at net b).tail
  pub head : (activity_at net a).head ≡ (activity_at net b).head

-- an activity goes forward, or joins the same events as another one
abbrev pub IsForwardOrAlike : Net → List ℕ → ℕ → ℕ → Type 0
IsForwardOrAlike net ranks first a = GoesForward net ranks a ⊎ HasSameEnds net a first

-- each held activity goes forward, or joins the same events as another one
abbrev pub GoForwardOrAlike : Net → List Bool → ℕ → List ℕ → Type 0
GoForwardOrAlike net held first ranks =
    (a : ℕ) → a < length net.activities → IsTrue (is_held held a) → IsForwardOrAlike net ranks first a

-- each held activity goes forward, or is one of these
abbrev pub GoForwardBut : Net → List Bool → List ℕ → List ℕ → Type 0
GoForwardBut net held arcs ranks =
    (a : ℕ) → a < length net.activities → IsTrue (is_held held a) → (is_among arcs a ≡ true) ⊎ GoesForward net ranks a

-- the held activities have a cycle
pub record HasCycleOf (net : Net) (held : List Bool) : Type 0 where
  pub cycle : List ℕ
  pub is_cycle : IsCycleOf net (is_held held) cycle

abbrev pub RefusesLists : Net → List Bool → OrderFault → Type 0
RefusesLists net held Cyclic = HasCycleOf net held
RefusesLists net held OutOfMemory = Unit {0}
