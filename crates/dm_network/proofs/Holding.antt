-- Activities that one test holds and another one too bind there as well, and a cycle of them is one of the other's.
use Rattle.std.proofs.Common.{◌≡◌, ℕ, ◌<◌, Bool, true, List, length, refl}
use Rattle.dm_graph.specs.Arcs.{Binds, BindsIn}
use Rattle.dm_graph.proofs.Transfers.{cycle_carries}
use Rattle.dm_network.specs.Net.{Net}
use Rattle.dm_network.specs.Held.{arcs_of, IsCycleOf}

module _ (net : Net) (held more : ℕ → Bool) (kept : (a : ℕ) → a < length net.activities → held a ≡ true → more a ≡ true) where
  pub binds_with : (a : ℕ) → Binds (arcs_of net held) a → BindsIn (arcs_of net held) (arcs_of net more) a
  binds_with a b = record {
    binds = record {
      is_arc = b.is_arc;
      is_held = kept a b.is_arc b.is_held;
      from_event = b.from_event;
      to_event = b.to_event;
    };
    same_tail = refl;
    same_head = refl;
  }

  pub cycle_with : (cycle : List ℕ) → IsCycleOf net held cycle → IsCycleOf net more cycle
  cycle_with cycle is = cycle_carries (arcs_of net held) (arcs_of net more) binds_with cycle is
