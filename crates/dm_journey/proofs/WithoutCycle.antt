-- The usable activities of a network make no cycle, whatever their times.
use Rattle.std.proofs.Common.{◌≡◌, ℕ, ◌<◌, Bool, true, false, IsTrue, List, length, map, None, Option, refl, ap, ◌∙◌, arith, cond, get_or}
use Rattle.std.specs.Prelude.{◌&&◌}
use Rattle.std.specs.List.{range_with_len}
use Rattle.std.proofs.lemmas.List.FromFn.{get_or-map-range_with_len}
use Rattle.dm_base.specs.declared.rows.ActKind.{ActKind}
use Rattle.dm_base.specs.declared.rows.ActKind.TheVariants.{Drive, Wait, Turnaround, Change, Headway}
use Rattle.dm_graph.specs.Arcs.{IsCycle}
use Rattle.dm_network.proofs.Holding.{cycle_with}
use Rattle.dm_network.specs.Net.{Net, activity_at, is_headway}
use Rattle.dm_network.specs.Held.{arcs_of, is_held}
use Rattle.dm_network.specs.Start.{IsNetwork, is_start_active, binds_at_start}
use Rattle.dm_rows.specs.Rows.{RowsValue}
use Rattle.dm_journey.specs.Walks.{is_usable, is_open}

-- what is no headway has no pair, and binds at the start
starts_without_pair : (net : Net) (tail : ℕ) (place pair : Option ℕ) (b : Bool) → pair ≡ cond b place None → b ≡ false →
    IsTrue (binds_at_start net pair tail)
starts_without_pair net tail place pair true is other = cc
starts_without_pair net tail place pair false is other = rw is refl

-- activities that are no headways have no cycle in a network
pub no_cycle_without_headways : (net : Net) (held : ℕ → Bool) → IsNetwork net →
    ((a : ℕ) → a < length net.activities → IsTrue (held a) → is_headway (activity_at net a).kind ≡ false) → (cycle : List ℕ) → IsCycle (arcs_of net held) cycle → ⊥
no_cycle_without_headways net held network none cycle c =
    network.no_start_cycle cycle
    (cycle_with net held (is_start_active net)
    (λ a below is.
    starts_without_pair net (activity_at net a).tail _ (activity_at net a).pair (is_headway (activity_at net a).kind)
    (network.formed.is_paired.belongs a below) (none a below is))
    cycle c)

and_right : (a b : Bool) → (a && b) ≡ true → b ≡ true
and_right true b is = is
and_right false b is = cc

open_no_headway : (net : Net) (rows : RowsValue) (x : List ℕ) (kind : ActKind) (a : ℕ) → is_open net rows x kind a ≡ true → is_headway kind ≡ false
open_no_headway net rows x Drive a is = refl
open_no_headway net rows x Wait a is = refl
open_no_headway net rows x Turnaround a is = refl
open_no_headway net rows x Change a is = refl
open_no_headway net rows x Headway a is = cc

-- a flag past the end of a list is not set
flag_is : (f : ℕ → Bool) (n a : ℕ) (flags : List Bool) → flags ≡ map f (range_with_len 0 n) → a < n → is_held flags a ≡ f a
flag_is f n a flags is below = ap (λ (xs : List Bool). get_or xs a false) is ∙ get_or-map-range_with_len f 0 n a a false below (omega arith)

pub usable_no_headway : (net : Net) (rows : RowsValue) (x : List ℕ) (a : ℕ) → is_usable net rows x a ≡ true → is_headway (activity_at net a).kind ≡ false
usable_no_headway net rows x a is = open_no_headway net rows x (activity_at net a).kind a (and_right _ _ is)

pub flags_are : (net : Net) (f : ℕ → Bool) (flags : List Bool) → flags ≡ map f (range_with_len 0 (length net.activities)) →
    (a : ℕ) → a < length net.activities → is_held flags a ≡ f a
flags_are net f flags is a below = flag_is f (length net.activities) a flags is below
