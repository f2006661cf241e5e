-- Held activities that have no cycle, by ranks; and two least timetables are one.
use Rattle.std.proofs.Common.{◌≡◌, ℕ, ◌<◌, ◌≤◌, List, length, Bool, true, arith}
use Rattle.std.specs.Prelude.{nat_lt, slice_index_or, if◌then◌else◌}
use Rattle.std.specs.List.{range_with_len, list_all}
use Rattle.std.proofs.lemmas.Bool.{ltb-true}
use Rattle.std.proofs.lemmas.List.{ext_get_or}
use Rattle.dm_graph.proofs.Chains.{no_cycle_where_rank_rises}
use Rattle.dm_network.specs.Held.{arcs_of, HasNoCycleOf}
use Rattle.dm_network.specs.Net.{Net, activity_at}
use Rattle.dm_rows.specs.Rows.{RowsValue}
use Rattle.dm_rows.specs.Timetable.{time_at, IsLeastHolding}
use Rattle.dm_rows.proofs.Worked.{passes, met_if}
pub use Rattle.dm_rows.proofs.Worked.{shown_least}

-- the activity leads from a smaller rank to a larger one where it is held
abbrev is_rising_at : Net → (ℕ → Bool) → List ℕ → ℕ → Bool
is_rising_at net held ranks a =
    if held a then nat_lt (slice_index_or ranks (activity_at net a).tail 0) (slice_index_or ranks (activity_at net a).head 0) else true

pub shown_acyclic : (net : Net) (held : ℕ → Bool) (ranks : List ℕ) →
    list_all (is_rising_at net held ranks) (range_with_len 0 (length net.activities)) ≡ true → HasNoCycleOf net held
shown_acyclic net held ranks rising =
    no_cycle_where_rank_rises (arcs_of net held) (λ i. slice_index_or ranks i 0)
    (λ a binds. ltb-true _ _ (met_if (held a) _ (passes (is_rising_at net held ranks) (length net.activities) rising a binds.is_arc) binds.is_held))

-- two least timetables are one
pub one_least : (net : Net) (rows : RowsValue) (held : ℕ → Bool) (x y : List ℕ) → IsLeastHolding net rows held x →
    IsLeastHolding net rows held y → x ≡ y
one_least net rows held x y a b =
    let n : length x ≡ length net.events = a.meets.size in
    let m : length y ≡ length net.events = b.meets.size in
    ext_get_or 0 x y (omega arith)
    (λ i lt.
    let below : i < length net.events = omega arith in
    let p : time_at x i ≤ time_at y i = a.earliest y b.meets i below in
    let q : time_at y i ≤ time_at x i = b.earliest x a.meets i below in
    omega arith)
