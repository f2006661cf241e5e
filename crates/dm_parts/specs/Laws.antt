-- What holds of all shares.
use Rattle.std.specs.Prelude.{ℕ, ◌≡◌, ◌+◌, List, sum_by}
use Rattle.dm_network.specs.Net.{Net}
use Rattle.dm_network.specs.Start.{IsNetwork}
use Rattle.dm_rows.specs.declared.messages.Decision.{Decision}
use Rattle.dm_rows.specs.Rows.{RowsValue}
use Rattle.dm_rows.specs.Active.{is_active, IsCycle}
use Rattle.dm_rows.specs.Timetable.{IsLeast}
use Rattle.dm_rows.specs.Cost.{cost_of}
use Rattle.dm_rows.specs.Decide.{free_choices_of, with_decisions}
use Rattle.dm_rows.specs.Relax.{violated_choices_of}
use Rattle.dm_tree.specs.Relaxed.{IsRelaxedLeast, IsRelaxedCycle, relaxed_cost_of}
use Rattle.dm_parts.specs.declared.shares.Share.{Share}
use Rattle.dm_parts.specs.Shares.{within, beside, AreApart}
use Rattle.dm_parts.specs.Weights.{DifferInWeights}

-- what two networks have in common that differ in weights alone
pub record HaveInCommon (net other : Net) : Type 0 where
  pub network : IsNetwork net → IsNetwork other
  pub active : (rows : RowsValue) (a : ℕ) → is_active net rows a ≡ is_active other rows a
  pub cycles : (rows : RowsValue) (cycle : List ℕ) → IsCycle net rows cycle → IsCycle other rows cycle
  pub least : (rows : RowsValue) (x : List ℕ) → IsLeast net rows x → IsLeast other rows x
  pub free : (rows : RowsValue) → free_choices_of net rows ≡ free_choices_of other rows
  pub decided : (rows : RowsValue) (ds : List Decision) → with_decisions net rows ds ≡ with_decisions other rows ds
  pub relaxed_cycles : (rows : RowsValue) (path : List Decision) (cycle : List ℕ) →
      IsRelaxedCycle net rows path cycle → IsRelaxedCycle other rows path cycle
  pub relaxed_least : (rows : RowsValue) (path : List Decision) (x : List ℕ) →
      IsRelaxedLeast net rows path x → IsRelaxedLeast other rows path x
  pub violated : (rows : RowsValue) (path : List Decision) (x : List ℕ) →
      violated_choices_of net rows path x ≡ violated_choices_of other rows path x

-- Weights decide nothing but costs. The network within a share, and the one beside shares, differ from theirs in weights alone.
pub record WeightsDecideNothing : Type 0 where
  pub in_common : (net other : Net) → DifferInWeights net other → HaveInCommon net other
  pub within_share : (net : Net) (share : Share) → DifferInWeights net (within net share)
  pub beside_shares : (net : Net) (shares : List Share) → DifferInWeights net (beside net shares)

-- Where no term stands in two shares, the cost of any timetable under any rows is the sum of what it costs within each share
-- and of what it costs beside them; and so is the relaxed cost of a path.
pub record CostsAddUp : Type 0 where
  pub costs : (net : Net) (rows : RowsValue) (shares : List Share) (x : List ℕ) (penalty : ℕ) → AreApart shares →
      cost_of net rows x penalty
      ≡ sum_by (λ share. cost_of (within net share) rows x penalty) shares + cost_of (beside net shares) rows x penalty
  pub relaxed : (net : Net) (rows : RowsValue) (path : List Decision) (shares : List Share) (x : List ℕ) (penalty : ℕ) →
      AreApart shares →
      relaxed_cost_of net rows path x penalty
      ≡ sum_by (λ share. relaxed_cost_of (within net share) rows path x penalty) shares
      + relaxed_cost_of (beside net shares) rows path x penalty
