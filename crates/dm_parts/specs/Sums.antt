-- The cost within a share as a sum over the ids of the share.
use Rattle.std.specs.Prelude.{ℕ, ◌≡◌, ◌+◌, ◌*◌, Bool, List, Option, Some, None, sum_by}
use Rattle.dm_network.specs.Net.{Net, event_place, activity_place}
use Rattle.dm_network.specs.Start.{IsNetwork}
use Rattle.dm_rows.specs.Cost.{event_cost, cancelled_weight, charged_weight, missed_weight, cost_charging}
use Rattle.dm_rows.specs.Rows.{RowsValue}
use Rattle.dm_parts.specs.declared.shares.Share.{Share}
use Rattle.dm_parts.specs.Shares.{within, IsShare}

-- what stands at a place, and 0 where there is none
abbrev pub at_place : (ℕ → ℕ) → Option ℕ → ℕ
at_place f (Some i) = f i
at_place f None = 0

-- what the lateness of the share's arrivals costs in a timetable
abbrev pub lateness_of : Net → Share → RowsValue → List ℕ → ℕ
lateness_of net share rows x = sum_by (λ id. at_place (event_cost net rows x) (event_place net id)) share.arrivals

-- the weights of the share's arrivals that are cancelled
abbrev pub cancelled_of : Net → Share → RowsValue → ℕ
cancelled_of net share rows = sum_by (λ id. at_place (cancelled_weight net rows) (event_place net id)) share.arrivals

-- the weights of the share's changes that are charged for, and of those that their passed heads have missed
abbrev pub charged_of : Net → Share → (ℕ → Bool) → ℕ
charged_of net share charged = sum_by (λ id. at_place (charged_weight net charged) (activity_place net id)) share.changes

abbrev pub missed_of : Net → Share → RowsValue → List ℕ → ℕ
missed_of net share rows x = sum_by (λ id. at_place (missed_weight net rows x) (activity_place net id)) share.changes

-- The cost within a share takes no more than the share's ids to add up, whatever the size of the network.
abbrev pub CostsWithinAreSums : Type 0
CostsWithinAreSums =
    (net : Net) (share : Share) (rows : RowsValue) (charged : ℕ → Bool) (x : List ℕ) (penalty : ℕ) → IsNetwork net →
    IsShare net share →
    cost_charging (within net share) rows charged x penalty
    ≡ lateness_of net share rows x + penalty * cancelled_of net share rows + penalty * charged_of net share charged
    + penalty * missed_of net share rows x
