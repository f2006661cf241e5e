-- What the terms of a share cost where an evaluator stands, added up id by id.
use Rattle.std.specs.Prelude.{ℕ, ◌==◌, ◌&&◌, ◌||◌, Bool, false, not, List, sum_by, take, if◌then◌else◌}
use Rattle.std.specs.List.{list_any}
use Rattle.dm_base.specs.declared.ids.ActId.{ActId}
use Rattle.dm_network.specs.Net.{Net, activity_at, event_place, activity_place}
use Rattle.dm_rows.specs.declared.messages.Decision.{Decision}
use Rattle.dm_rows.specs.declared.messages.Decision.TheVariants.{Keep, Drop, First}
use Rattle.dm_rows.specs.Cost.{event_cost, cancelled_weight, missed_weight, is_lost_change}
use Rattle.dm_rows.specs.Decide.{is_free_change}
use Rattle.dm_rows.specs.Rows.{RowsValue}
use Rattle.dm_parts.specs.declared.shares.Share.{Share}
use Rattle.dm_parts.specs.Sums.{at_place}

-- the decision drops the change
abbrev pub is_drop_of : ActId → Decision → Bool
is_drop_of id (Keep a) = false
is_drop_of id (Drop a) = a.0 == id.0
is_drop_of id (First i j) = false

-- some decision of the path does
abbrev pub drops : List Decision → ActId → Bool
drops path id = list_any (is_drop_of id) path

-- the change is lost and no path may decide it: it is not free
abbrev pub is_lost_for_good : Net → RowsValue → ℕ → Bool
is_lost_for_good net rows a = is_lost_change net rows a && not (is_free_change net rows a)

-- the weight of a change that the path drops, or that is lost for good
abbrev pub lost_weight : Net → RowsValue → List Decision → ActId → ℕ
lost_weight net rows path id =
    at_place (λ a. if drops path id || is_lost_for_good net rows a then (activity_at net a).weight else 0) (activity_place net id)

-- the sums over the first so many arrivals and changes
abbrev pub lateness_up_to : Net → Share → RowsValue → List ℕ → ℕ → ℕ
lateness_up_to net share rows x k = sum_by (λ id. at_place (event_cost net rows x) (event_place net id)) (take k share.arrivals)

abbrev pub cancelled_up_to : Net → Share → RowsValue → ℕ → ℕ
cancelled_up_to net share rows k = sum_by (λ id. at_place (cancelled_weight net rows) (event_place net id)) (take k share.arrivals)

abbrev pub lost_up_to : Net → Share → RowsValue → List Decision → ℕ → ℕ
lost_up_to net share rows path k = sum_by (lost_weight net rows path) (take k share.changes)

abbrev pub missed_up_to : Net → Share → RowsValue → List ℕ → ℕ → ℕ
missed_up_to net share rows x k = sum_by (λ id. at_place (missed_weight net rows x) (activity_place net id)) (take k share.changes)
