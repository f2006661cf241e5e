-- What a timetable costs, in thousandths of passenger seconds.
use Rattle.std.specs.Prelude.{ℕ, ◌≡◌, ◌+◌, ◌-◌, ◌*◌, ◌&&◌, ◌||◌, nat_lt, Bool, true, false, not, List, length, if◌then◌else◌, sum_by}
use Rattle.std.specs.List.{range_with_len}
use Rattle.dm_base.specs.declared.rows.EventKind.{EventKind}
use Rattle.dm_base.specs.declared.rows.EventKind.TheVariants.{Departure, Arrival}
use Rattle.dm_network.specs.Net.{Net, event_at, activity_at, is_change}
use Rattle.dm_rows.specs.Rows.{RowsValue, is_cancelled, kept_at}
use Rattle.dm_rows.specs.Active.{has_passed, has_cancelled_end, is_active}
use Rattle.dm_rows.specs.Timetable.{time_at, span_of, IsLeastHolding}

abbrev pub is_arrival : EventKind → Bool
is_arrival Arrival = true
is_arrival Departure = false

-- how many seconds after its scheduled time an event is, or 0
abbrev pub lateness : Net → List ℕ → ℕ → ℕ
lateness net x i = time_at x i - (event_at net i).time

-- the weight of an arrival that is not cancelled, times its lateness
abbrev pub event_cost : Net → RowsValue → List ℕ → ℕ → ℕ
event_cost net rows x i =
    if is_arrival (event_at net i).kind && not (is_cancelled rows i) then (event_at net i).weight * lateness net x i else 0

-- the weight of a cancelled arrival: its passengers look for another way
abbrev pub cancelled_weight : Net → RowsValue → ℕ → ℕ
cancelled_weight net rows i =
    if is_arrival (event_at net i).kind && is_cancelled rows i then (event_at net i).weight else 0

-- the weight of an activity that is charged for
abbrev pub charged_weight : Net → (ℕ → Bool) → ℕ → ℕ
charged_weight net charged a = if charged a then (activity_at net a).weight else 0

-- a change whose head has not passed, and that is dropped or has a cancelled end
abbrev pub is_lost_change : Net → RowsValue → ℕ → Bool
is_lost_change net rows a =
    is_change (activity_at net a).kind && not (has_passed rows (activity_at net a).head)
    && (not (kept_at rows a) || has_cancelled_end net rows a)

-- the activity is not met in the timetable: its head comes too early
abbrev pub comes_too_early : Net → RowsValue → List ℕ → ℕ → Bool
comes_too_early net rows x a =
    nat_lt (time_at x (activity_at net a).head) (time_at x (activity_at net a).tail + span_of net rows a)

-- the weight of a change, kept or dropped, that its passed head has missed for good: it came too early, or nobody could come,
-- since the tail is cancelled
abbrev pub missed_weight : Net → RowsValue → List ℕ → ℕ → ℕ
missed_weight net rows x a =
    if is_change (activity_at net a).kind && has_passed rows (activity_at net a).head
    && (is_cancelled rows (activity_at net a).tail || comes_too_early net rows x a)
    then (activity_at net a).weight else 0

-- weight times lateness over the arrivals that are not cancelled, and the penalty for each cancelled arrival, each charged
-- activity and each frozen miss
abbrev pub cost_charging : Net → RowsValue → (ℕ → Bool) → List ℕ → ℕ → ℕ
cost_charging net rows charged x penalty =
    sum_by (event_cost net rows x) (range_with_len 0 (length net.events))
    + penalty * sum_by (cancelled_weight net rows) (range_with_len 0 (length net.events))
    + penalty * sum_by (charged_weight net charged) (range_with_len 0 (length net.activities))
    + penalty * sum_by (missed_weight net rows x) (range_with_len 0 (length net.activities))

-- The cost of a timetable of the rows: weight times lateness over the arrivals that are not cancelled, and the penalty for each
-- cancelled arrival, for each change whose head has not passed and that is dropped or has a cancelled end, and for each frozen
-- miss.
abbrev pub cost_of : Net → RowsValue → List ℕ → ℕ → ℕ
cost_of net rows x penalty = cost_charging net rows (is_lost_change net rows) x penalty

-- c is the cost of a least timetable holding the activities of `held`, with a charge for each of `charged`
pub record CostsHolding (net : Net) (rows : RowsValue) (held charged : ℕ → Bool) (penalty c : ℕ) : Type 0 where
  pub times : List ℕ
  pub least : IsLeastHolding net rows held times
  pub cost : c ≡ cost_charging net rows charged times penalty

-- The rows cost c: the cost of their least timetable.
abbrev pub Costs : Net → RowsValue → ℕ → ℕ → Type 0
Costs net rows penalty c = CostsHolding net rows (is_active net rows) (is_lost_change net rows) penalty c
