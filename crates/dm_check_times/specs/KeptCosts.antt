-- What a timetable costs, kept while its times and the rows change.
use Rattle.std.specs.Prelude.{ℕ, ◌≡◌, ◌+◌, ◌*◌, ◌^◌, ◌<◌, ◌≤◌, Bool, false, List, length, slice_index, sum_by}
use Rattle.std.specs.List.{range_with_len}
use Rattle.dm_base.specs.declared.limits.TheConstants.{EVENTS, ACTIVITIES, WEIGHT}
use Rattle.dm_network.specs.Net.{Net}
use Rattle.dm_network.specs.Held.{is_held}
use Rattle.dm_rows.specs.Cost.{event_cost, cancelled_weight, charged_weight, missed_weight, is_lost_change}
use Rattle.dm_rows.specs.Rows.{RowsValue, is_cancelled}
use Rattle.dm_rows.specs.declared.messages.Change.{Change}
use Rattle.dm_rows.specs.declared.messages.Change.TheVariants.{Passed}
use Rattle.dm_check_times.specs.Binding.{AreBelowLimit}
use Rattle.dm_check_times.specs.declared.charges.Charges.{Charges}
use Rattle.dm_check_times.specs.declared.charges.Charges.TheVariants.{Lost, Flagged}

-- ---- what is charged for

-- whether an activity is charged for
abbrev pub charges_of : Net → RowsValue → Charges → ℕ → Bool
charges_of net rows Lost = is_lost_change net rows
charges_of net rows (Flagged flags) = is_held flags.now

-- there is a flag for each activity of the network
abbrev pub AreChargesTo : Net → Charges → Type 0
AreChargesTo net Lost = Unit {0}
AreChargesTo net (Flagged flags) = length flags.now ≡ length net.activities

-- the weight of which the penalty is taken at an activity: charged for, and missed
abbrev pub priced_weight : Net → RowsValue → (ℕ → Bool) → List ℕ → ℕ → ℕ
priced_weight net rows charges x a = charged_weight net charges a + missed_weight net rows x a

-- ---- kept costs

-- times, what their lateness costs, the weights of the cancelled arrivals, a weight for each activity, and the sum of these
pub record KeptCostValue : Type 0 where
  pub times : List ℕ
  pub lateness : ℕ
  pub cancelled : ℕ
  pub weights : List ℕ
  pub penalized : ℕ

-- there is a time for each event, and what lateness costs and the cancelled weights are no more than they can be
pub record AreTimesOf (net : Net) (times : List ℕ) (lateness cancelled : ℕ) : Type 0 where
  pub as_many : length times ≡ length net.events
  pub early : AreBelowLimit times
  pub limit : lateness ≤ EVENTS * (WEIGHT * 2 ^ 38)
  pub few_cancelled : cancelled ≤ EVENTS * WEIGHT

-- there is a weight for each activity, and this is their sum
pub record AreWeightsOf (net : Net) (weights : List ℕ) (penalized : ℕ) : Type 0 where
  pub as_many : length weights ≡ length net.activities
  pub small : (a : ℕ) → slice_index weights a ≤ 2 * WEIGHT
  pub sum : penalized ≡ sum_by (slice_index weights) (range_with_len 0 (length net.activities))
  pub limit : penalized ≤ ACTIVITIES * (2 * WEIGHT)

-- the lists are as long as the network's, and the sum is that of the weights
pub record IsKeptCostOf (net : Net) (kept : KeptCostValue) : Type 0 where
  pub late : AreTimesOf net kept.times kept.lateness kept.cancelled
  pub weighed : AreWeightsOf net kept.weights kept.penalized

-- this is what the lateness of all that is not cancelled costs under the rows, and this is what their cancelled arrivals weigh
pub record IsLateFor (net : Net) (rows : RowsValue) (kept : KeptCostValue) : Type 0 where
  pub lateness : kept.lateness ≡ sum_by (event_cost net rows kept.times) (range_with_len 0 (length net.events))
  pub cancelled : kept.cancelled ≡ sum_by (cancelled_weight net rows) (range_with_len 0 (length net.events))

-- the weight that is kept of an activity is that of the rows, for these charges, at the times that are kept
abbrev pub IsPricedAt : Net → RowsValue → (ℕ → Bool) → KeptCostValue → ℕ → Type 0
IsPricedAt net rows charges kept a = slice_index kept.weights a ≡ priced_weight net rows charges kept.times a

-- and so is every one, and so is what is kept of the events
pub record IsPricedFor (net : Net) (rows : RowsValue) (charges : ℕ → Bool) (kept : KeptCostValue) : Type 0 where
  pub late : IsLateFor net rows kept
  pub weights : (a : ℕ) → a < length net.activities → IsPricedAt net rows charges kept a

-- what is kept of the events stays
abbrev pub KeepsLate : KeptCostValue → KeptCostValue → Type 0
KeepsLate old new = (new.lateness ≡ old.lateness) × (new.cancelled ≡ old.cancelled)

-- the weight of one activity is right now, and whichever was right still is
pub record RenewsWeight (net : Net) (rows : RowsValue) (charges : ℕ → Bool) (a : ℕ) (old new : KeptCostValue) : Type 0 where
  pub times : new.times ≡ old.times
  pub late : KeepsLate old new
  pub there : IsPricedAt net rows charges new a
  pub kept : (b : ℕ) → IsPricedAt net rows charges old b → IsPricedAt net rows charges new b

-- what passes was not cancelled before
abbrev pub PassesRunning : RowsValue → Change → Type 0
PassesRunning rows (Passed i t) = is_cancelled rows i ≡ false
PassesRunning rows _ = Unit {0}
