-- What may be claimed of a network's rows.
use Rattle.std.specs.Prelude.{ℕ, ◌≡◌, List, length, Bool, true, false, IsTrue}
use Rattle.dm_network.specs.Net.{Net}
use Rattle.dm_rows.specs.declared.messages.Change.{Change}
use Rattle.dm_rows.specs.declared.messages.Message.{Message}
use Rattle.dm_rows.specs.declared.messages.Refusal.{Refusal}
use Rattle.dm_rows.specs.Rows.{RowsValue, IsSized}
use Rattle.dm_rows.specs.Active.{HasNoCycle}
use Rattle.dm_rows.specs.Cost.{is_lost_change}
use Rattle.dm_rows.specs.Refuse.{Refuses}
use Rattle.dm_rows.specs.Resolve.{after}
use Rattle.dm_rows.specs.Timetable.{IsLeast, time_at}
use Rattle.dm_schedule.specs.Schedule.{IsScheduleOf}
use Rattle.dm_schedule.specs.declared.schedule.Scheduled.{Scheduled}
use Rattle.dm_check_times.specs.Binding.{AreBelowLimit}
use Rattle.dm_check_times.specs.KeptCosts.{KeptCostValue, IsKeptCostOf, IsPricedFor, PassesRunning}
use Rattle.dm_check_times.specs.Noting.{AreAlikeBut}
use Rattle.dm_marks.specs.Places.{PlaceSetValue}
use Rattle.dm_check_times.specs.Timetables.{KeptTimetableValue, IsRoomOf, IsTimetableOf, AgreesWith}

-- nothing refuses the message at so many entries
abbrev pub IsAccepted : Net → RowsValue → ℕ → Message → Type 0
IsAccepted net rows n m = (r : Refusal) → Refuses net rows n m r → ⊥

-- the message is accepted, and these are the rows after it
pub record Enters (net : Net) (rows new : RowsValue) (n : ℕ) (m : Message) : Type 0 where
  pub accepted : IsAccepted net rows n m
  pub after_it : new ≡ after net rows m
  pub sized : IsSized net new

-- whether the message is accepted; where it is, the rows are those after it
abbrev pub TellsAcceptance : Net → RowsValue → RowsValue → ℕ → Message → Bool → Type 0
TellsAcceptance net rows new n m true = Enters net rows new n m
TellsAcceptance net rows new n m false = IsAccepted net rows n m → ⊥

-- ---- times and costs

-- the claim holds, or it does not
abbrev pub Tells : Type 0 → Bool → Type 0
Tells claim true = claim
Tells claim false = claim → ⊥

-- this is the time of the event at this place in the least timetable of the rows
pub record IsTimeOf (net : Net) (rows : RowsValue) (i time : ℕ) : Type 0 where
  pub times : List ℕ
  pub least : IsLeast net rows times
  pub is_time : time ≡ time_at times i

-- ---- rows as messages come

-- rows, whether they are known to have no cycle, whether the timetable is kept with them, whether the weights of the cost are, whether
-- the timetable is settled, the events by their scheduled times, the timetable, what its times cost, and the events that have moved
-- since these were taken
pub record CheckedRowsValue : Type 0 where
  pub rows : RowsValue
  pub is_free : Bool
  pub is_kept : Bool
  pub is_priced : Bool
  pub is_settled : Bool
  pub schedule : List Scheduled
  pub timetable : KeptTimetableValue
  pub kept_cost : KeptCostValue
  pub moved : PlaceSetValue

-- the times that were computed last
abbrev pub times_of : CheckedRowsValue → List ℕ
times_of d = d.timetable.times

-- the rows are known to have no cycle
abbrev pub IsKnownFree : Net → RowsValue → Bool → Type 0
IsKnownFree net rows known = IsTrue known → HasNoCycle net rows

-- the timetable is kept with the rows
pub record KeepsTo (net : Net) (rows : RowsValue) (t : KeptTimetableValue) : Type 0 where
  pub timetable : IsTimetableOf net t
  pub agrees : AgreesWith net rows t

abbrev pub IsKept : Net → RowsValue → KeptTimetableValue → Bool → Type 0
IsKept net rows t kept = IsTrue kept → KeepsTo net rows t

-- the cost is kept for the rows, where lost changes are charged for
abbrev pub IsPriced : Net → RowsValue → KeptCostValue → Bool → Type 0
IsPriced net rows cost priced = IsTrue priced → IsPricedFor net rows (is_lost_change net rows) cost

-- where the weights are kept, no event that is cancelled passes by the change
abbrev pub PassesIf : RowsValue → Change → Bool → Type 0
PassesIf rows change priced = IsTrue priced → PassesRunning rows change

-- the times of the cost are those of the timetable, but at the events that have moved
abbrev pub IsNoted : KeptTimetableValue → KeptCostValue → PlaceSetValue → Bool → Type 0
IsNoted t cost moved priced = IsTrue priced → AreAlikeBut moved.flags cost.times t.times

-- the times are the rows' least ones, and what these cost is kept
pub record IsCosted (net : Net) (rows : RowsValue) (t : KeptTimetableValue) (kept : KeptCostValue) : Type 0 where
  pub least : IsLeast net rows t.times
  pub early : AreBelowLimit t.times
  pub no_cycle : HasNoCycle net rows
  pub times : kept.times ≡ t.times
  pub priced : IsPricedFor net rows (is_lost_change net rows) kept

abbrev pub IsSettledIf : Net → RowsValue → KeptTimetableValue → KeptCostValue → Bool → Type 0
IsSettledIf net rows t kept settled = IsTrue settled → IsCosted net rows t kept

-- the rows and the timetable are of the network, what is known of them is so
pub record AreCheckedRowsOf (net : Net) (d : CheckedRowsValue) : Type 0 where
  pub sized : IsSized net d.rows
  pub free : IsKnownFree net d.rows d.is_free
  pub schedule : IsScheduleOf net d.schedule
  pub room : IsRoomOf net d.timetable
  pub kept : IsKept net d.rows d.timetable d.is_kept
  pub cost : IsKeptCostOf net d.kept_cost
  pub priced : IsPriced net d.rows d.kept_cost d.is_priced
  pub noted : IsNoted d.timetable d.kept_cost d.moved d.is_priced
  pub as_many_moved : length d.moved.flags ≡ length net.events
  pub settled : IsSettledIf net d.rows d.timetable d.kept_cost d.is_settled
