-- The floors of the events that are due by a clock, while they are renewed.
use Rattle.std.specs.Prelude.{ℕ, ◌≡◌, ◌<◌, ◌⊎◌, true, List, length, slice_index}
use Rattle.dm_network.specs.Net.{Net}
use Rattle.dm_rows.specs.Rows.{RowsValue}
use Rattle.dm_rows.specs.Timetable.{floor_of}
use Rattle.dm_settle.specs.Constraints.{ConstraintsValue}
use Rattle.dm_marks.specs.Marked.{is_marked}
use Rattle.dm_live.specs.Live.{LiveValue}
use Rattle.dm_propagate.specs.Inside.Changing.{IsOffFloor}
use Rattle.dm_schedule.specs.Schedule.{IsInFront}
use Rattle.dm_schedule.specs.declared.schedule.Scheduled.{Scheduled}

-- each event that is not due has the floor that the rows give it
abbrev pub HaveFloorsBut : Net → RowsValue → List Scheduled → ConstraintsValue → Type 0
HaveFloorsBut net rows due given =
    (i : ℕ) → i < length net.events → IsInFront due (length due) i ⊎ (slice_index given.floors i ≡ floor_of net rows i)

-- The first n of the due events have their floors by the rows, any other floor is as before or so too, and marked are events
-- whose floor is off; all else stays.
pub record RaisesFloors (net : Net) (rows : RowsValue) (due : List Scheduled) (n : ℕ) (before after : LiveValue) : Type 0 where
  pub held : after.given.held ≡ before.given.held
  pub spans : after.given.spans ≡ before.given.spans
  pub times : after.times ≡ before.times
  pub cycle : after.order.cycle ≡ before.order.cycle
  pub floors : (i : ℕ) → IsInFront due n i → slice_index after.given.floors i ≡ floor_of net rows i
  pub others : (i : ℕ) →
      (slice_index after.given.floors i ≡ slice_index before.given.floors i)
      ⊎ ((i < length net.events) × (slice_index after.given.floors i ≡ floor_of net rows i))
  pub marked : (e : ℕ) → is_marked after.marks e ≡ true → (is_marked before.marks e ≡ true)
      ⊎ ((e < length net.events) × IsOffFloor net rows before e)
