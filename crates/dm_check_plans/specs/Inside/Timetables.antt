-- Times that follow what is held.
use Rattle.std.specs.Prelude.{ℕ, ◌^◌, List, Bool}
use Rattle.dm_network.specs.Net.{Net}
use Rattle.dm_rows.specs.Rows.{RowsValue}
use Rattle.dm_check_times.specs.Binding.{AreBindings}
use Rattle.dm_check_times.specs.Timetables.{KeptTimetableValue, AreAtMost, AreLeastFor}
use Rattle.dm_check_times.specs.Timetables.{IsRoomOf as IsKeptRoomOf, IsTimetableOf as IsKeptTimetableOf, AreOfRows as IsKeptOfRows, KeepsSpans as KeepsKeptSpans}

-- flags of activities, and times for these
pub record KnownValue : Type 0 where
  pub held : List Bool
  pub times : List ℕ

-- the times are the least where the flagged activities are held, with the spans over the floors of the timetable
abbrev pub IsKnown : Net → KeptTimetableValue → KnownValue → Type 0
IsKnown net kept known = AreLeastFor net kept.spans kept.floors known.held known.times

-- a timetable of what is held, and times of what was held first
pub record HeldTimetableValue : Type 0 where
  pub kept : KeptTimetableValue
  pub first : KnownValue

-- the lists are as long as the network's, and the first times are least for what was held first
pub record IsRoomOf (net : Net) (t : HeldTimetableValue) : Type 0 where
  pub room : IsKeptRoomOf net t.kept
  pub bindings : AreBindings net t.kept.held t.kept.spans
  pub early_floors : AreAtMost t.kept.floors (2 ^ 38)
  pub first : IsKnown net t.kept t.first

-- the times were least for what was held before, and what has changed since then is stale and due
pub record IsTimetableOf (net : Net) (t : HeldTimetableValue) : Type 0 where
  pub timetable : IsKeptTimetableOf net t.kept
  pub first : IsKnown net t.kept t.first

-- the spans and the floors are those of the rows
abbrev pub AreOfRows : Net → RowsValue → HeldTimetableValue → Type 0
AreOfRows net rows t = IsKeptOfRows net rows t.kept

-- the spans and the floors are those of before
abbrev pub KeepsSpans : HeldTimetableValue → HeldTimetableValue → Type 0
KeepsSpans old new = KeepsKeptSpans old.kept new.kept
