-- What the rows hold a network to, as far as it has been filled in.
use Rattle.std.specs.Prelude.{ℕ, ◌≡◌, ◌<◌, Bool, length, slice_index}
use Rattle.dm_network.specs.Net.{Net}
use Rattle.dm_network.specs.Held.{is_held}
use Rattle.dm_rows.specs.Rows.{RowsValue}
use Rattle.dm_rows.specs.Timetable.{floor_of, span_of}
use Rattle.dm_settle.specs.Constraints.{ConstraintsValue}

-- of the first n activities these are held, and each has its span; all else is as before
pub record ActivitiesTo (net : Net) (rows : RowsValue) (held_to : ℕ → Bool) (n : ℕ) (before after : ConstraintsValue) : Type 0 where
  pub flags : length after.held ≡ length before.held
  pub as_many_spans : length after.spans ≡ length before.spans
  pub held : (a : ℕ) → a < n → is_held after.held a ≡ held_to a
  pub spans : (a : ℕ) → a < n → slice_index after.spans a ≡ span_of net rows a
  pub floors : after.floors ≡ before.floors

-- the first n events have their floors, and all else is as before
pub record FloorsTo (net : Net) (rows : RowsValue) (n : ℕ) (before after : ConstraintsValue) : Type 0 where
  pub size : length after.floors ≡ length before.floors
  pub each : (i : ℕ) → i < n → slice_index after.floors i ≡ floor_of net rows i
  pub held : after.held ≡ before.held
  pub spans : after.spans ≡ before.spans
