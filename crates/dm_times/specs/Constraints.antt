-- What rows and the activities that are held hold the events of a network to.
use Rattle.std.specs.Prelude.{ℕ, ◌≡◌, ◌<◌, Bool, length, slice_index}
use Rattle.dm_network.specs.Net.{Net}
use Rattle.dm_network.specs.Held.{is_held}
use Rattle.dm_rows.specs.Active.{is_active}
use Rattle.dm_rows.specs.Rows.{RowsValue}
use Rattle.dm_rows.specs.Timetable.{floor_of, span_of}
use Rattle.dm_settle.specs.Constraints.{ConstraintsValue, IsSizedFor}

-- these activities are held, floors are the rows', and spans are lower bounds with delays
pub record AreConstraintsHolding (net : Net) (rows : RowsValue) (held_to : ℕ → Bool) (given : ConstraintsValue) : Type 0 where
  pub sized : IsSizedFor net given
  pub held : (a : ℕ) → a < length net.activities → is_held given.held a ≡ held_to a
  pub floors : (i : ℕ) → i < length net.events → slice_index given.floors i ≡ floor_of net rows i
  pub spans : (a : ℕ) → a < length net.activities → slice_index given.spans a ≡ span_of net rows a

-- the active activities are held
abbrev pub AreConstraintsOf : Net → RowsValue → ConstraintsValue → Type 0
AreConstraintsOf net rows given = AreConstraintsHolding net rows (is_active net rows) given
