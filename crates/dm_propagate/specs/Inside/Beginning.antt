-- The timetable of an engine at first.
use Rattle.std.specs.Prelude.{ℕ, ◌≡◌, ◌<◌, ◌≤◌, Bool, false, List}
use Rattle.dm_live.specs.Live.{LiveValue, IsLive, IsAtRest}
use Rattle.dm_network.specs.Net.{Net}
use Rattle.dm_rows.specs.Active.{has_passed}
use Rattle.dm_rows.specs.Rows.{RowsValue}
use Rattle.dm_priced.specs.Priced.{PricedValue, IsPriced, is_flagged}
use Rattle.dm_propagate.specs.Engine.{FollowsRows}
use Rattle.dm_propagate.specs.Inside.Flags.{flags_of, AreFlagsOf, FixesPassed}

-- a timetable follows the rows and is at rest
pub record IsSettledFor (net : Net) (rows : RowsValue) (kept : LiveValue) : Type 0 where
  pub live : IsLive net kept
  pub at_rest : IsAtRest kept
  pub follows : FollowsRows net rows kept.given
  pub fixed : FixesPassed rows kept.fixed

-- so does a priced one, and its flags are those of the rows
pub record IsAtRestFor (net : Net) (rows : RowsValue) (kept : PricedValue) : Type 0 where
  pub priced : IsPriced net kept
  pub at_rest : IsAtRest kept.live
  pub follows : FollowsRows net rows kept.live.given
  pub flags : AreFlagsOf net rows (flags_of kept)

-- no flag is set
abbrev pub NoneFlagged : List Bool → Type 0
NoneFlagged flags = (k : ℕ) → is_flagged flags k ≡ false

-- of the places before one those are flagged that pass, and from it on none
pub record AreFlaggedBefore (p : ℕ → Bool) (n : ℕ) (flags : List Bool) : Type 0 where
  pub before : (k : ℕ) → k < n → is_flagged flags k ≡ p k
  pub behind : (k : ℕ) → n ≤ k → is_flagged flags k ≡ false

-- a timetable follows the rows, and of the events before one those are fixed that have passed, and from it on none
pub record IsFixedBefore (net : Net) (rows : RowsValue) (n : ℕ) (kept : LiveValue) : Type 0 where
  pub live : IsLive net kept
  pub follows : FollowsRows net rows kept.given
  pub fixed : AreFlaggedBefore (has_passed rows) n kept.fixed
