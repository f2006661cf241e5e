-- A timetable that is made for the relaxed problem in which nothing is decided.
use Rattle.std.specs.Prelude.{ℕ, ◌≡◌, ◌<◌, ◌≤◌, Bool, false, List, []}
use Rattle.dm_network.specs.Net.{Net}
use Rattle.dm_network.specs.Held.{IsCycleOf}
use Rattle.dm_live.specs.Live.{LiveValue, IsLive, IsAtRest, NoneFixed}
use Rattle.dm_priced.specs.Priced.{PricedValue, is_flagged}
use Rattle.dm_rows.specs.Active.{has_passed}
use Rattle.dm_rows.specs.Relax.{is_relaxed_active, is_relaxed_lost}
use Rattle.dm_rows.specs.Rows.{RowsValue, is_cancelled}
use Rattle.dm_times.specs.Constraints.{AreConstraintsHolding}
use Rattle.dm_evaluate.specs.Evaluating.{Evaluates}

-- a live timetable is held to what binds
pub record IsHeldToRoot (net : Net) (rows : RowsValue) (made : LiveValue) : Type 0 where
  pub live : IsLive net made
  pub none_fixed : NoneFixed made.fixed
  pub held : AreConstraintsHolding net rows (is_relaxed_active net rows []) made.given

-- what binds has a cycle
pub record HasRootCycle (net : Net) (rows : RowsValue) : Type 0 where
  pub cycle : List ℕ
  pub is_cycle : IsCycleOf net (is_relaxed_active net rows []) cycle

-- the first n events are flagged where they have passed
abbrev pub HasPassedTo : RowsValue → ℕ → List Bool → Type 0
HasPassedTo rows n passed = (i : ℕ) → i < n → is_flagged passed i ≡ has_passed rows i

-- the first n events are flagged where they are cancelled
abbrev pub HasCancelledTo : RowsValue → ℕ → List Bool → Type 0
HasCancelledTo rows n cancelled = (i : ℕ) → i < n → is_flagged cancelled i ≡ is_cancelled rows i

-- of the first n activities those are charged for that are lost where nothing is decided
abbrev pub ChargesLostTo : Net → RowsValue → ℕ → List Bool → Type 0
ChargesLostTo net rows n charged = (a : ℕ) → a < n → is_flagged charged a ≡ is_relaxed_lost net rows [] a

-- the first n places are flagged where the test passes, and no other place is
pub record FlagsOnlyTo (test : ℕ → Bool) (n : ℕ) (flags : List Bool) : Type 0 where
  pub before : (k : ℕ) → k < n → is_flagged flags k ≡ test k
  pub none : (k : ℕ) → n ≤ k → is_flagged flags k ≡ false

-- a timetable evaluates the path without a decision, and is at rest
pub record IsRoot (net : Net) (rows : RowsValue) (priced : PricedValue) : Type 0 where
  pub evaluates : Evaluates net rows [] priced
  pub at_rest : IsAtRest priced.live
