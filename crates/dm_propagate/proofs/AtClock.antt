-- Floors at one clock and at another.
use Rattle.std.proofs.Common.{◌≡◌, ℕ, ◌≤◌, Bool, true, List, Option, Some, None, refl, sym, subst, ◌∙◌, arith}
use Rattle.std.specs.Prelude.{unwrap_or, max, is_some}
use Rattle.dm_network.specs.Net.{Net}
use Rattle.dm_rows.specs.Resolve.{after_change}
use Rattle.dm_rows.specs.Rows.{RowsValue, passed_at}
use Rattle.dm_rows.specs.Timetable.{planned_time}
use Rattle.dm_rows.specs.declared.messages.Change.{Change}
use Rattle.dm_rows.specs.declared.messages.Change.TheVariants.{EventDelay, ActDelay, Passed, Recalled, Flipped, Adopted, Clock, Cancelled, Restored, Locked, Unlocked}
use Rattle.dm_settle.specs.Constraints.{ConstraintsValue}
use Rattle.dm_propagate.specs.Engine.{FollowsRows}
use Rattle.dm_propagate.specs.Inside.Changing.{AreFloorsAt, HaveFloorsFrom, FloorsStay, FollowsAt}
use Rattle.dm_propagate.specs.Inside.Flags.{FixesPassed}

later_of_either : (planned earlier clock : ℕ) → earlier ≤ clock → clock ≤ max planned earlier → max planned earlier ≡ max planned clock
later_of_either planned earlier clock up above = omega arith

-- a floor that is the later clock or more is the same at both
stands : (passed : Option ℕ) (planned earlier clock : ℕ) → earlier ≤ clock → clock ≤ unwrap_or passed (max planned earlier) →
    unwrap_or passed (max planned earlier) ≡ unwrap_or passed (max planned clock)
stands None planned earlier clock up above = later_of_either planned earlier clock up above
stands (Some t) planned earlier clock up above = refl

pub floors_from : (net : Net) (rows : RowsValue) (earlier : ℕ) (given : ConstraintsValue) → earlier ≤ rows.clock → AreFloorsAt net rows earlier given →
    HaveFloorsFrom net rows rows.clock given
floors_from net rows earlier given up at i lt above =
    at i lt ∙ stands (passed_at rows i) (planned_time net rows i) earlier rows.clock up (subst (λ (f : ℕ). rows.clock ≤ f) (at i lt) above)

-- a timetable that follows rows follows those after a change at the clock before it
pub at_clock_before : (net : Net) (rows : RowsValue) (change : Change) (given : ConstraintsValue) → FollowsRows net rows given →
    FollowsAt net (after_change rows change) change rows.clock given
at_clock_before net rows (EventDelay i d) given follows = tt
at_clock_before net rows (ActDelay a d) given follows = tt
at_clock_before net rows (Passed i t) given follows = tt
at_clock_before net rows (Recalled i) given follows = tt
at_clock_before net rows (Flipped flip) given follows = tt
at_clock_before net rows (Adopted flips) given follows = tt
at_clock_before net rows (Clock t) given follows = follows.floors
at_clock_before net rows (Cancelled i) given follows = tt
at_clock_before net rows (Restored i) given follows = tt
at_clock_before net rows (Locked spot) given follows = tt
at_clock_before net rows (Unlocked spot) given follows = tt

-- one that follows the rows after a change at a clock follows those before it at the same
pub at_clock_after : (net : Net) (rows : RowsValue) (change : Change) (clock : ℕ) (given : ConstraintsValue) →
    FollowsAt net (after_change rows change) change clock given → FollowsAt net rows change clock given
at_clock_after net rows (EventDelay i d) clock given at = tt
at_clock_after net rows (ActDelay a d) clock given at = tt
at_clock_after net rows (Passed i t) clock given at = tt
at_clock_after net rows (Recalled i) clock given at = tt
at_clock_after net rows (Flipped flip) clock given at = tt
at_clock_after net rows (Adopted flips) clock given at = tt
at_clock_after net rows (Clock t) clock given at = at
at_clock_after net rows (Cancelled i) clock given at = tt
at_clock_after net rows (Restored i) clock given at = tt
at_clock_after net rows (Locked spot) clock given at = tt
at_clock_after net rows (Unlocked spot) clock given at = tt

-- the same of rows and of a clock that are read
module _ (net : Net) (rows other : RowsValue) (change : Change) (other_is : other ≡ after_change rows change) (given : ConstraintsValue) (clock : ℕ) where
  pub other_at_clock : clock ≡ rows.clock → FollowsRows net rows given → FollowsAt net other change clock given
  other_at_clock clock_is follows =
      subst (λ (t : ℕ). FollowsAt net other change t given) (sym clock_is)
      (subst (λ (r : RowsValue). FollowsAt net r change rows.clock given) (sym other_is) (at_clock_before net rows change given follows))

  pub rows_at_clock : clock ≡ other.clock → FollowsAt net other change other.clock given → FollowsAt net rows change clock given
  rows_at_clock clock_is at =
      subst (λ (t : ℕ). FollowsAt net rows change t given) (sym clock_is)
      (at_clock_after net rows change other.clock given (subst (λ (r : RowsValue). FollowsAt net r change other.clock given) other_is at))

-- a fixed event has the same floor at any clock
fixed_floor : (passed : Option ℕ) (x y : ℕ) → is_some passed ≡ true → unwrap_or passed x ≡ unwrap_or passed y
fixed_floor None x y some = absurd cc
fixed_floor (Some t) x y some = refl

pub floors_stay : (net : Net) (rows : RowsValue) (earlier : ℕ) (given : ConstraintsValue) (fixed : List Bool) → FixesPassed rows fixed →
    AreFloorsAt net rows earlier given → FloorsStay net rows given fixed
floors_stay net rows earlier given fixed passed at i lt on =
    at i lt ∙ fixed_floor (passed_at rows i) (max (planned_time net rows i) earlier) (max (planned_time net rows i) rows.clock) (sym (passed i) ∙ on)
