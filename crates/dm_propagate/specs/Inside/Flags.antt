-- The flags of a priced timetable: which of them a change concerns, and what is left of them while it is made.
use Rattle.std.specs.Prelude.{ℕ, ◌≡◌, ◌<◌, ◌⊎◌, Bool, true, false, List, length, slice_set}
use Rattle.dm_network.specs.Net.{Net, activity_at}
use Rattle.dm_rows.specs.Active.{has_passed}
use Rattle.dm_rows.specs.Cost.{is_lost_change}
use Rattle.dm_rows.specs.Rows.{RowsValue, is_cancelled}
use Rattle.dm_rows.specs.declared.messages.Flip.{Flip}
use Rattle.dm_rows.specs.declared.messages.Flip.TheVariants.{Keep, Drop, First}
use Rattle.dm_rows.specs.declared.messages.Change.{Change}
use Rattle.dm_rows.specs.declared.messages.Change.TheVariants.{EventDelay, ActDelay, Passed, Recalled, Flipped, Adopted, Clock, Cancelled, Restored, Locked, Unlocked}
use Rattle.dm_live.specs.Live.{is_fixed}
use Rattle.dm_priced.specs.Priced.{PricedValue, is_flagged}
use Rattle.dm_propagate.specs.Inside.Concern.{IsOfOneBefore}

-- the events that have passed, those that are cancelled, the activities that are charged for, and the events whose times are fixed
pub record FlagsValue : Type 0 where
  pub passed : List Bool
  pub cancelled : List Bool
  pub charged : List Bool
  pub fixed : List Bool

abbrev pub flags_of : PricedValue → FlagsValue
flags_of priced =
    record { passed = priced.passed; cancelled = priced.cancelled; charged = priced.charged; fixed = priced.live.fixed }

-- each event is fixed that has passed, and no other
abbrev pub FixesPassed : RowsValue → List Bool → Type 0
FixesPassed rows fixed = (i : ℕ) → is_fixed fixed i ≡ has_passed rows i

-- no event is fixed that has not passed
abbrev pub FixesNoOther : RowsValue → List Bool → Type 0
FixesNoOther rows fixed = (i : ℕ) → has_passed rows i ≡ false → is_fixed fixed i ≡ false

-- no event is fixed but this one and those that have passed
abbrev pub FixesNoOtherBut : RowsValue → ℕ → List Bool → Type 0
FixesNoOtherBut rows e fixed = (i : ℕ) → has_passed rows i ≡ false → (is_fixed fixed i ≡ false) ⊎ (i ≡ e)

-- they are those of rows
pub record AreFlagsOf (net : Net) (rows : RowsValue) (flags : FlagsValue) : Type 0 where
  pub fixed : FixesPassed rows flags.fixed
  pub passed : (i : ℕ) → i < length net.events → is_flagged flags.passed i ≡ has_passed rows i
  pub cancelled : (i : ℕ) → i < length net.events → is_flagged flags.cancelled i ≡ is_cancelled rows i
  pub charged : (a : ℕ) → a < length net.activities → is_flagged flags.charged a ≡ is_lost_change net rows a

-- the change passes, recalls, cancels or restores the event
abbrev pub MovesPass : Change → ℕ → Type 0
MovesPass (EventDelay e d) i = ⊥
MovesPass (ActDelay a d) i = ⊥
MovesPass (Passed e t) i = i ≡ e
MovesPass (Recalled e) i = i ≡ e
MovesPass (Flipped flip) i = ⊥
MovesPass (Adopted flips) i = ⊥
MovesPass (Clock t) i = ⊥
MovesPass (Cancelled e) i = i ≡ e
MovesPass (Restored e) i = i ≡ e
MovesPass (Locked spot) i = ⊥
MovesPass (Unlocked spot) i = ⊥

-- the flip keeps or drops the activity
abbrev pub IsNamed : Flip → ℕ → Type 0
IsNamed (Keep a) b = b ≡ a
IsNamed (Drop a) b = b ≡ a
IsNamed (First p small) b = ⊥

-- the event is cancelled in the rows, or is flagged so
abbrev pub IsOut : RowsValue → List Bool → ℕ → Type 0
IsOut rows cancelled i = (is_cancelled rows i ≡ true) ⊎ (is_flagged cancelled i ≡ true)

-- the activity leads out of the event, which is one of these; or into it
abbrev pub LeadsOut : Net → (ℕ → Type 0) → ℕ → ℕ → Type 0
LeadsOut net out i b = ((activity_at net b).tail ≡ i) × out i

abbrev pub LeadsPast : Net → (ℕ → Type 0) → ℕ → ℕ → Type 0
LeadsPast net out i b = ((activity_at net b).head ≡ i) ⊎ LeadsOut net out i b

-- the change may make the activity one that is charged for, or take that away, where these events are or were cancelled
abbrev pub MovesCharge : Net → (ℕ → Type 0) → Change → ℕ → Type 0
MovesCharge net out (EventDelay i d) b = ⊥
MovesCharge net out (ActDelay a d) b = ⊥
MovesCharge net out (Passed i t) b = LeadsPast net out i b
MovesCharge net out (Recalled i) b = LeadsPast net out i b
MovesCharge net out (Cancelled i) b = LeadsPast net out i b
MovesCharge net out (Restored i) b = LeadsPast net out i b
MovesCharge net out (Locked spot) b = ⊥
MovesCharge net out (Unlocked spot) b = ⊥
MovesCharge net out (Flipped flip) b = IsNamed flip b
MovesCharge net out (Adopted flips) b = IsOfOneBefore IsNamed flips (length flips) b
MovesCharge net out (Clock t) b = ⊥

-- they are those of rows, but for what the change concerns
pub record AreFlagsBut (net : Net) (rows : RowsValue) (change : Change) (flags : FlagsValue) : Type 0 where
  pub fixed : (i : ℕ) → (is_fixed flags.fixed i ≡ has_passed rows i) ⊎ MovesPass change i
  pub passed : (i : ℕ) → i < length net.events → (is_flagged flags.passed i ≡ has_passed rows i) ⊎ MovesPass change i
  pub cancelled : (i : ℕ) → i < length net.events → (is_flagged flags.cancelled i ≡ is_cancelled rows i) ⊎ MovesPass change i
  pub charged : (a : ℕ) → a < length net.activities → (is_flagged flags.charged a ≡ is_lost_change net rows a)
      ⊎ MovesCharge net (IsOut rows flags.cancelled) change a

-- Where each activity was charged for as the rows have it or is one of these, each is as the rows have it.
abbrev pub Charges : Net → RowsValue → (ℕ → Type 0) → List Bool → List Bool → Type 0
Charges net rows some before after =
    (a : ℕ) → a < length net.activities → (is_flagged before a ≡ is_lost_change net rows a) ⊎ some a →
    is_flagged after a ≡ is_lost_change net rows a

-- the event and the activities into it have the flags of the rows, and where it is or was cancelled those out of it too
pub record SetsFlagsAt (net : Net) (rows : RowsValue) (i : ℕ) (before after : FlagsValue) : Type 0 where
  pub passed : after.passed ≡ slice_set before.passed i (has_passed rows i)
  pub cancelled : after.cancelled ≡ slice_set before.cancelled i (is_cancelled rows i)
  pub charged : Charges net rows (LeadsPast net (IsOut rows before.cancelled) i) before.charged after.charged

-- the activities that flips name have the flags of the rows
pub record SetsFlagsBy (net : Net) (rows : RowsValue) (flips : List Flip) (before after : FlagsValue) : Type 0 where
  pub fixed : after.fixed ≡ before.fixed
  pub passed : after.passed ≡ before.passed
  pub cancelled : after.cancelled ≡ before.cancelled
  pub charged : Charges net rows (IsOfOneBefore IsNamed flips (length flips)) before.charged after.charged
