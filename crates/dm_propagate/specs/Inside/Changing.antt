-- What a change leaves of a timetable that is brought to follow the rows, and which events are marked then.
use Rattle.std.specs.Prelude.{ℕ, ◌≡◌, ◌≢◌, ◌+◌, ◌<◌, ◌≤◌, ◌⊎◌, true, Bool, List, Some, None, length, slice_index, slice_set}
use Rattle.dm_network.specs.Net.{Net, activity_at}
use Rattle.dm_network.specs.Held.{is_held}
use Rattle.dm_rows.specs.Active.{is_active, IsCycle}
use Rattle.dm_rows.specs.Rows.{RowsValue, passed_at, is_cancelled}
use Rattle.dm_rows.specs.Timetable.{floor_of}
use Rattle.dm_rows.specs.Touch.{IsActiveBetween}
use Rattle.dm_rows.specs.declared.messages.Change.{Change}
use Rattle.dm_rows.specs.declared.messages.Change.TheVariants.{EventDelay, ActDelay, Passed, Recalled, Flipped, Adopted, Clock, Cancelled, Restored, Locked, Unlocked}
use Rattle.dm_settle.specs.Constraints.{ConstraintsValue, arcs_given}
use Rattle.dm_marks.specs.Marked.{is_marked}
use Rattle.dm_live.specs.Live.{LiveValue, IsFixed, is_fixed}
use Rattle.dm_propagate.specs.Inside.Noting.{KeepsTimesBut}
use Rattle.dm_propagate.specs.Inside.Turning.{IsLetGoAt, IsTakenUpAt}

-- the event's floor by the rows lies below the one that it has, or above its time
abbrev pub IsOffFloor : Net → RowsValue → LiveValue → ℕ → Type 0
IsOffFloor net rows before i =
    (floor_of net rows i < slice_index before.given.floors i) ⊎ (slice_index before.times i < floor_of net rows i)

-- each event has the floor that the rows give it at a clock
abbrev pub AreFloorsAt : Net → RowsValue → ℕ → ConstraintsValue → Type 0
AreFloorsAt net rows clock given =
    (i : ℕ) → i < length net.events → slice_index given.floors i ≡ floor_of net (record rows { clock = clock }) i

-- each event whose floor is a clock or later has the floor that the rows give it
abbrev pub HaveFloorsFrom : Net → RowsValue → ℕ → ConstraintsValue → Type 0
HaveFloorsFrom net rows clock given =
    (i : ℕ) → i < length net.events → clock ≤ slice_index given.floors i → slice_index given.floors i ≡ floor_of net rows i

-- each fixed event has the floor that the rows give it
abbrev pub FloorsStay : Net → RowsValue → ConstraintsValue → List Bool → Type 0
FloorsStay net rows given fixed = (i : ℕ) → i < length net.events → is_fixed fixed i ≡ true →
    slice_index given.floors i ≡ floor_of net rows i

-- where a change moves the clock, the floors are those of the rows at a clock
abbrev pub FollowsAt : Net → RowsValue → Change → ℕ → ConstraintsValue → Type 0
FollowsAt net rows (EventDelay i d) clock given = Unit {0}
FollowsAt net rows (ActDelay a d) clock given = Unit {0}
FollowsAt net rows (Passed i t) clock given = Unit {0}
FollowsAt net rows (Recalled i) clock given = Unit {0}
FollowsAt net rows (Cancelled i) clock given = Unit {0}
FollowsAt net rows (Restored i) clock given = Unit {0}
FollowsAt net rows (Locked spot) clock given = Unit {0}
FollowsAt net rows (Unlocked spot) clock given = Unit {0}
FollowsAt net rows (Flipped flip) clock given = Unit {0}
FollowsAt net rows (Adopted flips) clock given = Unit {0}
FollowsAt net rows (Clock t) clock given = AreFloorsAt net rows clock given

-- Of the first n events each has its floor by the rows, and those whose floor is off are marked; all else stays.
pub record HasFloors (net : Net) (rows : RowsValue) (n : ℕ) (before after : LiveValue) : Type 0 where
  pub held : after.given.held ≡ before.given.held
  pub spans : after.given.spans ≡ before.given.spans
  pub times : after.times ≡ before.times
  pub cycle : after.order.cycle ≡ before.order.cycle
  pub floors : (i : ℕ) → i < n → slice_index after.given.floors i ≡ floor_of net rows i
  pub others : (i : ℕ) → n ≤ i → slice_index after.given.floors i ≡ slice_index before.given.floors i
  pub marked : (e : ℕ) → is_marked after.marks e ≡ true → (is_marked before.marks e ≡ true) ⊎ ((e < n) × IsOffFloor net rows before e)

-- One event has its floor by the rows, and where it has passed or is cancelled its time too; all else stays. Its row is read if
-- its time differs.
pub record HasPlace (net : Net) (rows : RowsValue) (i : ℕ) (before after : LiveValue) (first last : ℕ) : Type 0 where
  pub held : after.given.held ≡ before.given.held
  pub spans : after.given.spans ≡ before.given.spans
  pub cycle : after.order.cycle ≡ before.order.cycle
  pub floors : after.given.floors ≡ slice_set before.given.floors i (floor_of net rows i)
  pub times : KeepsTimesBut (λ e. e ≡ i) before.times after.times
  pub fixed : (t : ℕ) → passed_at rows i ≡ Some t → IsFixed (arcs_given net before.given) i t before after first last
  pub alone : passed_at rows i ≡ None → is_cancelled rows i ≡ true →
      IsFixed (arcs_given net before.given) i (floor_of net rows i) before after first last

-- The event has passed and has its time. Marked are heads of active activities out of it, heads of activities that were
-- held and are not active, and heads of active activities that were not held. Two rows are read, and a third if the time
-- differs.
pub record HasPassed (net : Net) (rows : RowsValue) (i t : ℕ) (before after : LiveValue) (first last : ℕ) : Type 0 where
  pub times : after.times ≡ slice_set before.times i t
  pub marked : (e : ℕ) → is_marked after.marks e ≡ true →
      (e ≢ i) × (((is_marked before.marks e ≡ true) ⊎ IsActiveBetween net rows i e)
      ⊎ (IsLetGoAt net rows before e ⊎ IsTakenUpAt net rows before e))
  pub stays : slice_index before.times i ≡ t → last ≡ first + 2
  pub moves : slice_index before.times i ≢ t → last ≡ first + 3

-- The event is cancelled and has the time that it has by itself. Marked are heads of activities that were held and are not
-- active, and heads of active activities that were not held. Two rows are read, and a third if the time differs.
pub record IsTakenOut (net : Net) (rows : RowsValue) (i : ℕ) (before after : LiveValue) (first last : ℕ) : Type 0 where
  pub times : after.times ≡ slice_set before.times i (floor_of net rows i)
  pub marked : (e : ℕ) → is_marked after.marks e ≡ true →
      (e ≢ i) × ((is_marked before.marks e ≡ true) ⊎ (IsLetGoAt net rows before e ⊎ IsTakenUpAt net rows before e))
  pub stays : slice_index before.times i ≡ floor_of net rows i → last ≡ first + 2
  pub moves : slice_index before.times i ≢ floor_of net rows i → last ≡ first + 3

-- no row is read, the times stay, and marked are only some events besides
pub record MarksOnly (some : ℕ → Type 0) (before after : LiveValue) (first last : ℕ) : Type 0 where
  pub times : after.times ≡ before.times
  pub marked : (e : ℕ) → is_marked after.marks e ≡ true → (is_marked before.marks e ≡ true) ⊎ some e
  pub steps : last ≡ first

-- which events a change marks, and how many rows it reads before the times are computed
abbrev pub MarksFor : Net → RowsValue → Change → LiveValue → LiveValue → ℕ → ℕ → Type 0
MarksFor net rows (EventDelay i d) before after first last = MarksOnly (λ e. e ≡ i) before after first last
MarksFor net rows (ActDelay a d) before after first last = MarksOnly (λ e. e ≡ (activity_at net a).head) before after first last
MarksFor net rows (Passed i t) before after first last = (time : ℕ) → passed_at rows i ≡ Some time →
    HasPassed net rows i time before after first last
MarksFor net rows (Cancelled i) before after first last = is_cancelled rows i ≡ true → IsTakenOut net rows i before after first last
MarksFor net rows (Recalled i) before after first last = Unit {0}
MarksFor net rows (Restored i) before after first last = Unit {0}
MarksFor net rows (Locked spot) before after first last = MarksOnly (λ e. ⊥) before after first last
MarksFor net rows (Unlocked spot) before after first last = MarksOnly (λ e. ⊥) before after first last
MarksFor net rows (Flipped flip) before after first last = Unit {0}
MarksFor net rows (Adopted flips) before after first last = Unit {0}
MarksFor net rows (Clock t) before after first last =
    MarksOnly (λ e. (e < length net.events) × IsOffFloor net rows before e) before after first last

-- Where each activity was held as it is active or is one of these, each is held as it is active, and spans stay.
pub record Turns (net : Net) (rows : RowsValue) (some : ℕ → Type 0) (before after : LiveValue) : Type 0 where
  pub held : (a : ℕ) → a < length net.activities → (is_held before.given.held a ≡ is_active net rows a) ⊎ some a →
      is_held after.given.held a ≡ is_active net rows a
  pub spans : after.given.spans ≡ before.given.spans
  pub cycle : after.order.cycle ≡ before.order.cycle

-- Where each activity was held as it is active or is one of these, this is so still, spans stay, and the rows have the cycle.
pub record IsTurnRefused (net : Net) (rows : RowsValue) (some : ℕ → Type 0) (before after : LiveValue) : Type 0 where
  pub held : (a : ℕ) → a < length net.activities → (is_held before.given.held a ≡ is_active net rows a) ⊎ some a →
      (is_held after.given.held a ≡ is_active net rows a) ⊎ some a
  pub spans : after.given.spans ≡ before.given.spans
  pub cycle : ((a : ℕ) → a < length net.activities → (is_held before.given.held a ≡ is_active net rows a) ⊎ some a) →
      IsCycle net rows after.order.cycle
