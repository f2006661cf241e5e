-- Which activities, floors and spans a change concerns.
use Rattle.std.specs.Prelude.{ℕ, ◌≡◌, ◌<◌, ◌⊎◌, false, List, length, slice_index, slice_get, Some}
use Rattle.dm_network.specs.Net.{Net, activity_at, pair_at}
use Rattle.dm_network.specs.Held.{is_held}
use Rattle.dm_rows.specs.declared.messages.Flip.{Flip}
use Rattle.dm_rows.specs.declared.messages.Flip.TheVariants.{Keep, Drop, First}
use Rattle.dm_rows.specs.declared.messages.Change.{Change}
use Rattle.dm_rows.specs.declared.messages.Change.TheVariants.{EventDelay, ActDelay, Passed, Recalled, Flipped, Adopted, Clock, Cancelled, Restored, Locked, Unlocked}
use Rattle.dm_rows.specs.Active.{has_passed, is_active}
use Rattle.dm_rows.specs.Rows.{RowsValue}
use Rattle.dm_rows.specs.Timetable.{floor_of, span_of}
use Rattle.dm_settle.specs.Constraints.{ConstraintsValue}

-- the activity leads into the event or out of it
abbrev pub LeadsAt : Net → ℕ → ℕ → Type 0
LeadsAt net i b = ((activity_at net b).head ≡ i) ⊎ ((activity_at net b).tail ≡ i)

-- the activity is the change that is decided, or leads out of an event of the pair that is
abbrev pub IsDecided : Net → Flip → ℕ → Type 0
IsDecided net (Keep a) b = b ≡ a
IsDecided net (Drop a) b = b ≡ a
IsDecided net (First p small) b =
    ((activity_at net b).tail ≡ (pair_at net p).small) ⊎ ((activity_at net b).tail ≡ (pair_at net p).large)

-- one of the first n flips decides about the activity, in this sense
pub record IsOfOneBefore (decides : Flip → ℕ → Type 0) (flips : List Flip) (n : ℕ) (b : ℕ) : Type 0 where
  pub flip : Flip
  pub place : ℕ
  pub before : place < n
  pub there : slice_get flips place ≡ Some flip
  pub decided : decides flip b

abbrev pub IsDecidedBefore : Net → List Flip → ℕ → ℕ → Type 0
IsDecidedBefore net flips n b = IsOfOneBefore (IsDecided net) flips n b

-- the change may make the activity active, or take that away
abbrev pub IsConcerned : Net → Change → ℕ → Type 0
IsConcerned net (EventDelay i d) b = ⊥
IsConcerned net (ActDelay a d) b = ⊥
IsConcerned net (Passed i t) b = LeadsAt net i b
IsConcerned net (Recalled i) b = LeadsAt net i b
IsConcerned net (Flipped flip) b = IsDecided net flip b
IsConcerned net (Adopted flips) b = IsDecidedBefore net flips (length flips) b
IsConcerned net (Clock t) b = ⊥
IsConcerned net (Cancelled i) b = LeadsAt net i b
IsConcerned net (Restored i) b = LeadsAt net i b
IsConcerned net (Locked spot) b = ⊥
IsConcerned net (Unlocked spot) b = ⊥

-- the change may move the floor of the event; a delay moves none of one that has passed, and a cancelling none
abbrev pub MovesFloor : RowsValue → Change → ℕ → Type 0
MovesFloor rows (EventDelay e d) i = (i ≡ e) × (has_passed rows i ≡ false)
MovesFloor rows (ActDelay a d) i = ⊥
MovesFloor rows (Passed e t) i = i ≡ e
MovesFloor rows (Recalled e) i = i ≡ e
MovesFloor rows (Flipped flip) i = ⊥
MovesFloor rows (Adopted flips) i = ⊥
MovesFloor rows (Clock t) i = Unit {0}
MovesFloor rows (Cancelled e) i = ⊥
MovesFloor rows (Restored e) i = ⊥
MovesFloor rows (Locked spot) i = ⊥
MovesFloor rows (Unlocked spot) i = ⊥

-- the change may move the span of the activity
abbrev pub MovesSpan : Change → ℕ → Type 0
MovesSpan (EventDelay i d) b = ⊥
MovesSpan (ActDelay a d) b = b ≡ a
MovesSpan (Passed i t) b = ⊥
MovesSpan (Recalled i) b = ⊥
MovesSpan (Flipped flip) b = ⊥
MovesSpan (Adopted flips) b = ⊥
MovesSpan (Clock t) b = ⊥
MovesSpan (Cancelled e) b = ⊥
MovesSpan (Restored e) b = ⊥
MovesSpan (Locked spot) b = ⊥
MovesSpan (Unlocked spot) b = ⊥

-- the active activities are held, and floors and spans are those of the rows, but for what the change concerns
pub record FollowsBut (net : Net) (rows : RowsValue) (change : Change) (given : ConstraintsValue) : Type 0 where
  pub held : (a : ℕ) → a < length net.activities → (is_held given.held a ≡ is_active net rows a) ⊎ IsConcerned net change a
  pub floors : (i : ℕ) → i < length net.events → (slice_index given.floors i ≡ floor_of net rows i) ⊎ MovesFloor rows change i
  pub spans : (a : ℕ) → a < length net.activities → (slice_index given.spans a ≡ span_of net rows a) ⊎ MovesSpan change a
