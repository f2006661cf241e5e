-- A timetable kept with rows, place by place.
use Rattle.std.specs.Prelude.{ℕ, ◌≡◌, ◌<◌, ◌⊎◌, Bool, true, false, List, length, slice_index}
use Rattle.dm_network.specs.Net.{Net, event_at, activity_at, pair_at}
use Rattle.dm_network.specs.Held.{is_held}
use Rattle.dm_rows.specs.Active.{is_active}
use Rattle.dm_rows.specs.Rows.{RowsValue}
use Rattle.dm_rows.specs.Timetable.{floor_of, span_of}
use Rattle.dm_rows.specs.declared.messages.Flip.{Flip}
use Rattle.dm_rows.specs.declared.messages.Flip.TheVariants.{Keep, Drop, First}
use Rattle.dm_rows.specs.declared.messages.Change.{Change}
use Rattle.dm_rows.specs.declared.messages.Change.TheVariants.{EventDelay, ActDelay, Passed, Recalled, Flipped, Adopted, Clock, Cancelled, Restored, Locked, Unlocked}
use Rattle.dm_schedule.specs.Schedule.{IsInFront}
use Rattle.dm_schedule.specs.declared.schedule.Scheduled.{Scheduled}
use Rattle.dm_check_times.specs.Timetables.{KeptTimetableValue, TakesClock}

-- the floor of the event, and what binds and the span of the activity, are those of the rows
abbrev pub FloorAgrees : Net → RowsValue → KeptTimetableValue → ℕ → Type 0
FloorAgrees net rows t e = slice_index t.floors e ≡ floor_of net rows e

abbrev pub ActivityAgrees : Net → RowsValue → KeptTimetableValue → ℕ → Type 0
ActivityAgrees net rows t a = (is_held t.held a ≡ is_active net rows a) × (slice_index t.spans a ≡ span_of net rows a)

-- the lists are as long, the clock and the times are the same, and what agreed with the rows still does
pub record KeepsAgreeing (net : Net) (rows : RowsValue) (old new : KeptTimetableValue) : Type 0 where
  pub held_size : length new.held ≡ length old.held
  pub spans_size : length new.spans ≡ length old.spans
  pub floors_size : length new.floors ≡ length old.floors
  pub clock : new.clock ≡ old.clock
  pub times : new.times ≡ old.times
  pub events : (e : ℕ) → FloorAgrees net rows old e → FloorAgrees net rows new e
  pub activities : (a : ℕ) → ActivityAgrees net rows old a → ActivityAgrees net rows new a

-- these events and activities agree with the rows now, and what did still does
pub record Renews (net : Net) (rows : RowsValue) (events activities : ℕ → Type 0) (old new : KeptTimetableValue) : Type 0 where
  pub keeps : KeepsAgreeing net rows old new
  pub events_there : (e : ℕ) → events e → FloorAgrees net rows new e
  pub activities_there : (a : ℕ) → activities a → ActivityAgrees net rows new a

-- the clock has gone back, or the event is scheduled before it and its floor is too
abbrev pub IsMoved : Net → KeptTimetableValue → ℕ → ℕ → Type 0
IsMoved net old clock e =
    (e < length net.events) × ((clock < old.clock) ⊎ (((event_at net e).time < clock) × (slice_index old.floors e < clock)))

-- no place, this one, one of the first n, one of the first n of these events that was before a clock, and one that stands among
-- the first n of a row
abbrev pub Nowhere : ℕ → Type 0
Nowhere k = ⊥

abbrev pub Here : ℕ → ℕ → Type 0
Here place k = k ≡ place

abbrev pub Below : ℕ → ℕ → Type 0
Below n k = k < n

abbrev pub MovedAmong : KeptTimetableValue → ℕ → List Scheduled → ℕ → ℕ → Type 0
MovedAmong old clock due n k = IsInFront due n k × (slice_index old.floors k < clock)

pub record InRow (row : List ℕ) (n : ℕ) (a : ℕ) : Type 0 where
  pub place : ℕ
  pub before : place < n
  pub is : slice_index row place ≡ a

-- the activity of the network leads into the event, out of it, or either
abbrev pub IsInto : Net → ℕ → ℕ → Type 0
IsInto net i b = (b < length net.activities) × ((activity_at net b).head ≡ i)

abbrev pub IsOutOf : Net → ℕ → ℕ → Type 0
IsOutOf net i b = (b < length net.activities) × ((activity_at net b).tail ≡ i)

abbrev pub LeadsAt : Net → ℕ → ℕ → Type 0
LeadsAt net i b = (b < length net.activities) × (((activity_at net b).head ≡ i) ⊎ ((activity_at net b).tail ≡ i))

-- the activity is the change that is decided, or leads out of an event of the pair that is
abbrev pub IsDecided : Net → Flip → ℕ → Type 0
IsDecided net (Keep a) b = b ≡ a
IsDecided net (Drop a) b = b ≡ a
IsDecided net (First p small) b = (b < length net.activities)
    × (((activity_at net b).tail ≡ (pair_at net p).small) ⊎ ((activity_at net b).tail ≡ (pair_at net p).large))

-- the event agrees with the rows now, if its floor was before the clock, and so does each whose floor has changed
pub record MovesAt (net : Net) (rows : RowsValue) (event : ℕ) (old new : KeptTimetableValue) : Type 0 where
  pub renews : Renews net rows (λ k. (k ≡ event) × (slice_index old.floors event < rows.clock)) Nowhere old new
  pub others : (k : ℕ) → (slice_index new.floors k ≡ slice_index old.floors k) ⊎ FloorAgrees net rows new k

-- those of the first n events whose floors were before the clock agree with the rows now, and so does each whose floor has changed
pub record MovesAmong (net : Net) (rows : RowsValue) (due : List Scheduled) (n : ℕ) (old new : KeptTimetableValue) : Type 0 where
  pub renews : Renews net rows (MovedAmong old rows.clock due n) Nowhere old new
  pub others : (k : ℕ) → (slice_index new.floors k ≡ slice_index old.floors k) ⊎ FloorAgrees net rows new k

-- the events that the clock moves agree with the rows now, and the clock is theirs
pub record MovesClock (net : Net) (rows : RowsValue) (old new : KeptTimetableValue) : Type 0 where
  pub mid : KeptTimetableValue
  pub renews : Renews net rows (IsMoved net old rows.clock) Nowhere old mid
  pub takes : TakesClock rows mid new

abbrev pub is_adopted : Change → Bool
is_adopted (Adopted flips) = true
is_adopted _ = false

-- what a change is about agrees with the rows now, and nothing has changed for an adopted list and a lock
abbrev pub RenewsFor : Net → RowsValue → Change → KeptTimetableValue → KeptTimetableValue → Type 0
RenewsFor net rows (EventDelay i d) old new = Renews net rows (Here i) Nowhere old new
RenewsFor net rows (ActDelay a d) old new = Renews net rows Nowhere (Here a) old new
RenewsFor net rows (Passed i t) old new = Renews net rows (Here i) (LeadsAt net i) old new
RenewsFor net rows (Recalled i) old new = Renews net rows (Here i) (LeadsAt net i) old new
RenewsFor net rows (Flipped flip) old new = Renews net rows Nowhere (IsDecided net flip) old new
RenewsFor net rows (Adopted flips) old new = new ≡ old
RenewsFor net rows (Clock t) old new = MovesClock net rows old new
RenewsFor net rows (Cancelled i) old new = Renews net rows (Here i) (LeadsAt net i) old new
RenewsFor net rows (Restored i) old new = Renews net rows (Here i) (LeadsAt net i) old new
RenewsFor net rows (Locked spot) old new = new ≡ old
RenewsFor net rows (Unlocked spot) old new = new ≡ old
