-- What a delay, a passed or cancelled event, the clock or a lock may move.
use Rattle.std.specs.Prelude.{ℕ, ◌≡◌, ◌≢◌, ◌<◌, ◌⊎◌, List, length, None}
use Rattle.dm_network.specs.Net.{Net, activity_at}
use Rattle.dm_rows.specs.declared.messages.Change.{Change}
use Rattle.dm_rows.specs.declared.messages.Change.TheVariants.{EventDelay, ActDelay, Passed, Recalled, Flipped, Adopted, Clock, Cancelled, Restored, Locked, Unlocked}
use Rattle.dm_rows.specs.Rows.{RowsValue, passed_at}
use Rattle.dm_rows.specs.Active.{IsActive}
use Rattle.dm_rows.specs.Resolve.{after_change}
use Rattle.dm_rows.specs.Timetable.{time_at}

-- the changes of which touched events are told: delays, passed and cancelled events, clocks, and locks, which touch nothing
abbrev pub TellsTouched : Change → Type 0
TellsTouched (EventDelay e d) = Unit {0}
TellsTouched (ActDelay a d) = Unit {0}
TellsTouched (Passed e t) = Unit {0}
TellsTouched (Cancelled e) = Unit {0}
TellsTouched (Clock t) = Unit {0}
TellsTouched (Locked spot) = Unit {0}
TellsTouched (Unlocked spot) = Unit {0}
TellsTouched (Recalled e) = ⊥
TellsTouched (Restored e) = ⊥
TellsTouched (Flipped flip) = ⊥
TellsTouched (Adopted flips) = ⊥

-- an activity that is active leads from the event to the other
pub record IsActiveBetween (net : Net) (rows : RowsValue) (tail head : ℕ) : Type 0 where
  pub a : ℕ
  pub active : IsActive net rows a
  pub from_tail : (activity_at net a).tail ≡ tail
  pub to_head : (activity_at net a).head ≡ head

-- The event that a delay, a passed time or a cancelling is for, or the head of the activity that a delay is for. A passed time
-- touches the heads of its event's active activities too, and a cancelling the heads of those that are active while its event
-- runs. A clock touches each event that has not passed and whose time before is below it. The rows are those after the change,
-- and the times those before it.
abbrev pub IsTouched : Net → RowsValue → Change → List ℕ → ℕ → Type 0
IsTouched net rows (EventDelay e d) before i = i ≡ e
IsTouched net rows (ActDelay a d) before i = i ≡ (activity_at net a).head
IsTouched net rows (Passed e t) before i = (i ≡ e) ⊎ IsActiveBetween net rows e i
IsTouched net rows (Clock t) before i = (i < length net.events) × (passed_at rows i ≡ None) × (time_at before i < t)
IsTouched net rows (Cancelled e) before i = (i ≡ e) ⊎ IsActiveBetween net (after_change rows (Restored e)) e i
IsTouched net rows (Locked spot) before i = ⊥
IsTouched net rows (Unlocked spot) before i = ⊥
IsTouched net rows (Recalled e) before i = ⊥
IsTouched net rows (Restored e) before i = ⊥
IsTouched net rows (Flipped flip) before i = ⊥
IsTouched net rows (Adopted flips) before i = ⊥

-- the time of the event differs before and after
abbrev pub IsChanged : List ℕ → List ℕ → ℕ → Type 0
IsChanged before after i = time_at before i ≢ time_at after i

-- a touched event, or the head of an active activity out of a changed one
abbrev pub MayMove : Net → RowsValue → Change → List ℕ → List ℕ → ℕ → Type 0
MayMove net rows change before after i =
    IsTouched net rows change before i
    ⊎ ((tail : ℕ) × IsChanged before after tail × IsActiveBetween net rows tail i)
