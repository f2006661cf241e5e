-- Why a message is refused: the first cause that applies, in the order of the refusals.
use Rattle.std.specs.Prelude.{ℕ, ◌≡◌, ◌<◌, ◌≤◌, ◌⊎◌, true, false, List, Option, Some, None, IsSome, slice_get}
use Rattle.std.specs.Option.{option_and_then, IsSomeAnd}
use Rattle.dm_base.specs.declared.ids.EventId.{EventId}
use Rattle.dm_base.specs.declared.ids.ActId.{ActId}
use Rattle.dm_base.specs.declared.limits.TheConstants.{DELAY, PASSED_TIME, ENTRIES}
use Rattle.dm_network.specs.Net.{Net, event_at, activity_at, event_place, activity_place, is_change}
use Rattle.dm_network.specs.Pairs.{pair_place}
use Rattle.dm_rows.specs.declared.messages.Decision.{Decision}
use Rattle.dm_rows.specs.declared.messages.Decision.TheVariants.{Keep as KeepIt, Drop as DropIt, First as FirstOf}
use Rattle.dm_rows.specs.declared.messages.Message.{Message}
use Rattle.dm_rows.specs.declared.messages.Message.TheVariants.{DelayEvent, DelayActivity, Pass, Recall, Keep, Drop, First, Adopt, Now, Cancel, Restore, Lock, Unlock}
use Rattle.dm_rows.specs.declared.messages.Choice.{Choice}
use Rattle.dm_rows.specs.declared.messages.Choice.TheVariants.{Change as ChangeOf, Pair as PairOf}
use Rattle.dm_rows.specs.declared.messages.Refusal.{Refusal}
use Rattle.dm_rows.specs.declared.messages.Refusal.TheVariants.{Range, UnknownEvent, UnknownActivity, UnknownChange, UnknownPair, Passed, NotPassed, Cancelled, NotCancelled, Locked, NotLocked, Back, Cycle, Full, OutOfMemory}
use Rattle.dm_rows.specs.Rows.{RowsValue, passed_at, is_cancelled, is_locked_change, is_locked_pair}
use Rattle.dm_rows.specs.Active.{HasNoCycle, ShowsCycle, has_cancelled_end}
use Rattle.dm_rows.specs.Sides.{sorted_choice}
use Rattle.dm_rows.specs.Resolve.{named_pair, after}

-- the time at which the event with this id has passed, or None where it has not or is unknown
abbrev pub passed_time : Net → RowsValue → EventId → Option ℕ
passed_time net rows e = option_and_then (passed_at rows) (event_place net e)

-- the head of the activity is event e, which has passed at time t
abbrev pub HeadHasPassed : Net → RowsValue → ℕ → EventId → ℕ → Type 0
HeadHasPassed net rows a e t =
    (e ≡ (event_at net (activity_at net a).head).id) × (passed_at rows (activity_at net a).head ≡ Some t)

-- e is the first of the two events, by place, that is cancelled
abbrev pub IsFirstCancelled : Net → RowsValue → ℕ → ℕ → EventId → Type 0
IsFirstCancelled net rows x y e =
    ((is_cancelled rows x ≡ true) × (e ≡ (event_at net x).id))
    ⊎ ((is_cancelled rows x ≡ false) × (is_cancelled rows y ≡ true) × (e ≡ (event_at net y).id))

-- nothing is refused
abbrev pub RefusesNothing : (Refusal → Type 0) → Type 0
RefusesNothing P = (r : Refusal) → P r → ⊥

-- a number for an event that has not passed, of at most this limit
abbrev pub RefusesNumberFor : Net → RowsValue → ℕ → EventId → ℕ → Refusal → Type 0
RefusesNumberFor net rows limit e n (Range v) = (limit < n) × (v ≡ n)
RefusesNumberFor net rows limit e n (UnknownEvent u) = (n ≤ limit) × (event_place net e ≡ None) × (u ≡ e)
RefusesNumberFor net rows limit e n (Passed p t) = (n ≤ limit) × (passed_time net rows e ≡ Some t) × (p ≡ e)
RefusesNumberFor net rows limit e n _ = ⊥

-- a delay for an activity whose head has not passed
abbrev pub RefusesDelayOf : Net → RowsValue → ActId → ℕ → Refusal → Type 0
RefusesDelayOf net rows a d (Range v) = (DELAY < d) × (v ≡ d)
RefusesDelayOf net rows a d (UnknownActivity u) = (d ≤ DELAY) × (activity_place net a ≡ None) × (u ≡ a)
RefusesDelayOf net rows a d (Passed e t) =
    (d ≤ DELAY) × IsSomeAnd (activity_place net a) (λ x. HeadHasPassed net rows x e t)
RefusesDelayOf net rows a d _ = ⊥

-- the recall of an event that has passed
abbrev pub RefusesRecall : Net → RowsValue → EventId → Refusal → Type 0
RefusesRecall net rows e (UnknownEvent u) = (event_place net e ≡ None) × (u ≡ e)
RefusesRecall net rows e (NotPassed u) = IsSome (event_place net e) × (passed_time net rows e ≡ None) × (u ≡ e)
RefusesRecall net rows e _ = ⊥

-- the cancelling of an event that has not passed and is not cancelled
abbrev pub RefusesCancel : Net → RowsValue → EventId → Refusal → Type 0
RefusesCancel net rows e (UnknownEvent u) = (event_place net e ≡ None) × (u ≡ e)
RefusesCancel net rows e (Passed p t) = (passed_time net rows e ≡ Some t) × (p ≡ e)
RefusesCancel net rows e (Cancelled u) =
    IsSomeAnd (event_place net e) (λ x. (passed_at rows x ≡ None) × (is_cancelled rows x ≡ true)) × (u ≡ e)
RefusesCancel net rows e _ = ⊥

-- the restoring of an event that is cancelled
abbrev pub RefusesRestore : Net → RowsValue → EventId → Refusal → Type 0
RefusesRestore net rows e (UnknownEvent u) = (event_place net e ≡ None) × (u ≡ e)
RefusesRestore net rows e (NotCancelled u) = IsSomeAnd (event_place net e) (λ x. is_cancelled rows x ≡ false) × (u ≡ e)
RefusesRestore net rows e _ = ⊥

-- a clock of at most PASSED_TIME that is not taken back
abbrev pub RefusesClock : RowsValue → ℕ → Refusal → Type 0
RefusesClock rows t (Range v) = (PASSED_TIME < t) × (v ≡ t)
RefusesClock rows t (Back c) = (t ≤ PASSED_TIME) × (t < rows.clock) × (c ≡ rows.clock)
RefusesClock rows t _ = ⊥

-- the activity is a change whose head has not passed
abbrev pub IsChangeAhead : Net → RowsValue → ℕ → Type 0
IsChangeAhead net rows x = (is_change (activity_at net x).kind ≡ true) × (passed_at rows (activity_at net x).head ≡ None)

-- its tail, or else its head, is the event e, which is cancelled
abbrev pub HasCancelledEnd : Net → RowsValue → ℕ → EventId → Type 0
HasCancelledEnd net rows x e = IsFirstCancelled net rows (activity_at net x).tail (activity_at net x).head e

-- keeping, dropping or locking a change whose head has not passed, none of whose ends is cancelled, and that is not locked
abbrev pub RefusesChange : Net → RowsValue → ActId → Refusal → Type 0
RefusesChange net rows a (UnknownActivity u) = (activity_place net a ≡ None) × (u ≡ a)
RefusesChange net rows a (UnknownChange u) =
    IsSomeAnd (activity_place net a) (λ x. is_change (activity_at net x).kind ≡ false) × (u ≡ a)
RefusesChange net rows a (Passed e t) =
    IsSomeAnd (activity_place net a) (λ x. (is_change (activity_at net x).kind ≡ true) × HeadHasPassed net rows x e t)
RefusesChange net rows a (Cancelled e) =
    IsSomeAnd (activity_place net a) (λ x. IsChangeAhead net rows x × HasCancelledEnd net rows x e)
RefusesChange net rows a (Locked c) =
    IsSomeAnd (activity_place net a)
    (λ x. IsChangeAhead net rows x × (has_cancelled_end net rows x ≡ false) × (is_locked_change rows x ≡ true))
    × (c ≡ ChangeOf a)
RefusesChange net rows a _ = ⊥

-- neither of the two events, by place, has passed
abbrev pub NeitherHasPassed : RowsValue → ℕ → ℕ → Type 0
NeitherHasPassed rows x y = (passed_at rows x ≡ None) × (passed_at rows y ≡ None)

-- two events that form a pair, by place, where the ids name events
abbrev pub PairSuchThat : Net → EventId → EventId → (ℕ → ℕ → ℕ → Type 0) → Type 0
PairSuchThat net i j P =
    IsSomeAnd (event_place net i) (λ x. IsSomeAnd (event_place net j) (λ y. IsSomeAnd (pair_place net x y) (λ p. P p x y)))

-- setting which of two events that form a pair goes first, or locking that, where neither has passed or is cancelled, and the
-- pair is not locked
abbrev pub RefusesFirst : Net → RowsValue → EventId → EventId → Refusal → Type 0
RefusesFirst net rows i j (UnknownEvent u) =
    ((event_place net i ≡ None) × (u ≡ i)) ⊎ (IsSome (event_place net i) × (event_place net j ≡ None) × (u ≡ j))
RefusesFirst net rows i j (UnknownPair u v) =
    IsSome (event_place net i) × IsSome (event_place net j) × (named_pair net i j ≡ None) × (u ≡ i) × (v ≡ j)
RefusesFirst net rows i j (Passed e t) =
    IsSome (named_pair net i j)
    × (((passed_time net rows i ≡ Some t) × (e ≡ i))
    ⊎ ((passed_time net rows i ≡ None) × (passed_time net rows j ≡ Some t) × (e ≡ j)))
RefusesFirst net rows i j (Cancelled e) =
    PairSuchThat net i j (λ p x y. NeitherHasPassed rows x y × IsFirstCancelled net rows x y e)
RefusesFirst net rows i j (Locked c) =
    PairSuchThat net i j (λ p x y. NeitherHasPassed rows x y × (is_cancelled rows x ≡ false) × (is_cancelled rows y ≡ false)
    × (is_locked_pair rows p ≡ true))
    × (c ≡ sorted_choice (PairOf i j))
RefusesFirst net rows i j _ = ⊥

-- locking a choice, which what refuses its decisions refuses
abbrev pub RefusesLock : Net → RowsValue → Choice → Refusal → Type 0
RefusesLock net rows (ChangeOf a) r = RefusesChange net rows a r
RefusesLock net rows (PairOf i j) r = RefusesFirst net rows i j r

-- an id that names a change
abbrev pub RefusesNoChange : Net → ActId → Refusal → Type 0
RefusesNoChange net a (UnknownActivity u) = (activity_place net a ≡ None) × (u ≡ a)
RefusesNoChange net a (UnknownChange u) =
    IsSomeAnd (activity_place net a) (λ x. is_change (activity_at net x).kind ≡ false) × (u ≡ a)
RefusesNoChange net a _ = ⊥

-- two ids that name events that form a pair
abbrev pub RefusesNoPair : Net → EventId → EventId → Refusal → Type 0
RefusesNoPair net i j (UnknownEvent u) =
    ((event_place net i ≡ None) × (u ≡ i)) ⊎ (IsSome (event_place net i) × (event_place net j ≡ None) × (u ≡ j))
RefusesNoPair net i j (UnknownPair u v) =
    IsSome (event_place net i) × IsSome (event_place net j) × (named_pair net i j ≡ None) × (u ≡ i) × (v ≡ j)
RefusesNoPair net i j _ = ⊥

-- unlocking a change that is locked, whatever has passed or is cancelled
abbrev pub RefusesUnlockChange : Net → RowsValue → ActId → Refusal → Type 0
RefusesUnlockChange net rows a (NotLocked c) =
    IsSomeAnd (activity_place net a)
    (λ x. (is_change (activity_at net x).kind ≡ true) × (is_locked_change rows x ≡ false))
    × (c ≡ ChangeOf a)
RefusesUnlockChange net rows a r = RefusesNoChange net a r

-- unlocking a pair that is locked
abbrev pub RefusesUnlockPair : Net → RowsValue → EventId → EventId → Refusal → Type 0
RefusesUnlockPair net rows i j (NotLocked c) =
    IsSomeAnd (named_pair net i j) (λ p. is_locked_pair rows p ≡ false) × (c ≡ sorted_choice (PairOf i j))
RefusesUnlockPair net rows i j r = RefusesNoPair net i j r

abbrev pub RefusesUnlock : Net → RowsValue → Choice → Refusal → Type 0
RefusesUnlock net rows (ChangeOf a) r = RefusesUnlockChange net rows a r
RefusesUnlock net rows (PairOf i j) r = RefusesUnlockPair net rows i j r

abbrev pub RefusesDecision : Net → RowsValue → Decision → Refusal → Type 0
RefusesDecision net rows (KeepIt a) r = RefusesChange net rows a r
RefusesDecision net rows (DropIt a) r = RefusesChange net rows a r
RefusesDecision net rows (FirstOf i j) r = RefusesFirst net rows i j r

-- nothing refuses the decision
abbrev pub PassesDecision : Net → RowsValue → Decision → Type 0
PassesDecision net rows d = RefusesNothing (RefusesDecision net rows d)

-- the first decision of a list that is refused, which none before it is
pub record RefusesSome (net : Net) (rows : RowsValue) (decisions : List Decision) (r : Refusal) : Type 0 where
  pub at : ℕ
  pub decision : Decision
  pub stands : slice_get decisions at ≡ Some decision
  pub refused : RefusesDecision net rows decision r
  pub passed_before : (k : ℕ) (d : Decision) → k < at → slice_get decisions k ≡ Some d → PassesDecision net rows d

-- what refuses a message for its numbers, its ids, the events that have passed or are cancelled, the locks and the clock
abbrev pub RefusesAtOnce : Net → RowsValue → Message → Refusal → Type 0
RefusesAtOnce net rows (DelayEvent e d) r = RefusesNumberFor net rows DELAY e d r
RefusesAtOnce net rows (DelayActivity a d) r = RefusesDelayOf net rows a d r
RefusesAtOnce net rows (Pass e t) r = RefusesNumberFor net rows PASSED_TIME e t r
RefusesAtOnce net rows (Recall e) r = RefusesRecall net rows e r
RefusesAtOnce net rows (Keep a) r = RefusesChange net rows a r
RefusesAtOnce net rows (Drop a) r = RefusesChange net rows a r
RefusesAtOnce net rows (First i j) r = RefusesFirst net rows i j r
RefusesAtOnce net rows (Adopt ds) r = RefusesSome net rows ds r
RefusesAtOnce net rows (Now t) r = RefusesClock rows t r
RefusesAtOnce net rows (Cancel e) r = RefusesCancel net rows e r
RefusesAtOnce net rows (Restore e) r = RefusesRestore net rows e r
RefusesAtOnce net rows (Lock choice) r = RefusesLock net rows choice r
RefusesAtOnce net rows (Unlock choice) r = RefusesUnlock net rows choice r

-- nothing refuses the message at once
abbrev pub PassesAtOnce : Net → RowsValue → Message → Type 0
PassesAtOnce net rows m = RefusesNothing (RefusesAtOnce net rows m)

abbrev pub IsAdopt : Message → Type 0
IsAdopt (Adopt ds) = Unit {0}
IsAdopt _ = ⊥

-- What admission may refuse a message for: what refuses it at once, and an `Adopt` for want of memory.
abbrev pub RefusesAdmission : Net → RowsValue → Message → Refusal → Type 0
RefusesAdmission net rows m r = RefusesAtOnce net rows m r ⊎ (IsAdopt m × (r ≡ OutOfMemory))

-- a clock, of which no cycle is asked: it makes none
abbrev pub IsNow : Message → Type 0
IsNow (DelayEvent e d) = ⊥
IsNow (DelayActivity a d) = ⊥
IsNow (Pass e t) = ⊥
IsNow (Recall e) = ⊥
IsNow (Keep a) = ⊥
IsNow (Drop a) = ⊥
IsNow (First i j) = ⊥
IsNow (Adopt ds) = ⊥
IsNow (Now t) = Unit {0}
IsNow (Cancel e) = ⊥
IsNow (Restore e) = ⊥
IsNow (Lock choice) = ⊥
IsNow (Unlock choice) = ⊥

-- The refusal of a message at a history of n entries: the first that applies. After those at once comes a cycle of the
-- rows after the message, any one of them, and then a full history; after a clock a full history alone. Want of memory is
-- left out.
abbrev pub Refuses : Net → RowsValue → ℕ → Message → Refusal → Type 0
Refuses net rows n m (Cycle ids) = PassesAtOnce net rows m × (IsNow m → ⊥) × ShowsCycle net (after net rows m) ids
Refuses net rows n m (Full k) =
    PassesAtOnce net rows m × (IsNow m ⊎ HasNoCycle net (after net rows m)) × (n ≡ ENTRIES) × (k ≡ n)
Refuses net rows n m OutOfMemory = ⊥
Refuses net rows n m r = RefusesAtOnce net rows m r
