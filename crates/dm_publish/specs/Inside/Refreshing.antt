-- What one board is shown.
use Rattle.std.specs.Prelude.{ℕ, ◌≡◌, ◌<◌, ◌≤◌, ◌⊎◌, ◌↔◌, slice_index_or, IsTrue, Bool, true, false, List, [], length, Option, None, Some, IfSome, IsSome, Result, IsOk, OnOk, OnErr, ⊤, All}
use Rattle.std.specs.Option.{IsSomeAnd}
use Rattle.dm_network.specs.Net.{Net, event_at}
use Rattle.dm_rows.specs.Timetable.{time_at}
use Rattle.dm_outside.specs.Faults.{Counts, HasRisen}
use Rattle.dm_outside.specs.Board.{values_after, SetsValues, KeepsValues}
use Rattle.dm_publish.specs.Value.{Published, published}
use Rattle.dm_publish.specs.declared.changes.Listed.{Listed}
use Rattle.dm_publish.specs.declared.refreshing.Publication.{Publication}
use Rattle.dm_publish.specs.Inside.Changes.{StandsIn, HasLast, HasLastFlag, place_at}
use Rattle.dm_publish.specs.Shown.{IsAtStop, AllStand, AllAreMarked, ShowsTimes, ShowsLast, ShowsCancelled, ShowsCancelledLast, KeepsOthers, IsSoundFor}

-- what is published
abbrev pub published_by : Publication → Published
published_by shown = published shown.timetable.now shown.cancelled.now

-- whether this time stands there for the event, where the board tells that
abbrev pub TellsTime : Option (ℕ → Option ℕ) → ℕ → ℕ → Bool → Type 0
TellsTime None event time answer = ⊤
TellsTime (Some shown) event time true = shown event ≡ Some time
TellsTime (Some shown) event time false = shown event ≡ Some time → ⊥

-- whether the event is shown as cancelled, where the board tells that
abbrev pub TellsFlag : Option (ℕ → Option Bool) → ℕ → Bool → Type 0
TellsFlag None event answer = ⊤
TellsFlag (Some flags) event true = flags event ≡ Some true
TellsFlag (Some flags) event false = flags event ≡ Some true → ⊥

-- whether the event at this place is cancelled
abbrev pub flag_at : List Bool → ℕ → Bool
flag_at cancelled i = slice_index_or cancelled i false

-- what is shown of the event at this place is right
abbrev pub IsRightFlag : List Bool → ℕ → Option Bool → Type 0
IsRightFlag cancelled i shown = (shown ≡ Some true) ↔ IsTrue (flag_at cancelled i)

abbrev pub IsRightTime : List ℕ → ℕ → Option ℕ → Type 0
IsRightTime x i shown = shown ≡ Some (time_at x i)

-- whether a board is to be told whether the event is cancelled: yes only where what it shows is not right, and else it is
abbrev pub NeedsFlag : Option (ℕ → Option Bool) → ℕ → Bool → Bool → Type 0
NeedsFlag told event cancelled true = IsSomeAnd told (λ flags. (flags event ≡ Some true) ↔ IsTrue cancelled) → ⊥
NeedsFlag told event cancelled false = IfSome told (λ flags. (flags event ≡ Some true) ↔ IsTrue cancelled)

-- whether a board is to be shown this time of the event: yes only where it is not shown, or runs again, and else it is
abbrev pub NeedsTime : Option (ℕ → Option ℕ) → Option (ℕ → Option Bool) → ℕ → ℕ → Bool → Bool → Type 0
NeedsTime told marked event time cancelled true =
    IsSomeAnd told (λ shown. shown event ≡ Some time) →
    IsSomeAnd marked (λ flags. (flags event ≡ Some true) ↔ IsTrue cancelled) → ⊥
NeedsTime told marked event time cancelled false = IfSome told (λ shown. shown event ≡ Some time)

-- an event at the stop with its value
pub record IsDue {V : Type 0} (net : Net) (value : ℕ → V) (stop : ℕ) (change : ℕ × V) : Type 0 where
  pub place : ℕ
  pub at_stop : IsAtStop net stop place
  pub event : change.0 ≡ (event_at net place).id.0
  pub is : change.1 ≡ value place

-- these events are at the stop
abbrev pub AreAtStop : Net → ℕ → List Listed → Type 0
AreAtStop net stop part = All (λ l. IsAtStop net stop l.place) part

-- among these stands each event at the stop whose time is not the last one, or that is cancelled or runs otherwise than last
pub record Covers (net : Net) (last x : Published) (stop : ℕ) (part : List Listed) : Type 0 where
  pub each : (i : ℕ) → IsAtStop net stop i →
      StandsIn part i ⊎ (HasLast last.times x.times i × HasLastFlag last.cancelled x.cancelled i)

-- The changes that a board needs for the first k of these events: with them what it shows of each is right. Where `quiet` holds it
-- needs none.
pub record GathersValues {V : Type 0} (net : Net) (value : ℕ → V) (right : ℕ → Option V → Type 0) (quiet : Type 0) (stop : ℕ)
    (told : Option (ℕ → Option V)) (part : List Listed) (k : ℕ) (changes : List (ℕ × V)) : Type 0 where
  pub due : All (IsDue net value stop) changes
  pub shows : IfSome told (λ shown. (j : ℕ) → j < k →
      right (place_at part j) (values_after shown changes (event_at net (place_at part j)).id.0))
  pub none : quiet → changes ≡ []
  pub few : length changes ≤ k

-- of the cancelled events
abbrev pub GathersFlags : Net → List Bool → ℕ → Option (ℕ → Option Bool) → List Listed → ℕ → List (ℕ × Bool) → Type 0
GathersFlags net cancelled stop told part k changes =
    GathersValues net (flag_at cancelled) (IsRightFlag cancelled) (IsSomeAnd told (AllAreMarked net cancelled stop)) stop told part k
    changes

-- of the times
abbrev pub Gathers : Net → Published → ℕ → Option (ℕ → Option ℕ) → Option (ℕ → Option Bool) → List Listed → ℕ → List (ℕ × ℕ) → Type 0
Gathers net x stop told marked part k changes =
    GathersValues net (time_at x.times) (IsRightTime x.times)
    (IsSomeAnd told (AllStand net x.times stop) × IsSomeAnd marked (AllAreMarked net x.cancelled stop)) stop told part k changes

-- What a show or a cancel of these changes does to a board: it sets these values and keeps the others. Where there are none it does
-- nothing.
pub record TakesValues {B V W T E : Type 0} (place : B → ℕ) (values : B → Option (ℕ → Option V)) (others : B → Option (ℕ → Option W))
    (faults : B → ℕ) (is_sound : B → ℕ → Type 0) (before now : B) (changes : List (ℕ × V)) (result : Result T E) : Type 0 where
  pub same_stop : place now ≡ place before
  pub sets : OnOk result (SetsValues (values before) (values now) changes)
  pub same : OnOk result (KeepsValues (others before) (others now))
  pub cause : Counts (faults before) (faults now) result
  pub sound : All (λ change. is_sound before change.0) changes → IsOk result
  pub stays_sound : All (λ change. is_sound before change.0) changes → (event : ℕ) → is_sound before event → is_sound now event
  pub quiet : changes ≡ [] → now ≡ before

-- The board is of the same stop and as sound as before. It shows the times and which events are cancelled, where it showed the last
-- ones, or its count has risen.
pub record Refreshes {B T E : Type 0} (place : B → ℕ) (times : B → Option (ℕ → Option ℕ)) (flags : B → Option (ℕ → Option Bool))
    (faults : B → ℕ) (is_sound : B → ℕ → Type 0) (net : Net) (last x : Published) (before now : B) (result : Result T E) : Type 0 where
  pub same_stop : place now ≡ place before
  pub later : faults before ≤ faults now
  pub stays_sound : IsSoundFor net (place before) (is_sound before) → IsSoundFor net (place now) (is_sound now)
  pub succeeds : IsSoundFor net (place before) (is_sound before) → IsOk result
  pub risen : OnErr result (HasRisen (faults before) (faults now))
  pub shows : OnOk result (IsSome (times before) → ShowsLast net last.times (place before) (times before) →
      ShowsTimes net x.times (place before) (times now))
  pub marks : OnOk result (IsSome (flags before) → ShowsCancelledLast net last.cancelled (place before) (flags before) →
      ShowsCancelled net x.cancelled (place before) (flags now))
  pub other_marks : OnOk result (KeepsOthers net (place before) (flags before) (flags now))
  pub others : OnOk result (KeepsOthers net (place before) (times before) (times now))
  pub quiet : IsSomeAnd (times before) (AllStand net x.times (place before)) →
      IsSomeAnd (flags before) (AllAreMarked net x.cancelled (place before)) → now ≡ before
