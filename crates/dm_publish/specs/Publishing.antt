-- What publishing a timetable and the cancelled events on a list of boards does.
--
-- A board is seen through place, the stop that it is of, times and flags, what it tells that stands on it, faults, its count, and
-- is_sound, what it tells of an event: the members of a bound. Its own place in the list counts from 0. Publishing goes by what
-- was published last, which a board may be known to show, or by nothing.
use Rattle.std.specs.Prelude.{ℕ, ◌≡◌, ◌≤◌, ◌+◌, ◌==◌, Bool, true, false, List, ◌++◌, length, Option, Some, IsSome, All, map, slice_get}
use Rattle.std.specs.Option.{IsSomeAnd}
use Rattle.std.specs.List.{list_any}
use Rattle.std.specs.List.Sorted.{IsStrictlyIncreasing}
use Rattle.dm_network.specs.Net.{Net}
use Rattle.dm_cert.specs.declared.notes.Note.{Note}
use Rattle.dm_outside.specs.Faults.{HasRisen}
use Rattle.dm_publish.specs.Shown.{AllStand, AllAreMarked, ShowsTimes, ShowsLast, ShowsCancelled, ShowsCancelledLast, KeepsOthers, IsSoundFor}
use Rattle.dm_publish.specs.Value.{Published}

-- some note names the board at this place
abbrev pub has_note : List Note → ℕ → Bool
has_note notes at = list_any (λ note. at + 1 == note.board) notes

-- What becomes of the board at a place, where these notes stood before the call and those stand after it.
pub record IsKeptUp {B : Type 0} (place : B → ℕ) (times : B → Option (ℕ → Option ℕ)) (flags : B → Option (ℕ → Option Bool))
    (faults : B → ℕ) (is_sound : B → ℕ → Type 0)
    (net : Net) (last x : Published) (noted noted_now : List Note) (at : ℕ) (before now : B) : Type 0 where
  -- its count has not fallen, and where it was sound for the network it is so still
  pub later : faults before ≤ faults now
  pub stays_sound : IsSoundFor net (place before) (is_sound before) → IsSoundFor net (place now) (is_sound now)
  -- with an earlier note it is as before
  pub left : has_note noted at ≡ true → now ≡ before
  -- without a note it shows the times of its stop and keeps all else, where it tells what it shows and showed the last times
  pub shows : has_note noted_now at ≡ false → IsSome (times before) → ShowsLast net last.times (place before) (times before) →
      ShowsTimes net x.times (place now) (times now)
  pub others : has_note noted_now at ≡ false → KeepsOthers net (place now) (times before) (times now)
  -- and it shows which events of its stop are cancelled, where it tells that and showed it last
  pub marks : has_note noted_now at ≡ false → IsSome (flags before) →
      ShowsCancelledLast net last.cancelled (place before) (flags before) → ShowsCancelled net x.cancelled (place now) (flags now)
  pub other_marks : has_note noted_now at ≡ false → KeepsOthers net (place now) (flags before) (flags now)
  -- where it told that it showed all of this already, it is as before
  pub quiet : IsSomeAnd (times before) (AllStand net x.times (place before)) →
      IsSomeAnd (flags before) (AllAreMarked net x.cancelled (place before)) → now ≡ before

-- A note of this call: it names a board that had none, whose count has risen in the call and which was not sound before it,
-- by its place from 1, with its stop and the entry of the call.
pub record IsDropped {B : Type 0} (place : B → ℕ) (faults : B → ℕ) (is_sound : B → ℕ → Type 0)
    (net : Net) (entry : ℕ) (old new : List B) (noted : List Note) (note : Note) : Type 0 where
  pub at : ℕ
  pub before : B
  pub now : B
  pub stood : slice_get old at ≡ Some before
  pub stands : slice_get new at ≡ Some now
  pub named : note.board ≡ at + 1
  pub of_stop : note.stop ≡ place before
  pub stop_fits : note.stop ≤ 4294967295
  pub at_entry : note.entry ≡ entry
  pub had_none : has_note noted at ≡ false
  pub risen : HasRisen (faults before) (faults now)
  pub unsound : IsSoundFor net (place before) (is_sound before) → ⊥

-- The list keeps its boards' stops in their order, each board is kept up, and the new notes stand behind the old ones, one
-- for each board that was dropped, in the order of the boards.
pub record Publishes {B : Type 0} (place : B → ℕ) (times : B → Option (ℕ → Option ℕ)) (flags : B → Option (ℕ → Option Bool))
    (faults : B → ℕ) (is_sound : B → ℕ → Type 0)
    (net : Net) (last x : Published) (entry : ℕ) (old new : List B) (noted noted_now : List Note) (count : ℕ) : Type 0 where
  pub stops : map place new ≡ map place old
  pub each : (at : ℕ) (before now : B) → slice_get old at ≡ Some before → slice_get new at ≡ Some now →
      IsKeptUp place times flags faults is_sound net last x noted noted_now at before now
  pub fresh : List Note
  pub notes : noted_now ≡ noted ++ fresh
  pub number : count ≡ length fresh
  pub dropped : All (IsDropped place faults is_sound net entry old new noted) fresh
  pub in_order : IsStrictlyIncreasing (map (λ note. note.board) fresh)
