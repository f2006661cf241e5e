-- What becomes of boards that are published on one time after another, since a list of them at first.
use Rattle.std.specs.Prelude.{ℕ, ◌≡◌, ◌≤◌, ◌+◌, Bool, false, List, Option, Some, IsSome, All, map, slice_get}
use Rattle.dm_network.specs.Net.{Net}
use Rattle.dm_outside.specs.Faults.{HasRisen}
use Rattle.dm_cert.specs.declared.notes.Note.{Note}
use Rattle.dm_publish.specs.Shown.{ShowsTimes, ShowsLast, ShowsCancelled, ShowsCancelledLast, IsSoundFor}
use Rattle.dm_publish.specs.Value.{Published}
use Rattle.dm_publish.specs.Publishing.{has_note}

-- A note names a board of the list by its place from 1 and with its stop. The board's count has risen since, and it was not
-- sound for the network at first.
pub record IsNoteSince {B : Type 0} (place : B → ℕ) (faults : B → ℕ) (is_sound : B → ℕ → Type 0) (net : Net)
    (first now : List B) (note : Note) : Type 0 where
  pub at : ℕ
  pub before : B
  pub after : B
  pub stood : slice_get first at ≡ Some before
  pub stands : slice_get now at ≡ Some after
  pub named : note.board ≡ at + 1
  pub of_stop : note.stop ≡ place before
  pub risen : HasRisen (faults before) (faults after)
  pub unsound : IsSoundFor net (place before) (is_sound before) → ⊥

-- a board that told of its times, and of which events it shows as cancelled, shows what is published of its stop
pub record ShowsPublished {B : Type 0} (place : B → ℕ) (times : B → Option (ℕ → Option ℕ)) (flags : B → Option (ℕ → Option Bool))
    (net : Net) (x : Published) (before after : B) : Type 0 where
  pub shows : IsSome (times before) → ShowsTimes net x.times (place after) (times after)
  pub marks : IsSome (flags before) → ShowsCancelled net x.cancelled (place after) (flags after)

-- it shows what was published last
pub record ShowsPublishedLast {B : Type 0} (place : B → ℕ) (times : B → Option (ℕ → Option ℕ)) (flags : B → Option (ℕ → Option Bool))
    (net : Net) (last : Published) (before after : B) : Type 0 where
  pub shows : IsSome (times before) → ShowsLast net last.times (place after) (times after)
  pub marks : IsSome (flags before) → ShowsCancelledLast net last.cancelled (place after) (flags after)

-- each board that no note names shows what is published of its stop, where it told at first what it shows
abbrev pub AllShow : {B : Type 0} → (B → ℕ) → (B → Option (ℕ → Option ℕ)) → (B → Option (ℕ → Option Bool)) → Net → Published →
    List Note → List B → List B → Type 0
AllShow {B} place times flags net x notes first now =
    (at : ℕ) (before after : B) → slice_get first at ≡ Some before → slice_get now at ≡ Some after → has_note notes at ≡ false →
    ShowsPublished place times flags net x before after

-- each board that no note names shows what was published last, where it told at first what it shows
abbrev pub AllShowLast : {B : Type 0} → (B → ℕ) → (B → Option (ℕ → Option ℕ)) → (B → Option (ℕ → Option Bool)) → Net → Published →
    List Note → List B → List B → Type 0
AllShowLast {B} place times flags net last notes first now =
    (at : ℕ) (before after : B) → slice_get first at ≡ Some before → slice_get now at ≡ Some after → has_note notes at ≡ false →
    ShowsPublishedLast place times flags net last before after

-- The board's count has not fallen, and where it was sound for the network it is so still. Where it told what it shows it
-- does so still, unless a note names it.
pub record IsKeptSince {B : Type 0} (place : B → ℕ) (times : B → Option (ℕ → Option ℕ)) (flags : B → Option (ℕ → Option Bool))
    (faults : B → ℕ)
    (is_sound : B → ℕ → Type 0) (net : Net) (notes : List Note) (at : ℕ) (before after : B) : Type 0 where
  pub later : faults before ≤ faults after
  pub sound : IsSoundFor net (place before) (is_sound before) → IsSoundFor net (place after) (is_sound after)
  pub told : has_note notes at ≡ false → IsSome (times before) → IsSome (times after)
  pub told_flags : has_note notes at ≡ false → IsSome (flags before) → IsSome (flags after)

-- the list keeps its boards' stops in their order, and each note is one of a board whose show has failed since
pub record AreKeptSince {B : Type 0} (place : B → ℕ) (times : B → Option (ℕ → Option ℕ)) (flags : B → Option (ℕ → Option Bool))
    (faults : B → ℕ)
    (is_sound : B → ℕ → Type 0) (net : Net) (first now : List B) (notes : List Note) : Type 0 where
  pub stops : map place now ≡ map place first
  pub each : (at : ℕ) (before after : B) → slice_get first at ≡ Some before → slice_get now at ≡ Some after →
      IsKeptSince place times flags faults is_sound net notes at before after
  pub noted : All (IsNoteSince place faults is_sound net first now) notes

-- boards that were these at first have been kept up, and show these times
pub record AreUpSince {B : Type 0} (place : B → ℕ) (times : B → Option (ℕ → Option ℕ)) (flags : B → Option (ℕ → Option Bool))
    (faults : B → ℕ)
    (is_sound : B → ℕ → Type 0) (net : Net) (x : Published) (notes : List Note) (first now : List B) : Type 0 where
  pub kept : AreKeptSince place times flags faults is_sound net first now notes
  pub shown : AllShow place times flags net x notes first now

-- boards that were kept up since some first list are so once more, and show these times
abbrev pub KeepsUp : {B : Type 0} → (B → ℕ) → (B → Option (ℕ → Option ℕ)) → (B → Option (ℕ → Option Bool)) → (B → ℕ) → (B → ℕ → Type 0)
    → Net → Published → List B →
    List B → List Note → List Note → Type 0
KeepsUp {B} place times flags faults is_sound net x old new notes notes_now =
    (first : List B) → AreKeptSince place times flags faults is_sound net first old notes →
    AreUpSince place times flags faults is_sound net x notes_now first new

-- the same of boards that show the times published last
abbrev pub KeepsUpLast : {B : Type 0} → (B → ℕ) → (B → Option (ℕ → Option ℕ)) → (B → Option (ℕ → Option Bool)) → (B → ℕ) → (B → ℕ → Type 0)
    → Net → Published →
    Published → List B → List B → List Note → List Note → Type 0
KeepsUpLast {B} place times flags faults is_sound net last x old new notes notes_now =
    (first : List B) → AreKeptSince place times flags faults is_sound net first old notes →
    AllShowLast place times flags net last notes first old → AreUpSince place times flags faults is_sound net x notes_now first new
