-- The turn of one board, and how far a list of boards is kept up.
use Rattle.std.specs.Prelude.{ℕ, ◌≡◌, ◌<◌, ◌≤◌, ◌+◌, Bool, true, false, List, [], ◌∷◌, ◌++◌, Option, Some, Result, Ok, Err, All, map, slice_get, nat_eq}
use Rattle.std.specs.List.{IsDistinct}
use Rattle.std.specs.List.Sorted.{IsStrictlyIncreasing}
use Rattle.dm_network.specs.Net.{Net}
use Rattle.dm_cert.specs.declared.notes.Note.{Note}
use Rattle.dm_outside.specs.declared.faults.Failed.{Failed}
use Rattle.dm_publish.specs.Value.{Published}
use Rattle.dm_publish.specs.Inside.Refreshing.{Refreshes}
use Rattle.dm_publish.specs.Publishing.{has_note, IsKeptUp, IsDropped}

-- the notes name different boards of so many
pub record AreNotesOf (boards : ℕ) (notes : List Note) : Type 0 where
  pub different : IsDistinct nat_eq (0 ∷ map (λ note. note.board) notes)
  pub within : All (λ note. note.board ≤ boards) notes

-- the note of the board at a place
abbrev pub note_of : ℕ → ℕ → ℕ → Note
note_of at stop entry = record { board = at + 1; stop = stop; entry = entry }

-- a board with a note is left, another is refreshed, and where its show failed a note is made
pub data TakesTurn {B : Type 0} (place : B → ℕ) (times : B → Option (ℕ → Option ℕ)) (flags : B → Option (ℕ → Option Bool)) (faults : B → ℕ)
    (is_sound : B → ℕ → Type 0)
    (net : Net) (last x : Published) (entry at : ℕ) (noted noted_now : List Note) (before now : B) : Type 0 where
  is_left : has_note noted at ≡ true → noted_now ≡ noted → now ≡ before →
      TakesTurn place times flags faults is_sound net last x entry at noted noted_now before now
  is_shown : has_note noted at ≡ false → noted_now ≡ noted → (result : Result (Unit {0}) Failed) → result ≡ Ok tt →
      Refreshes place times flags faults is_sound net last x before now result →
      TakesTurn place times flags faults is_sound net last x entry at noted noted_now before now
  is_dropped : has_note noted at ≡ false → noted_now ≡ noted ++ note_of at (place before) entry ∷ [] →
      place before ≤ 4294967295 → (result : Result (Unit {0}) Failed) → (f : Failed) → result ≡ Err f →
      Refreshes place times flags faults is_sound net last x before now result →
      TakesTurn place times flags faults is_sound net last x entry at noted noted_now before now

-- the first k boards are kept up, and the others are as before
pub record IsPublishedTo {B : Type 0} (place : B → ℕ) (times : B → Option (ℕ → Option ℕ)) (flags : B → Option (ℕ → Option Bool))
    (faults : B → ℕ) (is_sound : B → ℕ → Type 0)
    (net : Net) (last x : Published) (entry : ℕ) (old new : List B) (noted noted_now : List Note) (k : ℕ) : Type 0 where
  pub stops : map place new ≡ map place old
  pub later : (at : ℕ) → k ≤ at → slice_get new at ≡ slice_get old at
  pub each : (at : ℕ) (before now : B) → at < k → slice_get old at ≡ Some before → slice_get new at ≡ Some now →
      IsKeptUp place times flags faults is_sound net last x noted noted_now at before now
  pub fresh : List Note
  pub notes : noted_now ≡ noted ++ fresh
  pub dropped : All (IsDropped place faults is_sound net entry old new noted) fresh
  pub in_order : IsStrictlyIncreasing (map (λ note. note.board) fresh)
  pub low : All (λ note. note.board ≤ k) fresh
