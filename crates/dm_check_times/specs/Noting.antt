-- Times that change, and which are noted as moved.
use Rattle.std.specs.Prelude.{ℕ, ◌≡◌, Bool, false, List, length, slice_index}
use Rattle.dm_marks.specs.Marked.{is_marked}

-- each time but at the flagged places is that of the other list
abbrev pub AreAlikeBut : List Bool → List ℕ → List ℕ → Type 0
AreAlikeBut flags kept times = (e : ℕ) → is_marked flags e ≡ false → slice_index kept e ≡ slice_index times e

-- Wherever times have changed, a flag is set: whatever list they were like but at the flagged places, they still are.
pub record NotesMoves (old new : List ℕ) (before after : List Bool) : Type 0 where
  pub as_many : length after ≡ length before
  pub noted : (kept : List ℕ) → AreAlikeBut before kept old → AreAlikeBut after kept new
