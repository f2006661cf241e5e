-- A text of ids: different numbers of 32 bits, separated by commas.
use Rattle.std.specs.Prelude.{ℕ, ◌≡◌, ◌≤◌, ◌==◌, ◌&&◌, Bool, true, not, List, [], ◌∷◌, length, Option, Some, None}
use Rattle.std.specs.List.{list_any}
use Rattle.dm_base.specs.Numbers.{IsDigits, whole_value}
use Rattle.dm_lintim.specs.Pieces.{is_comma, pieces}

-- the piece is the number of an id, in decimal digits
abbrev pub IsId : List ℕ → ℕ → Type 0
IsId piece id = IsDigits piece × (id ≡ whole_value piece) × (id ≤ 4294967295)

-- each piece is the id at its place
abbrev pub Spell : List (List ℕ) → List ℕ → Type 0
Spell [] [] = Unit {0}
Spell (piece ∷ pieces) (id ∷ ids) = IsId piece id × Spell pieces ids
Spell _ _ = ⊥

-- no id stands twice
abbrev pub are_different : List ℕ → Bool
are_different [] = true
are_different (id ∷ ids) = not (list_any (λ other. other == id) ids) && are_different ids

-- the text names these ids, of which there are so many at most
pub record AreIds (most : ℕ) (text ids : List ℕ) : Type 0 where
  pub spelled : Spell (pieces is_comma text) ids
  pub few : length ids ≤ most
  pub different : are_different ids ≡ true

-- the ids of an option's value, or none where it is not given
abbrev pub AreIdsOrNone : ℕ → Option (List ℕ) → List ℕ → Type 0
AreIdsOrNone most None ids = ids ≡ []
AreIdsOrNone most (Some text) ids = AreIds most text ids
