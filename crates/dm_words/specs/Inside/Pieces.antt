-- How ids are read from what is left of a text.
use Rattle.std.specs.Prelude.{ℕ, ◌≡◌, List, [], ◌∷◌, Option, map}
use Rattle.dm_base.specs.Numbers.{whole_value}
use Rattle.dm_lintim.specs.Pieces.{pieces_left}
use Rattle.dm_words.specs.Ids.{IsId}

-- each piece is an id
abbrev pub AreAllIds : List (List ℕ) → Type 0
AreAllIds [] = Unit {0}
AreAllIds (piece ∷ pieces) = IsId piece (whole_value piece) × AreAllIds pieces

-- the numbers of the pieces that are left
abbrev pub numbers_left : Option (List ℕ) → List ℕ
numbers_left left = map whole_value (pieces_left left)

-- what is left begins with this id, and ids are left behind it
pub record BeginsWithId (left : Option (List ℕ)) (id : ℕ) (after : Option (List ℕ)) : Type 0 where
  pub numbers : numbers_left left ≡ id ∷ numbers_left after
  pub all : AreAllIds (pieces_left after)
