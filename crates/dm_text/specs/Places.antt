-- Places in a text, and the line that begins at a place.
use Rattle.std.specs.Prelude.{ℕ, ◌≡◌, ◌≢◌, ◌+◌, List, ◌∷◌, ◌++◌, All, Option, None, Some}
use Rattle.std.specs.Borrow.{Bor}

-- the begin of a line: what is left of the text from there on, and the number of the line
pub record Place : Type 0 where
  pub left : List ℕ
  pub line : ℕ

-- the begin of a text, where line 1 begins
abbrev pub at_start : List ℕ → Place
at_start text = record { left = text; line = 1 }

-- no LF stands in the bytes
abbrev pub HasNoLineFeed : List ℕ → Type 0
HasNoLineFeed bytes = All (λ b. b ≢ 10) bytes

-- the line that begins at the place has these bytes, and behind its LF comes the next place
pub record IsLineAt (place : Place) (bytes : List ℕ) (next : Place) : Type 0 where
  pub whole : place.left ≡ bytes ++ 10 ∷ next.left
  pub one_line : HasNoLineFeed bytes
  pub counted : next.line ≡ place.line + 1

-- the text ends before the line is whole with its LF
abbrev pub IsCutAt : Place → Type 0
IsCutAt place = HasNoLineFeed place.left

-- the next line was taken where there is a whole one
abbrev pub TakesLine : Place → Place → Option (Bor (List ℕ)) → Type 0
TakesLine old new None = IsCutAt old × (new ≡ old)
TakesLine old new (Some bytes) = IsLineAt old bytes.now new
