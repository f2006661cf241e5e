-- Values of words.
use Rattle.std.specs.Prelude.{ℕ, ◌≡◌, ◌≤◌, List, Option, Some, None}
use Rattle.dm_base.specs.Numbers.{IsDigits, whole_value}

-- the text is this number, in decimal digits, from least to most
pub record IsNumber (text : List ℕ) (least most n : ℕ) : Type 0 where
  pub digits : IsDigits text
  pub is : n ≡ whole_value text
  pub from : least ≤ n
  pub to : n ≤ most

-- the same of an option's value, or the standard number where it is not given
abbrev pub IsNumberOr : Option (List ℕ) → ℕ → ℕ → ℕ → ℕ → Type 0
IsNumberOr None least most standard n = n ≡ standard
IsNumberOr (Some text) least most standard n = IsNumber text least most n

-- the number that an option's value is, up to most, or none where it is not given
abbrev pub IsNumberOrNone : Option (List ℕ) → ℕ → Option ℕ → Type 0
IsNumberOrNone None most None = Unit {0}
IsNumberOrNone None most (Some n) = ⊥
IsNumberOrNone (Some text) most None = ⊥
IsNumberOrNone (Some text) most (Some n) = IsNumber text 0 most n
