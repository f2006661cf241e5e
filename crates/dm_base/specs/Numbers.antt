-- Decimal texts, and the numbers that they write.
use Rattle.std.specs.Prelude.{ℕ, ◌+◌, ◌-◌, ◌*◌, ◌^◌, ◌<◌, ◌≤◌, ◌≡◌, ◌==◌, Bool, List, [], ◌∷◌, ◌++◌, length, take, All, codes, Result, Ok, Err}
use Rattle.std.specs.Char.{IsAsciiDigit}
use Rattle.std.specs.List.{before_first, after_first}
use Rattle.dm_base.specs.declared.numbers.NumFault.{NumFault}
use Rattle.dm_base.specs.declared.numbers.NumFault.TheVariants.{NotANumber, TooLarge}

-- one or more decimal digits; leading zeros are allowed
pub record IsDigits (text : List ℕ) : Type 0 where
  pub some : 0 < length text
  pub digits : All IsAsciiDigit text

-- the number that decimal digits write: each digit counts ten times what the same digit counts one place to its right
abbrev pub whole_value : List ℕ → ℕ
whole_value [] = 0
whole_value (c ∷ cs) = (c - 48) * 10 ^ length cs + whole_value cs

abbrev pub is_point : ℕ → Bool
is_point c = c == 46

-- what stands before the first point, or the whole text where there is none
abbrev pub whole_part : List ℕ → List ℕ
whole_part text = before_first is_point text

-- what stands after the first point, or nothing where there is none
abbrev pub decimals : List ℕ → List ℕ
decimals text = after_first is_point text

-- one or more digits, and optionally a point and any number of digits
pub record IsMilliText (text : List ℕ) : Type 0 where
  pub whole : IsDigits (whole_part text)
  pub decimal : All IsAsciiDigit (decimals text)

-- the thousandths that the digits after a point write: those past the third are dropped, and a missing one is 0
abbrev pub thousandths_value : List ℕ → ℕ
thousandths_value cs = whole_value (take 3 (cs ++ codes "000"))

-- what may stand after the whole digits: nothing, or a point and any number of digits
abbrev pub IsEnding : List ℕ → Type 0
IsEnding [] = Unit {0}
IsEnding (c ∷ cs) = (c ≡ 46) × All IsAsciiDigit cs

-- the number that such a text writes, in thousandths
abbrev pub milli_value : List ℕ → ℕ
milli_value text = 1000 * whole_value (whole_part text) + thousandths_value (decimals text)

-- what a reader answers to a text that has its form or not, and the value where it has: each case excludes the others
abbrev pub ReadsNumber : Type 0 → ℕ → Result ℕ NumFault → Type 0
ReadsNumber IsForm value (Ok n) = IsForm × (value < 2 ^ 64) × (n ≡ value)
ReadsNumber IsForm value (Err NotANumber) = IsForm → ⊥
ReadsNumber IsForm value (Err TooLarge) = IsForm × (2 ^ 64 ≤ value)
