-- How a line is read from its front.
use Rattle.std.specs.Prelude.{ℕ, ◌==◌, Bool, true, false, ◌&&◌, not, nat_le, if◌then◌else◌, List, [], ◌∷◌, take, drop, Option, Some, None}
use Rattle.std.specs.List.{prefix_len}
use Rattle.std.specs.Char.{is_ascii_digit}
use Rattle.dm_base.specs.Numbers.{whole_value}

-- what stands behind the text, where the line begins with it
unfoldable pub behind : List ℕ → List ℕ → Option (List ℕ)
behind [] line = Some line
behind (c ∷ text) [] = None
behind (c ∷ text) (d ∷ line) = if c == d then behind text line else None

-- there are digits, and no zero stands before another one
abbrev pub is_plain : List ℕ → Bool
is_plain [] = false
is_plain (c ∷ []) = true
is_plain (c ∷ d ∷ cs) = not (c == 48)

-- the number that digits write, where they are written as in print and it is not above the largest
abbrev pub plain_value : ℕ → List ℕ → Option ℕ
plain_value largest digits = if is_plain digits && nat_le (whole_value digits) largest then Some (whole_value digits) else None

-- a number, and what stands behind it
abbrev pub number_before : List ℕ → Option ℕ → Option (ℕ × List ℕ)
number_before rest (Some n) = Some (n, rest)
number_before rest None = None

-- the number whose digits stand in front, and what stands behind them
unfoldable pub number_in_front : ℕ → List ℕ → Option (ℕ × List ℕ)
number_in_front largest line =
    number_before (drop (prefix_len is_ascii_digit line) line) (plain_value largest (take (prefix_len is_ascii_digit line) line))
