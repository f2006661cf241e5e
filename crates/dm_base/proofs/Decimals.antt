-- The decimal spelling of a number, which `{}` writes, and the number that it writes.
use Rattle.std.proofs.Common.{◌≡◌, ◌≢◌, ℕ, zero, suc, ◌+◌, ◌-◌, ◌*◌, ◌/◌, ◌%◌, ◌^◌, ◌<◌, ◌≤◌, List, [], ◌∷◌, ◌++◌, length, take, get_or, refl, sym, ap, subst, arith, ◌∙◌}
use Rattle.std.proofs.Math.Nat.{one-le-pow, mul-pos}
use Rattle.std.specs.Char.{IsAsciiDigit}
use Rattle.std.specs.Fmt.{decimal}
use Rattle.std.specs.Int.{IsInRange}
use Rattle.std.proofs.lemmas.Fmt.{decimal_is_IsNumeral_wide, decimal_digit, decimal_step_wide}
use Rattle.std.proofs.lemmas.List.{get_or_default, get_or-take, length-take-le, take_all, take_more}
use Rattle.std.proofs.lemmas.List.Elements.{All-take}
use Rattle.std.proofs.lemmas.Str.Parse.{IsNumeralModel, numerals_by_weight, tells_by_index}
use Rattle.dm_base.specs.Numbers.{IsDigits, whole_value}
use Rattle.dm_base.proofs.NumberLemmas.{whole_value_push}

abbrev AreInRange : List ℕ → Type 0
AreInRange ds = (i : ℕ) → i < length ds → IsInRange 48 57 (get_or ds i 0)

-- std's words for decimal digits and their value, and these of `Numbers`, say the same
pub whole_values : IsNumeralModel AreInRange whole_value
whole_values = numerals_by_weight AreInRange tells_by_index whole_value (record { empty = refl; more = λ c cs _. refl })

-- the spelling of a number is digits, and they write that number
pub IsDigits-decimal : (n : ℕ) → n < 10 ^ 64 → IsDigits (decimal n)
IsDigits-decimal n small =
    let spelled = decimal_is_IsNumeral_wide n small in
    let digits : AreInRange (decimal n) = whole_values.from (decimal n) spelled.0.1 in
    record { some = spelled.0.0; digits = λ k d below. rw (get_or_default (decimal n) k d 0 below) (digits k below) }

pub whole_value-decimal : (n : ℕ) → n < 10 ^ 64 → whole_value (decimal n) ≡ n
whole_value-decimal n small = let spelled = decimal_is_IsNumeral_wide n small in whole_values.same (decimal n) spelled.0.1 ∙ spelled.1

-- a first digit above 0 makes the number above 0
positive : (c : ℕ) (cs : List ℕ) → 48 < c → 0 < whole_value (c ∷ cs)
positive c cs high =
    let power : 1 ≤ 10 ^ length cs = one-le-pow (length cs) 10 (omega arith) in
    let first : 0 < (c - 48) * 10 ^ length cs = mul-pos (omega arith) (omega arith) in
    omega arith

-- no leading zero, unless the text is 0
abbrev pub IsPlain : List ℕ → Type 0
IsPlain cs = get_or cs 0 0 ≡ 48 → length cs ≡ 1

above_zero : (cs : List ℕ) → IsDigits cs → get_or cs 0 0 ≢ 48 → 0 < whole_value cs
above_zero [] form plain = absurd (omega (arith, form.some))
above_zero (c ∷ cs) form plain =
    let digit : IsAsciiDigit c = form.digits 0 0 form.some in
    positive c cs (omega (arith, digit.0, plain))

last_digit : (n v d : ℕ) → n ≡ v * 10 + d → d < 10 → (n / 10 ≡ v) × (n % 10 ≡ d)
last_digit n v d e low = (omega arith, omega arith)

spelled_more : (ds : List ℕ) (c : ℕ) → 0 < whole_value ds → IsAsciiDigit c → whole_value (ds ++ c ∷ []) < 10 ^ 64 → decimal (whole_value ds) ≡ ds
    → decimal (whole_value (ds ++ c ∷ [])) ≡ ds ++ c ∷ []
spelled_more ds c high digit small before =
    let value : whole_value (ds ++ c ∷ []) ≡ whole_value ds * 10 + (c - 48) = whole_value_push ds c in
    let parts = last_digit (whole_value (ds ++ c ∷ [])) (whole_value ds) (c - 48) value (omega (arith, digit.0, digit.1)) in
    let glyph : 48 + (c - 48) ≡ c = omega (arith, digit.0) in
    decimal_step_wide (whole_value (ds ++ c ∷ [])) (omega arith) small ∙ rw (parts.0, parts.1, before, glyph) refl

spelled : (k : ℕ) (cs : List ℕ) → length cs ≡ suc k → IsDigits cs → IsPlain cs → whole_value cs < 10 ^ 64 → decimal (whole_value cs) ≡ cs
spelled zero [] e form plain small = absurd (omega (arith, form.some))
spelled zero (c ∷ []) e form plain small =
    let digit : IsAsciiDigit c = form.digits 0 0 form.some in
    let value : whole_value (c ∷ []) ≡ c - 48 = omega arith in
    rw value (decimal_digit (c - 48) (omega (arith, digit.0, digit.1)) ∙ ap (λ d. d ∷ []) (omega (arith, digit.0)))
spelled zero (c ∷ (d ∷ cs)) e form plain small = absurd (omega arith)
spelled (suc k) cs e form plain small =
    let low : suc k < length cs = omega (arith, e) in
    let split : cs ≡ take (suc k) cs ++ get_or cs (suc k) 0 ∷ [] = sym (take_all (suc k + 1) cs (omega (arith, e))) ∙ take_more cs (suc k) 0 low in
    let long : length (take (suc k) cs) ≡ suc k = length-take-le (suc k) cs (omega (arith, low)) in
    let front : IsDigits (take (suc k) cs) = record { some = omega (arith, long); digits = All-take IsAsciiDigit (suc k) cs form.digits } in
    let first : get_or (take (suc k) cs) 0 0 ≡ get_or cs 0 0 = get_or-take (suc k) cs 0 0 (omega arith) in
    let high : get_or (take (suc k) cs) 0 0 ≢ 48 = λ zero_first. absurd (omega (arith, e, plain (sym first ∙ zero_first))) in
    let more : whole_value (take (suc k) cs ++ get_or cs (suc k) 0 ∷ []) < 10 ^ 64 = subst (λ xs. whole_value xs < 10 ^ 64) split small in
    let less : whole_value (take (suc k) cs) < 10 ^ 64 = omega (arith, more, whole_value_push (take (suc k) cs) (get_or cs (suc k) 0)) in
    subst (λ (xs : List ℕ). decimal (whole_value xs) ≡ xs) (sym split)
    (spelled_more (take (suc k) cs) (get_or cs (suc k) 0) (above_zero (take (suc k) cs) front high) (form.digits (suc k) 0 low) more
    (spelled k (take (suc k) cs) long front (λ zero_first. absurd (high zero_first)) less))

-- digits with no leading zero, or a lone 0, are the spelling of what they write
pub decimal-whole_value : (cs : List ℕ) → IsDigits cs → IsPlain cs → whole_value cs < 10 ^ 64 → decimal (whole_value cs) ≡ cs
decimal-whole_value [] form plain small = absurd (omega (arith, form.some))
decimal-whole_value (c ∷ cs) form plain small = spelled (length cs) (c ∷ cs) (omega arith) form plain small
