-- What decimal texts write, a digit at a time, and where a reader's answer comes from.
use Rattle.std.proofs.Common.{◌≡◌, ℕ, suc, ◌+◌, ◌-◌, ◌*◌, ◌^◌, ◌<◌, ◌≤◌, ◌↔◌, false, List, [], ◌∷◌, ◌++◌, length, take, drop, get_or, Option, Some, None, Result, Ok, Err, All, SomeIff, refl, ap, sym, ◌∙◌, subst, arith, length-append, add-one, inl, inr}
use Rattle.std.proofs.Math.Nat.{pow-le-pow_right, pow-suc}
use Rattle.std.proofs.Math.Seq.{drop-cons}
use Rattle.std.proofs.lemmas.List.{get_or_default, take_more, drop_all, drop-drop, length-take-le, get_or-take}
use Rattle.std.proofs.lemmas.List.Elements.{All-nil, AllWithin-more}
use Rattle.std.proofs.lemmas.List.Sums.{prefix_len-le-length, position_or_len_is, passes_at_first}
use Rattle.std.proofs.lemmas.Bool.{cases_lt, eqb-true}
use Rattle.std.specs.Char.{IsAsciiDigit}
use Rattle.std.specs.List.{AllWithin, position_or_len}
use Rattle.std.specs.Option.{ok_or}
use Rattle.dm_base.specs.declared.numbers.NumFault.{NumFault}
use Rattle.dm_base.specs.declared.numbers.NumFault.TheVariants.{NotANumber, TooLarge}
use Rattle.dm_base.specs.Numbers.{IsEnding, IsMilliText, ReadsNumber, is_point, milli_value, thousandths_value, whole_value}

push_step : (d p v w e : ℕ) → v ≡ w * 10 + e → d * (p * 10) + v ≡ (d * p + w) * 10 + e
push_step d p v w e h = omega arith

-- a digit more at the end
pub whole_value_push : (cs : List ℕ) (c : ℕ) → whole_value (cs ++ c ∷ []) ≡ whole_value cs * 10 + (c - 48)
whole_value_push [] c = omega arith
whole_value_push (x ∷ xs) c =
    let power : 10 ^ length (xs ++ c ∷ []) ≡ 10 ^ length xs * 10 = ap (λ n. 10 ^ n) (length-append xs (c ∷ []) ∙ omega arith) ∙ pow-suc 10 (length xs) in
    rw power (push_step (x - 48) (10 ^ length xs) (whole_value (xs ++ c ∷ [])) (whole_value xs) (c - 48) (whole_value_push xs c))

pub whole_value_more : (cs : List ℕ) (i : ℕ) → i < length cs → whole_value (take (i + 1) cs) ≡ whole_value (take i cs) * 10 + (get_or cs i 0 - 48)
whole_value_more cs i h = rw (take_more cs i 0 h) (whole_value_push (take i cs) (get_or cs i 0))

-- the three digits after a point, each 0 where it is missing
pub thousandths_value_is : (cs : List ℕ) → thousandths_value cs ≡ 100 * (get_or cs 0 48 - 48) + 10 * (get_or cs 1 48 - 48) + (get_or cs 2 48 - 48)
thousandths_value_is [] = omega arith
thousandths_value_is (a ∷ []) = omega arith
thousandths_value_is (a ∷ (b ∷ [])) = omega arith
thousandths_value_is (a ∷ (b ∷ (c ∷ cs))) = omega arith

-- the answer of a reader that found the form, and the value where it fits
pub reads_form : (F : Type 0) (value : ℕ) (o : Option ℕ) → F → SomeIff o (value < 2 ^ 64) value → ReadsNumber F value (ok_or o TooLarge)
reads_form F value (Some n) form fits = (form, fits.0, fits.1)
reads_form F value None form fits = (form, elim (cases_lt value (2 ^ 64)) [ inl low ↦ absurd (fits low) | inr high ↦ high ])

-- the causes of the two faults, each exactly
pub not_a_number_exactly : (F : Type 0) (value : ℕ) (r : Result ℕ NumFault) → ReadsNumber F value r → (r ≡ Err NotANumber) ↔ ¬ F
not_a_number_exactly F value (Ok n) reads = (λ same. let apart : ⊥ = cc in absurd apart, λ none. absurd (none reads.0))
not_a_number_exactly F value (Err NotANumber) reads = (λ _. reads, λ _. refl)
not_a_number_exactly F value (Err TooLarge) reads = (λ same. let apart : ⊥ = cc in absurd apart, λ none. absurd (none reads.0))

pub too_large_exactly : (F : Type 0) (value : ℕ) (r : Result ℕ NumFault) → ReadsNumber F value r → (r ≡ Err TooLarge) ↔ (F × (2 ^ 64 ≤ value))
too_large_exactly F value (Ok n) reads = (λ same. let apart : ⊥ = cc in absurd apart, λ large. absurd (omega (arith, reads.1, large.1)))
too_large_exactly F value (Err NotANumber) reads = (λ same. let apart : ⊥ = cc in absurd apart, λ large. absurd (reads large.0))
too_large_exactly F value (Err TooLarge) reads = (λ _. reads, λ _. refl)

pub digit_more : (text : List ℕ) (i : ℕ) → i < length text → AllWithin IsAsciiDigit text 0 i → IsAsciiDigit (get_or text i 0) → AllWithin IsAsciiDigit text 0 (i + 1)
digit_more text i low h digit = AllWithin-more IsAsciiDigit text 0 i h (λ d. rw (get_or_default text i d 0 low) digit)

front_digits : (text : List ℕ) (i : ℕ) → i ≤ length text → AllWithin IsAsciiDigit text 0 i → All IsAsciiDigit (take i text)
front_digits text i within h = λ k d below.
    let low : k < i = omega (arith, length-take-le i text within) in
    rw (get_or-take i text k d low) (h k d (omega arith) low)

-- the point, or the end, after the digits at the front
pub point_after : (text : List ℕ) (i : ℕ) → i ≤ length text → AllWithin IsAsciiDigit text 0 i → IsEnding (drop i text) → position_or_len is_point text ≡ i
point_after text i within h ending =
    position_or_len_is is_point text i 0 within
    (λ k low. no_point (get_or text k 0) (h k 0 (omega arith) low))
    (λ low. let at : IsEnding (get_or text i 0 ∷ drop (suc i) text) = rw (drop-cons text i 0 low) at ending in rw at.0 refl)
  where
    no_point : (c : ℕ) → IsAsciiDigit c → is_point c ≡ false
    no_point c digit = grind (arith, digit)

ending_decimals : (rest : List ℕ) → IsEnding rest → All IsAsciiDigit (drop 1 rest)
ending_decimals [] ending = All-nil IsAsciiDigit
ending_decimals (c ∷ cs) ending = ending.1

-- a text of digits and such an ending has the form, and its value is that of the two parts
pub milli_form : (text : List ℕ) (i : ℕ) → i ≤ length text → 0 < i → AllWithin IsAsciiDigit text 0 i → IsEnding (drop i text) → IsMilliText text
milli_form text i within some h ending =
    let place : position_or_len is_point text ≡ i = point_after text i within h ending in
    let rest : All IsAsciiDigit (drop (i + 1) text) = rw (drop-drop 1 i text) at (ending_decimals (drop i text) ending) in
    record {
      whole = rw place (record { some = omega (arith, length-take-le i text within); digits = front_digits text i within h });
      decimal = rw place rest;
    }

pub milli_value_is : (text : List ℕ) (i : ℕ) → i ≤ length text → AllWithin IsAsciiDigit text 0 i → IsEnding (drop i text)
    → milli_value text ≡ 1000 * whole_value (take i text) + thousandths_value (drop 1 (drop i text))
milli_value_is text i within h ending = rw (point_after text i within h ending, drop-drop 1 i text) refl

-- where the digits at the front end, a text of the form has its point or its end
milli_place : (text : List ℕ) (i : ℕ) → i ≤ length text → AllWithin IsAsciiDigit text 0 i → (i < length text → ¬ IsAsciiDigit (get_or text i 0))
    → IsMilliText text → position_or_len is_point text ≡ i
milli_place text i within h ends form =
    elim (cases_lt i place) [
      | inl low ↦ absurd (ends (omega (arith, in_text, low)) (in_whole low))
      | inr high ↦
          elim (cases_lt place i) [ inl low ↦ absurd (in_front low) | inr ge ↦ omega arith ]
    ]
  where
    place : ℕ
    place = position_or_len is_point text

    in_text : place ≤ length text
    in_text = prefix_len-le-length _ text

    in_whole : i < place → IsAsciiDigit (get_or text i 0)
    in_whole low = rw (get_or-take place text i 0 low) at (form.whole.digits i 0 (omega (arith, length-take-le place text in_text)))

    in_front : place < i → ⊥
    in_front low =
        let point : get_or text place 0 ≡ 46 = eqb-true (get_or text place 0) 46 (passes_at_first is_point text 0 (omega (arith, low, within))) in
        let digit : 48 ≤ get_or text place 0 = (h place 0 (omega arith) low).0 in
        omega arith

pub milli_ending : (text : List ℕ) (i : ℕ) → i ≤ length text → AllWithin IsAsciiDigit text 0 i → (i < length text → ¬ IsAsciiDigit (get_or text i 0))
    → IsMilliText text → (0 < i) × IsEnding (drop i text)
milli_ending text i within h ends form = (some, ending)
  where
    place : position_or_len is_point text ≡ i
    place = milli_place text i within h ends form

    some : 0 < i
    some = omega (arith, place, form.whole.some, length-take-le i text within, ap (λ n. length (take n text)) place)

    rest : All IsAsciiDigit (drop (suc i) text)
    rest = let next : position_or_len is_point text + 1 ≡ suc i = omega (arith, place) in subst (λ n. All IsAsciiDigit (drop n text)) next form.decimal

    point : i < length text → get_or text i 0 ≡ 46
    point low = eqb-true (get_or text i 0) 46 (rw place at (passes_at_first is_point text 0 (omega (arith, place))))

    ending : IsEnding (drop i text)
    ending = elim (cases_lt i (length text)) [ inl low ↦ rw (drop-cons text i 0 low) (point low, rest) | inr high ↦ rw (drop_all i text high) tt ]

-- the answer from the digits at the front, the thousandths after them, and their sum where it fits
pub milli_reads : (text : List ℕ) (i thousandths : ℕ) (sum : Option ℕ) → i ≤ length text → 0 < i → AllWithin IsAsciiDigit text 0 i → IsEnding (drop i text)
    → thousandths ≡ thousandths_value (drop 1 (drop i text))
    → SomeIff sum (1000 * whole_value (take i text) + thousandths < 2 ^ 64) (1000 * whole_value (take i text) + thousandths)
    → ReadsNumber (IsMilliText text) (milli_value text) (ok_or sum TooLarge)
milli_reads text i thousandths sum within some h ending e fits =
    let value : milli_value text ≡ 1000 * whole_value (take i text) + thousandths = milli_value_is text i within h ending ∙ sym (ap (λ n. 1000 * whole_value (take i text) + n) e) in
    reads_form (IsMilliText text) (milli_value text) sum (milli_form text i within some h ending)
    (let Fits : ℕ → Type 0 = λ n. SomeIff sum (n < 2 ^ 64) n in subst Fits (sym value) fits)

-- a number of so many digits
pub one_digit_more : (n d i : ℕ) → n < 10 ^ i → d < 10 → n * 10 + d < 10 ^ (i + 1)
one_digit_more n d i small digit =
    let power = pow-suc 10 i in
    rw (add-one) (omega (arith, power))

-- so many digits are few
pub fewer_digits : (i n : ℕ) → i ≤ n → 10 ^ i ≤ 10 ^ n
fewer_digits i n h = pow-le-pow_right {n = 10} (omega arith) {i = i} {j = n} h
