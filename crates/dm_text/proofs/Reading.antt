-- A text or a number in front of a line, and what stands behind it: read where it stands there, and nowhere else.
use Rattle.std.proofs.Common.{◌≡◌, ◌≢◌, ℕ, zero, suc, ◌+◌, ◌-◌, ◌*◌, ◌/◌, ◌%◌, ◌^◌, ◌<◌, ◌≤◌, Bool, true, false, cond, eqb, leb, not, List, [], ◌∷◌, ◌++◌, length, take, drop, get_or, Option, Some, None, MatchOption, SomeIff, All, Bor, refl, sym, ap, arith, ◌∙◌, inl, inr, ◌&&◌}
use Rattle.std.specs.Option.{option_map}
use Rattle.std.specs.List.{prefix_len}
use Rattle.std.specs.Char.{is_ascii_digit, IsAsciiDigit}
use Rattle.std.specs.Fmt.{decimal}
use Rattle.std.proofs.Math.Nat.{pow-suc}
use Rattle.std.proofs.Math.Seq.{take-append_seam, drop-append_seam}
use Rattle.std.proofs.lemmas.Bool.{cases_lt, eqb-true, eq-eqb, lt-leb, le-leb, leb-true, ne_eqb}
use Rattle.std.proofs.lemmas.Bool.Decides.{nat_tests}
use Rattle.std.proofs.lemmas.Fmt.{decimal_digit, decimal_step_wide}
use Rattle.std.proofs.lemmas.List.{take-append-drop, get_or_append_left, get_or-take, take_all, take_rest}
use Rattle.std.proofs.lemmas.List.Sums.{prefix_len_passes}
use Rattle.std.proofs.lemmas.List.Folds.{prefix_len-append, length-prefix_len}
use Rattle.dm_base.specs.Numbers.{whole_value, IsDigits}
use Rattle.dm_base.proofs.Decimals.{IsPlain, IsDigits-decimal, whole_value-decimal, decimal-whole_value}
use Rattle.dm_text.specs.Inside.Parts.{behind, number_in_front, is_plain, plain_value, number_before}

-- ---- a text

pub behind_back : (text rest : List ℕ) → behind text (text ++ rest) ≡ Some rest
unfolding behind
behind_back [] rest = refl
behind_back (c ∷ text) rest = rw (eq-eqb c c refl) (behind_back text rest)

none_some : {A : Type 0} {x : A} → None ≡ Some x → ⊥
none_some e = cc

same_tail : (b : Bool) (c d : ℕ) (text line rest : List ℕ) → eqb c d ≡ b → (behind text line ≡ Some rest → line ≡ text ++ rest) →
    cond b (behind text line) None ≡ Some rest → d ∷ line ≡ c ∷ (text ++ rest)
same_tail true c d text line rest is more e = let tail = more e in let head = eqb-true c d is in cc
same_tail false c d text line rest is more e = absurd (none_some e)

pub behind_is : (text line rest : List ℕ) → behind text line ≡ Some rest → line ≡ text ++ rest
unfolding behind
behind_is [] line rest e = cc
behind_is (c ∷ text) [] rest e = absurd (none_some e)
behind_is (c ∷ text) (d ∷ line) rest e = same_tail (eqb c d) c d text line rest refl (behind_is text line rest) e

-- what std says of a stripped front
pub stripped : (text line : List ℕ) (r : Option (Bor (List ℕ))) → MatchOption r ((rest : List ℕ) → line ≢ text ++ rest) (λ x. line ≡ text ++ x.now) →
    option_map (λ x. x.now) r ≡ behind text line
stripped text line (Some x) is = sym (ap (behind text) is ∙ behind_back text x.now)
stripped text line None none = nothing (behind text line) refl
  where
    nothing : (o : Option (List ℕ)) → behind text line ≡ o → None ≡ behind text line
    nothing None e = sym e
    nothing (Some rest) e = absurd (none rest (behind_is text line rest e))

-- ---- digits

digit_passes : (c : ℕ) → IsAsciiDigit c → is_ascii_digit c ≡ true
digit_passes c h = grind (arith, nat_tests)

passing_digit : (c : ℕ) → is_ascii_digit c ≡ true → IsAsciiDigit c
passing_digit c h = grind (arith, nat_tests)

pub front_digits : (line : List ℕ) → All IsAsciiDigit (take (prefix_len is_ascii_digit line) line)
front_digits line = λ k d below.
    let short : length (take (prefix_len is_ascii_digit line) line) ≡ prefix_len is_ascii_digit line = length-prefix_len is_ascii_digit line in
    let low : k < prefix_len is_ascii_digit line = omega arith in
    rw (get_or-take (prefix_len is_ascii_digit line) line k d low) (passing_digit _ (prefix_len_passes is_ascii_digit line k d low))

all_digits : (xs : List ℕ) → All IsAsciiDigit xs → prefix_len is_ascii_digit xs ≡ length xs
all_digits [] all = refl
all_digits (c ∷ xs) all =
    rw (digit_passes c (all 0 0 (omega arith)))
    (let rest = all_digits xs (λ k d below. all (suc k) d (omega arith)) in omega arith)

-- no digit stands in front
abbrev pub EndsNumber : List ℕ → Type 0
EndsNumber rest = prefix_len is_ascii_digit rest ≡ 0

number_prefix : (digits rest : List ℕ) → All IsAsciiDigit digits → EndsNumber rest → prefix_len is_ascii_digit (digits ++ rest) ≡ length digits
number_prefix digits rest all ends =
    prefix_len-append is_ascii_digit digits rest
    ∙ rw (all_digits digits all, eq-eqb (length digits) (length digits) refl, ends) (omega arith)

-- ---- plain digits

div_low : (n p : ℕ) → n < p * 10 → n / 10 < p
div_low n p low = omega arith

first_digit : (k n : ℕ) → n < 10 ^ k → 0 < n → n < 10 ^ 64 → 48 < get_or (decimal n) 0 0
first_digit zero n low some small = absurd (omega arith)
first_digit (suc k) n low some small =
    elim (cases_lt n 10) [
      | inl less ↦ rw (decimal_digit n less) (omega arith)
      | inr more ↦
          let shorter : n / 10 < 10 ^ k = div_low n (10 ^ k) (rw (pow-suc 10 k) at low) in
          let some_left : 0 < n / 10 = omega (arith, more) in
          let small_left : n / 10 < 10 ^ 64 = omega arith in
          let long : 0 < length (decimal (n / 10)) = (IsDigits-decimal (n / 10) small_left).some in
          rw (decimal_step_wide n more small, get_or_append_left (decimal (n / 10)) ((48 + n % 10) ∷ []) 0 0 long)
          (first_digit k (n / 10) shorter some_left small_left)
    ]

plain_from : (cs : List ℕ) → 48 < get_or cs 0 0 → is_plain cs ≡ true
plain_from [] high = absurd (omega arith)
plain_from (c ∷ []) high = refl
plain_from (c ∷ (d ∷ cs)) high = let e : eqb c 48 ≡ false = ne_eqb c 48 (λ same. absurd (omega arith)) in rw e refl

pub plain_decimal : (n : ℕ) → n < 10 ^ 64 → is_plain (decimal n) ≡ true
plain_decimal n small =
    elim (cases_lt 0 n) [
      | inl some ↦ plain_from (decimal n) (first_digit 64 n small some small)
      | inr none ↦ rw (decimal_digit n (omega (arith, none))) refl
    ]

is_plain_back : (cs : List ℕ) → is_plain cs ≡ true → (0 < length cs) × IsPlain cs
is_plain_back [] e = cc
is_plain_back (c ∷ []) e = (omega arith, λ _. refl)
is_plain_back (c ∷ (d ∷ cs)) e = (omega arith, λ zero. let f : not (eqb c 48) ≡ false = rw (eq-eqb c 48 zero) refl in absurd (let g : true ≡ false = sym e ∙ f in cc))

-- ---- the value of plain digits

pub no_value_unless_plain : (largest : ℕ) (digits : List ℕ) → is_plain digits ≡ false → plain_value largest digits ≡ None
no_value_unless_plain largest digits e = rw e refl

pub no_value_above : (largest : ℕ) (digits : List ℕ) → largest < whole_value digits → plain_value largest digits ≡ None
no_value_above largest digits above = falls (is_plain digits) (leb (whole_value digits) largest) (lt-leb (whole_value digits) largest above) (whole_value digits)
  where
    falls : (a b : Bool) → b ≡ false → (n : ℕ) → cond (a && b) (Some n) None ≡ None
    falls true b e n = rw e refl
    falls false b e n = refl

pub value_is : (largest : ℕ) (digits : List ℕ) → is_plain digits ≡ true → whole_value digits ≤ largest → plain_value largest digits ≡ Some (whole_value digits)
value_is largest digits plain fits = rw (plain, le-leb (whole_value digits) largest fits) refl

value_back : (largest n : ℕ) (digits : List ℕ) → plain_value largest digits ≡ Some n → (is_plain digits ≡ true) × (whole_value digits ≡ n) × (n ≤ largest)
value_back largest n digits e = back (is_plain digits) (leb (whole_value digits) largest) refl refl e
  where
    back : (a b : Bool) → is_plain digits ≡ a → leb (whole_value digits) largest ≡ b → cond (a && b) (Some (whole_value digits)) None ≡ Some n →
        (is_plain digits ≡ true) × (whole_value digits ≡ n) × (n ≤ largest)
    back true true p l e =
        let same : whole_value digits ≡ n = cc in
        let low : whole_value digits ≤ largest = leb-true (whole_value digits) largest l in
        (p, same, omega arith)
    back true false p l e = absurd (none_some e)
    back false b p l e = absurd (none_some e)

-- ---- a number

pub number_back : (largest n : ℕ) (rest : List ℕ) → n ≤ largest → largest < 10 ^ 64 → EndsNumber rest → number_in_front largest (decimal n ++ rest) ≡ Some (n, rest)
unfolding number_in_front
number_back largest n rest fits small ends =
    let written = IsDigits-decimal n (omega arith) in
    let k : prefix_len is_ascii_digit (decimal n ++ rest) ≡ length (decimal n) = number_prefix (decimal n) rest written.digits ends in
    let value : whole_value (decimal n) ≡ n = whole_value-decimal n (omega arith) in
    let plain = plain_decimal n (omega arith) in
    let read : plain_value largest (decimal n) ≡ Some (whole_value (decimal n)) = value_is largest (decimal n) plain (omega arith) in
    rw (k, take-append_seam (decimal n) rest, drop-append_seam (decimal n) rest, read, value) refl

pub record StandsInFront (largest n : ℕ) (line rest : List ℕ) : Type 0 where
  pub line_is : line ≡ decimal n ++ rest
  pub fits : n ≤ largest

before_some : (rest more : List ℕ) (o : Option ℕ) (n : ℕ) → number_before rest o ≡ Some (n, more) → (o ≡ Some n) × (rest ≡ more)
before_some rest more (Some m) n e =
    let p : (m, rest) ≡ (n, more) = cc in
    (ap (λ (q : ℕ × List ℕ). Some q.0) p, ap (λ (q : ℕ × List ℕ). q.1) p)
before_some rest more None n e = absurd (none_some e)

pub number_is : (largest n : ℕ) (line rest : List ℕ) → largest < 10 ^ 64 → number_in_front largest line ≡ Some (n, rest) → StandsInFront largest n line rest
unfolding number_in_front
number_is largest n line rest small e =
    let k = prefix_len is_ascii_digit line in
    let digits = take k line in
    let parts = before_some (drop k line) rest (plain_value largest digits) n e in
    let value = value_back largest n digits parts.0 in
    let shape = is_plain_back digits value.0 in
    let form : IsDigits digits = record { some = shape.0; digits = front_digits line } in
    let spelled : decimal (whole_value digits) ≡ digits = decimal-whole_value digits form shape.1 (omega (arith, value.1, value.2)) in
    let same : decimal n ≡ digits = ap decimal (sym value.1) ∙ spelled in
    record {
      line_is = sym (take-append-drop k line) ∙ rw (same, parts.1) refl;
      fits = value.2;
    }

-- ---- how the code comes to its answer

pub read_unless_plain : (largest end : ℕ) (line : List ℕ) → end ≡ prefix_len is_ascii_digit line → is_plain (take end line) ≡ false → None ≡ number_in_front largest line
unfolding number_in_front
read_unless_plain largest end line at e =
    let f : is_plain (take (prefix_len is_ascii_digit line) line) ≡ false = rw (← at) e in
    rw (no_value_unless_plain largest (take (prefix_len is_ascii_digit line) line) f) refl

pub read_none : (largest end : ℕ) (line : List ℕ) → end ≡ prefix_len is_ascii_digit line → largest < 2 ^ 128 →
    SomeIff None (whole_value (take end line) < 2 ^ 128) (whole_value (take end line)) → None ≡ number_in_front largest line
unfolding number_in_front
read_none largest end line at small none =
    let above : largest < whole_value (take (prefix_len is_ascii_digit line) line) = rw (← at) (elim (cases_lt (whole_value (take end line)) (2 ^ 128)) [ inl low ↦ absurd (none low) | inr high ↦ omega arith ]) in
    rw (no_value_above largest (take (prefix_len is_ascii_digit line) line) above) refl

pub read_above : (largest end value : ℕ) (line : List ℕ) → end ≡ prefix_len is_ascii_digit line →
    SomeIff (Some value) (whole_value (take end line) < 2 ^ 128) (whole_value (take end line)) → largest < value → None ≡ number_in_front largest line
unfolding number_in_front
read_above largest end value line at is high =
    let above : largest < whole_value (take (prefix_len is_ascii_digit line) line) = rw (← at) (omega (arith, is.1)) in
    rw (no_value_above largest (take (prefix_len is_ascii_digit line) line) above) refl

pub read_number : (largest end value : ℕ) (line : List ℕ) → end ≡ prefix_len is_ascii_digit line → is_plain (take end line) ≡ true →
    SomeIff (Some value) (whole_value (take end line) < 2 ^ 128) (whole_value (take end line)) → value ≤ largest →
    Some (value, take (length line - end) (drop end line)) ≡ number_in_front largest line
unfolding number_in_front
read_number largest end value line at plain is low =
    let f : is_plain (take (prefix_len is_ascii_digit line) line) ≡ true = rw (← at) plain in
    let same : whole_value (take (prefix_len is_ascii_digit line) line) ≡ value = rw (← at) (omega (arith, is.1)) in
    let read : plain_value largest (take (prefix_len is_ascii_digit line) line) ≡ Some (whole_value (take (prefix_len is_ascii_digit line) line)) = value_is largest (take (prefix_len is_ascii_digit line) line) f (omega (arith, same)) in
    rw (read, same, take_rest line end, at) refl

-- where every byte is a digit, the digits in front are all
pub all_read : (digits : List ℕ) (count : ℕ) → All IsAsciiDigit digits → count ≤ length digits → (count < length digits → ¬ IsAsciiDigit (get_or digits count 0))
    → take count digits ≡ digits
all_read digits count all within ends =
    elim (cases_lt count (length digits)) [
      | inl low ↦ absurd (ends low (all count 0 low))
      | inr high ↦ take_all count digits high
    ]
