-- Texts of digits: they are their own cells, and the number grows by a digit at a time.
use Rattle.std.proofs.Common.{◌≡◌, ◌≤◌, ◌<◌, ◌+◌, ◌-◌, ◌*◌, ◌^◌, ◌∙◌, ℕ, suc, true, false, List, [], ◌∷◌, ◌++◌, length, take, reverse, get_or, inl, inr, Option, Some, None, IfSome, refl, ap, subst, sym, arith, add-one}
use Rattle.std.proofs.Math.Nat.{pow-le-pow_right, pow-suc}
use Rattle.std.proofs.lemmas.Bool.{cases_Bool, ne_eqb}
use Rattle.std.proofs.lemmas.List.{drop_all, length-reverse, reverse-append, take_all}
use Rattle.std.proofs.lemmas.List.Sums.{suffix_len_is}
use Rattle.std.specs.Char.{IsAsciiDigit}
use Rattle.std.specs.List.{prefix_len, suffix_len}
use Rattle.dm_base.specs.Numbers.{IsDigits, IsMilliText, milli_value, whole_value}
use Rattle.dm_base.proofs.NumberLemmas.{milli_form, milli_value_is}
use Rattle.dm_lintim.specs.Inside.Reader.{begins_with_digit}
use Rattle.dm_lintim.specs.Pieces.{cell_of, is_blank, is_passed_over, is_quoted, unquoted, without_end_blanks, without_front_blanks}
use Rattle.dm_lintim.specs.Files.{IsNoWord, TakesBy, TakesField, Use, largest_of, passed_over, thousandths, use_of, whole, word}
use Rattle.dm_lintim.specs.Inside.Values.{HoldsNumber, IsNumberUse, IsNumberUnder, number_by, units_by, units_of}
use Rattle.dm_lintim.specs.declared.columns.Column.{Column}

no_blank : (c : ℕ) → IsAsciiDigit c → is_blank c ≡ false
no_blank c digit = grind (arith, digit)

no_quote : (c : ℕ) → IsAsciiDigit c → c ≡ 34 → ⊥
no_quote c digit e = omega (arith, digit)

no_end_blanks : (text : List ℕ) → IsDigits text → without_end_blanks text ≡ text
no_end_blanks text digits =
    let last : 0 < length text → is_blank (get_or text (length text - 1) 0) ≡ false = λ low. no_blank _ (digits.digits (length text - 1) 0 (omega arith)) in
    let none : suffix_len is_blank text ≡ length text - length text = suffix_len_is is_blank text (length text) 0 (omega arith) (λ k low high. absurd (omega arith)) last in
    take_all (length text - suffix_len is_blank text) text (omega (arith, none))

no_quotes : (text : List ℕ) → IsDigits text → unquoted text ≡ text
no_quotes text digits =
    let first = ne_eqb (get_or text 0 0) 34 (no_quote _ (digits.digits 0 0 digits.some)) in
    let bare : is_quoted text ≡ false = grind (arith, first) in
    rw bare refl

-- where a field holds digits after its blanks, they are its cell
pub digits_are_cell : (field : List ℕ) → IsDigits (without_front_blanks field) → without_front_blanks field ≡ cell_of field
digits_are_cell field digits =
    let text = without_front_blanks field in
    sym (ap unquoted (no_end_blanks text digits) ∙ no_quotes text digits)

-- a number of so many digits
pub one_digit_more : (n d i : ℕ) → n < 10 ^ i → d < 10 → n * 10 + d < 10 ^ (i + 1)
one_digit_more n d i small digit =
    let power = pow-suc 10 i in
    rw (add-one) (omega (arith, power))

pub digits_are_milli : (text : List ℕ) → IsDigits text → IsMilliText text
digits_are_milli text digits =
    milli_form text (length text) (omega arith) digits.some (λ k d low high. digits.digits k d high) (rw (drop_all (length text) text (omega arith)) tt)

pub milli_of_digits : (text : List ℕ) → IsDigits text → milli_value text ≡ 1000 * whole_value text
milli_of_digits text digits =
    let none = drop_all (length text) text (omega arith) in
    let all = take_all (length text) text (omega arith) in
    rw (milli_value_is text (length text) (omega arith) (λ k d low high. digits.digits k d high) (rw none tt), none, all) (omega arith)

pub few_digits : (i n : ℕ) → i ≤ n → 10 ^ i ≤ 10 ^ n
few_digits i n h = pow-le-pow_right {n = 10} (omega arith) {i = i} {j = n} h

-- what the text after the blanks gives is what the cell gives
pub usual : (field text : List ℕ) (o : Option ℕ) → text ≡ without_front_blanks field → IfSome o (λ n. IsDigits text × (n ≡ whole_value text))
    → IfSome o (λ n. IsDigits (cell_of field) × (n ≡ whole_value (cell_of field)))
usual field text None is gives = gives
usual field text (Some n) is gives =
    let same : text ≡ cell_of field = is ∙ digits_are_cell field (subst IsDigits is gives.0) in
    (subst IsDigits same gives.0, gives.1 ∙ ap whole_value same)

stops_within : (xs : List ℕ) (c : ℕ) → is_blank c ≡ false → prefix_len is_blank (xs ++ c ∷ []) ≤ length xs
stops_within [] c e = rw e (omega arith)
stops_within (x ∷ xs) c e =
    let more = stops_within xs c e in
    elim (cases_Bool (is_blank x)) [ inl on ↦ rw on (omega (arith, more)) | inr off ↦ rw off (omega arith) ]

-- a field that begins with a digit has a cell that begins with it
cell_begins : (c : ℕ) (cs : List ℕ) → IsAsciiDigit c → (rest : List ℕ) × (cell_of (c ∷ cs) ≡ c ∷ rest)
cell_begins c cs digit = (take kept cs, whole)
  where
    bare : is_blank c ≡ false
    bare = no_blank c digit

    few : suffix_len is_blank (c ∷ cs) ≤ length cs
    few = rw (reverse-append (c ∷ []) cs) (omega (arith, stops_within (reverse cs) c bare, length-reverse cs))

    kept : ℕ
    kept = length cs - suffix_len is_blank (c ∷ cs)

    front : without_front_blanks (c ∷ cs) ≡ c ∷ cs
    front = rw bare refl

    trimmed : without_end_blanks (c ∷ cs) ≡ c ∷ take kept cs
    trimmed = let more : length (c ∷ cs) - suffix_len is_blank (c ∷ cs) ≡ suc kept = omega (arith, few) in rw more refl

    unquoted_is : unquoted (c ∷ take kept cs) ≡ c ∷ take kept cs
    unquoted_is =
        let other = ne_eqb c 34 (no_quote c digit) in
        let no : is_quoted (c ∷ take kept cs) ≡ false = grind (arith, other) in
        rw no refl

    whole : cell_of (c ∷ cs) ≡ c ∷ take kept cs
    whole = ap (λ t. unquoted (without_end_blanks t)) front ∙ ap unquoted trimmed ∙ unquoted_is

no_comment : (c : ℕ) (rest : List ℕ) (cells : List (List ℕ)) → IsAsciiDigit c → is_passed_over ((c ∷ rest) ∷ cells) ≡ false
no_comment c rest cells digit = ne_eqb c 35 (λ e. omega (arith, digit, e))

-- a record whose first field begins with a digit counts
pub counts_by_digit : (cells : List (List ℕ)) (field : List ℕ) → cell_of field ≡ get_or cells 0 [] → begins_with_digit field ≡ true → is_passed_over cells ≡ false
counts_by_digit [] field is begins = refl
counts_by_digit (cell ∷ cells) [] is begins = cc begins
counts_by_digit (cell ∷ cells) (c ∷ cs) is begins =
    let digit : IsAsciiDigit c = grind (arith, begins) in
    let first = cell_begins c cs digit in
    rw (sym is ∙ first.1) (no_comment c first.0 cells digit)

-- a text of digits under a column that holds numbers
usual_by : (u : Use) (column : Column) (text : List ℕ) (digits number : ℕ) → IsNumberUse u → IsDigits text → digits ≡ whole_value text
    → number ≡ units_by u * digits → number ≤ largest_of column → TakesBy u IsNoWord column text × (number ≡ number_by u text)
usual_by whole column text digits number holds form value is fits = ((form, omega (arith, value, is, fits)), omega (arith, value, is))
usual_by thousandths column text digits number holds form value is fits =
    let same = milli_of_digits text form in
    ((digits_are_milli text form, omega (arith, value, is, fits, same)), omega (arith, value, is, same))
usual_by word column text digits number holds form value is fits = absurd holds
usual_by passed_over column text digits number holds form value is fits = absurd holds

pub usual_is : (column : Column) (text : List ℕ) (digits number : ℕ) → HoldsNumber column → IsDigits text → digits ≡ whole_value text
    → number ≡ units_of column * digits → number ≤ largest_of column → IsNumberUnder column text number
usual_is column text digits number holds form value is fits =
    let both = usual_by (use_of column) column text digits number holds form value is fits in
    record { holds = holds; takes = both.0; value = both.1; fits = fits }

-- no type word matters to a column that holds numbers
takes_by : (u : Use) (IsKnown : List ℕ → Type 0) (column : Column) (text : List ℕ) → IsNumberUse u → TakesBy u IsNoWord column text → TakesBy u IsKnown column text
takes_by whole IsKnown column text holds takes = takes
takes_by thousandths IsKnown column text holds takes = takes
takes_by word IsKnown column text holds takes = absurd holds
takes_by passed_over IsKnown column text holds takes = absurd holds

pub number_takes : (IsKnown : List ℕ → Type 0) (column : Column) (text : List ℕ) (number : ℕ) → IsNumberUnder column text number → TakesField IsKnown (Some column) text
number_takes IsKnown column text number under = takes_by (use_of column) IsKnown column text under.holds under.takes
