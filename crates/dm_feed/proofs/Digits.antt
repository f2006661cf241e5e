-- The test for digits against the form that the reader of numbers names.
use Rattle.std.proofs.Common.{◌≡◌, ℕ, ◌<◌, ◌≤◌, Bool, true, false, ◌&&◌, not, eqb, List, length, Some, refl, ap, arith}
use Rattle.std.specs.Char.{is_ascii_digit, IsAsciiDigit}
use Rattle.std.proofs.lemmas.List.Sums.{AllPass-from_list_all, list_all-from_AllPass}
use Rattle.std.proofs.lemmas.Bool.{le-leb}
use Rattle.std.proofs.lemmas.Bool.Decides.{nat_tests}
use Rattle.dm_base.specs.Numbers.{IsDigits, whole_value}
use Rattle.dm_feed.specs.Inside.Reading.{is_number, number_up_to}

digit_passes : (c : ℕ) → IsAsciiDigit c → is_ascii_digit c ≡ true
digit_passes c h = grind (arith, nat_tests)

passing_digit : (c : ℕ) → is_ascii_digit c ≡ true → IsAsciiDigit c
passing_digit c h = grind (arith, nat_tests)

both : (a b : Bool) → a ≡ true → b ≡ true → (a && b) ≡ true
both a b p q = grind arith

both_left : (a b : Bool) → (a && b) ≡ true → a ≡ true
both_left true b e = refl
both_left false b e = e

both_right : (a b : Bool) → (a && b) ≡ true → b ≡ true
both_right true b e = e
both_right false b e = absurd cc

some : (n : ℕ) → 0 < n → not (eqb n 0) ≡ true
some n h = grind (arith, nat_tests)

some_back : (n : ℕ) → not (eqb n 0) ≡ true → 0 < n
some_back n h = grind (arith, nat_tests)

pub is_number-true : (text : List ℕ) → IsDigits text → is_number text ≡ true
is_number-true text h =
    both _ _ (some (length text) h.some) (list_all-from_AllPass is_ascii_digit text (λ k d lt. digit_passes _ (h.digits k d lt)))

pub digits-from_number : (text : List ℕ) → is_number text ≡ true → IsDigits text
digits-from_number text e =
    let all = AllPass-from_list_all is_ascii_digit text (both_right _ _ e) in
    record {
      some = some_back (length text) (both_left _ _ e);
      digits = λ k d lt. passing_digit _ (all k d lt);
    }

-- the number that digits spell
pub number_is : (largest n : ℕ) (text : List ℕ) → IsDigits text → n ≡ whole_value text → n ≤ largest → Some n ≡ number_up_to largest text
number_is largest n text h is le =
    rw (is_number-true text h, le-leb (whole_value text) largest (omega (arith, is, le))) (ap (λ (k : ℕ). Some k) is)
