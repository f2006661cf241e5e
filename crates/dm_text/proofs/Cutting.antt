-- Where a line ends.
use Rattle.std.proofs.Common.{◌≡◌, ℕ, ◌+◌, ◌-◌, ◌<◌, ◌≤◌, Bool, true, false, cond, eqb, ltb, List, ◌∷◌, ◌++◌, length, take, drop, get_or, Some, None, refl, sym, ap, arith, ◌∙◌, ◌≢◌}
use Rattle.std.specs.Prelude.{position}
use Rattle.std.specs.List.{position_or_len}
use Rattle.std.proofs.lemmas.Bool.{eqb-true, ltb-false}
use Rattle.std.proofs.lemmas.List.{take-append-drop, get_or-take, length-take-le, drop_more, get_or_default, take_rest}
use Rattle.std.proofs.lemmas.List.Quantifiers.{position-Some}
use Rattle.std.proofs.lemmas.List.Sums.{fails_before_first}
use Rattle.dm_text.specs.Places.{HasNoLineFeed, IsLineAt}

abbrev is_feed : ℕ → Bool
is_feed b = eqb b 10

not_feed : (b : ℕ) → is_feed b ≡ false → b ≢ 10
not_feed b e same = let f : is_feed b ≡ true = rw same refl in absurd (let g : true ≡ false = sym f ∙ e in cc)

pub no_feed : (left : List ℕ) → None ≡ position is_feed left → HasNoLineFeed left
no_feed left e = λ k d below. not_feed _ (fails_before_first is_feed left k d (omega (arith, all)))
  where
    late : (b : Bool) (n : ℕ) → None ≡ cond b (Some n) None → b ≡ false
    late true n e = cc
    late false n e = refl

    all : length left ≤ position_or_len is_feed left
    all = ltb-false _ _ (late (ltb (position_or_len is_feed left) (length left)) (position_or_len is_feed left) e)

-- the bytes up to the first LF, and what stands behind it
pub record IsCutThere (left : List ℕ) (end : ℕ) : Type 0 where
  pub within : end < length left
  pub whole : left ≡ take end left ++ 10 ∷ drop (end + 1) left
  pub one_line : HasNoLineFeed (take end left)

pub cut_there : (left : List ℕ) (end : ℕ) → Some end ≡ position is_feed left → IsCutThere left end
cut_there left end e =
    let at = position-Some is_feed left end 0 (sym e) in
    let feed : get_or left end 0 ≡ 10 = eqb-true (get_or left end 0) 10 at.1 in
    let front : length (take end left) ≡ end = length-take-le end left (omega (arith, at.0)) in
    record {
      within = at.0;
      whole = sym (take-append-drop end left) ∙ ap (λ xs. take end left ++ xs) (drop_more left end 0 at.0 ∙ rw feed refl);
      one_line = λ k d below.
          let low : k < end = omega arith in
          let same : get_or (take end left) k d ≡ get_or left k 0 = get_or-take end left k d low ∙ get_or_default left k d 0 (omega (arith, at.0)) in
          rw same (not_feed _ (at.2 k low));
    }

pub line_there : (left : List ℕ) (line end : ℕ) → Some end ≡ position is_feed left →
    IsLineAt (record { left = left; line = line }) (take end left)
    (record { left = take (length left - (end + 1)) (drop (end + 1) left); line = line + 1 })
line_there left line end e =
    let cut = cut_there left end e in
    let rest : take (length left - (end + 1)) (drop (end + 1) left) ≡ drop (end + 1) left = take_rest left (end + 1) in
    record {
      whole = rw rest cut.whole;
      one_line = cut.one_line;
      counted = refl;
    }
