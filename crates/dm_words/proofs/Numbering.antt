-- Ids read one after another.
use Rattle.std.proofs.Common.{◌≡◌, ℕ, ◌≤◌, true, false, List, [], ◌∷◌, length, map, Option, refl, sym, ap, subst, ◌∙◌, arith}
use Rattle.std.specs.Prelude.{nat_le}
use Rattle.std.proofs.lemmas.Bool.Decides.{nat_tests}
use Rattle.dm_base.specs.Numbers.{whole_value}
use Rattle.dm_lintim.specs.Pieces.{is_comma, pieces, pieces_left}
use Rattle.dm_words.specs.Ids.{AreIds, IsId, Spell, are_different}
use Rattle.dm_words.specs.Inside.Pieces.{AreAllIds}

-- pieces are one list of ids at most
pub spell_one : (pieces : List (List ℕ)) (a b : List ℕ) → Spell pieces a → Spell pieces b → a ≡ b
spell_one [] [] [] p q = refl
spell_one [] [] (y ∷ ys) p q = absurd q
spell_one [] (x ∷ xs) b p q = absurd p
spell_one (piece ∷ pieces) [] b p q = absurd p
spell_one (piece ∷ pieces) (x ∷ xs) [] p q = absurd q
spell_one (piece ∷ pieces) (x ∷ xs) (y ∷ ys) p q =
    let head : x ≡ y = p.0.1 ∙ sym q.0.1 in
    let tail : xs ≡ ys = spell_one pieces xs ys p.1 q.1 in
    ap (λ (n : ℕ). n ∷ xs) head ∙ ap (λ (ns : List ℕ). y ∷ ns) tail

-- pieces that are ids spell their numbers, and pieces that spell something are ids
pub spells : (pieces : List (List ℕ)) → AreAllIds pieces → Spell pieces (map whole_value pieces)
spells [] all = tt
spells (piece ∷ pieces) all = (all.0, spells pieces all.1)

pub is_spelled : (pieces : List (List ℕ)) (ids : List ℕ) → Spell pieces ids → AreAllIds pieces
is_spelled [] [] s = tt
is_spelled [] (id ∷ ids) s = absurd s
is_spelled (piece ∷ pieces) [] s = absurd s
is_spelled (piece ∷ pieces) (id ∷ ids) s =
    ((s.0.0, refl, subst (λ (n : ℕ). n ≤ 4294967295) s.0.1 s.0.2), is_spelled pieces ids s.1)

-- the first piece of a text of ids is one
pub first_is : (text piece : List ℕ) (after : Option (List ℕ)) → pieces is_comma text ≡ piece ∷ pieces_left after → AreAllIds (pieces is_comma text) →
    IsId piece (whole_value piece)
first_is text piece after cut all = (subst AreAllIds cut all).0

-- ids that are too many or stand twice are not named
pub not_few : (most : ℕ) (text ids all : List ℕ) → Spell (pieces is_comma text) ids → nat_le (length ids) most ≡ false → AreIds most text all → ⊥
not_few most text ids all spelled many are =
    let same = ap length (spell_one _ ids all spelled are.spelled) in
    let few : length ids ≤ most = omega (arith, same, are.few) in
    grind (arith, nat_tests)

pub not_different : (most : ℕ) (text ids all : List ℕ) → Spell (pieces is_comma text) ids → are_different ids ≡ false → AreIds most text all → ⊥
not_different most text ids all spelled twice are =
    let same = ap are_different (spell_one _ ids all spelled are.spelled) in
    let different = are.different in
    let both : false ≡ true = sym twice ∙ (same ∙ different) in
    cc
