-- How bytes are cut into words, a word at a time.
use Rattle.std.proofs.Common.{◌≡◌, ℕ, ◌+◌, ◌<◌, Bool, true, false, cond, ltb, eqb, not, List, [], ◌∷◌, length, take, drop, Some, None, refl, sym, ap, ◌∙◌, arith}
use Rattle.std.specs.Prelude.{filter}
use Rattle.std.specs.List.{slice_split, onto_first, position_or_len}
use Rattle.std.specs.Option.{option_map}
use Rattle.std.proofs.lemmas.List.Splits.{slice_split_first, slice_split_none}
use Rattle.std.proofs.lemmas.List.Sums.{fails_before_first}
use Rattle.std.proofs.lemmas.Bool.{ltb-true, ltb-false, ne_eqb}
use Rattle.std.proofs.lemmas.Bool.Decides.{nat_tests}
use Rattle.dm_feed.specs.Words.{words_of}
use Rattle.dm_feed.specs.Inside.Cuts.{cut_at, BeginsWord}

abbrev is_at : ℕ → ℕ → Bool
is_at at b = eqb b at

abbrev pieces : ℕ → List ℕ → List (List ℕ)
pieces at bytes = slice_split (is_at at) bytes

some_is : {A : Type 0} (b : Bool) (x y : A) → cond b (Some x) None ≡ Some y → (b ≡ true) × (x ≡ y)
some_is true x y e = (refl, cc)
some_is false x y e = absurd cc

none_is : {A : Type 0} (b : Bool) (x : A) → cond b (Some x) None ≡ None → b ≡ false
none_is true x e = absurd cc
none_is false x e = refl

map_cond : (b : Bool) (i : ℕ) (f : ℕ → List ℕ × List ℕ) → option_map f (cond b (Some i) None) ≡ cond b (Some (f i)) None
map_cond true i f = refl
map_cond false i f = refl

cut_parts : (at : ℕ) (bytes : List ℕ) → cut_at at bytes ≡ cond (ltb (position_or_len (is_at at) bytes) (length bytes)) (Some (take (position_or_len (is_at at) bytes) bytes, drop (position_or_len (is_at at) bytes + 1) bytes)) None
cut_parts at bytes = map_cond (ltb (position_or_len (is_at at) bytes) (length bytes)) (position_or_len (is_at at) bytes) (λ i. (take i bytes, drop (i + 1) bytes))

-- a cut gives the first piece, and leaves the others
pub cut_found : (at : ℕ) (bytes front behind : List ℕ) → cut_at at bytes ≡ Some (front, behind) → pieces at bytes ≡ front ∷ pieces at behind
cut_found at bytes front behind e =
    let h = some_is (ltb (position_or_len (is_at at) bytes) (length bytes)) (take (position_or_len (is_at at) bytes) bytes, drop (position_or_len (is_at at) bytes + 1) bytes) (front, behind) (sym (cut_parts at bytes) ∙ e) in
    let lt : position_or_len (is_at at) bytes < length bytes = ltb-true _ _ h.0 in
    let front-is : take (position_or_len (is_at at) bytes) bytes ≡ front = ap (λ (p : List ℕ × List ℕ). p.0) h.1 in
    let behind-is : drop (position_or_len (is_at at) bytes + 1) bytes ≡ behind = ap (λ (p : List ℕ × List ℕ). p.1) h.1 in
    slice_split_first (is_at at) bytes 0 lt ∙ (ap (λ (l : List ℕ). l ∷ pieces at (drop (position_or_len (is_at at) bytes + 1) bytes)) front-is ∙ ap (λ (l : List ℕ). front ∷ pieces at l) behind-is)

-- where there is no cut, the bytes are one piece
pub cut_none : (at : ℕ) (bytes : List ℕ) → cut_at at bytes ≡ None → pieces at bytes ≡ bytes ∷ []
cut_none at bytes e =
    let h = none_is (ltb (position_or_len (is_at at) bytes) (length bytes)) (take (position_or_len (is_at at) bytes) bytes, drop (position_or_len (is_at at) bytes + 1) bytes) (sym (cut_parts at bytes) ∙ e) in
    slice_split_none (is_at at) bytes (λ k d lt. fails_before_first (is_at at) bytes k d (omega (arith, ltb-false _ _ h)))

-- a piece that is not empty is a word
words_first : (front : List ℕ) (rest : List (List ℕ)) → 0 < length front → filter (λ w. not (eqb (length w) 0)) (front ∷ rest) ≡ front ∷ filter (λ w. not (eqb (length w) 0)) rest
words_first [] rest some = absurd (omega arith)
words_first (c ∷ cs) rest some = let e : eqb (length (c ∷ cs)) 0 ≡ false = ne_eqb (length (c ∷ cs)) 0 (λ e. omega arith) in rw e refl

-- what begins with no space has no empty piece in front
no_empty_piece : (bytes front : List ℕ) (rest : List (List ℕ)) → 0 < length bytes → BeginsWord bytes → pieces 32 bytes ≡ front ∷ rest → 0 < length front
no_empty_piece [] front rest some word e = absurd (omega arith)
no_empty_piece (c ∷ cs) [] rest some word e = absurd (onto_nonempty (pieces 32 cs) rest (rw (ne_eqb c 32 word) at e))
  where
    onto_nonempty : (ps rest : List (List ℕ)) → onto_first c ps ≡ [] ∷ rest → ⊥
    onto_nonempty [] rest e = cc
    onto_nonempty (p ∷ ps) rest e = cc
no_empty_piece (c ∷ cs) (d ∷ ds) rest some word e = omega arith

pub word_found : (bytes front behind : List ℕ) → 0 < length bytes → BeginsWord bytes → cut_at 32 bytes ≡ Some (front, behind) → words_of bytes ≡ front ∷ words_of behind
word_found bytes front behind some word e =
    let split : pieces 32 bytes ≡ front ∷ pieces 32 behind = cut_found 32 bytes front behind e in
    ap (filter (λ w. not (eqb (length w) 0))) split ∙ words_first front (pieces 32 behind) (no_empty_piece bytes front (pieces 32 behind) some word split)

pub word_last : (bytes : List ℕ) → 0 < length bytes → cut_at 32 bytes ≡ None → words_of bytes ≡ bytes ∷ []
word_last bytes some e = ap (filter (λ w. not (eqb (length w) 0))) (cut_none 32 bytes e) ∙ words_first bytes [] some

pub some_from : (n : ℕ) → eqb n 0 ≡ false → 0 < n
some_from n e = grind (arith, nat_tests)
