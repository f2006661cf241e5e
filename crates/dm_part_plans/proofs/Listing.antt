-- Ids listed one place after another.
use Rattle.std.proofs.Common.{◌≡◌, ℕ, ◌+◌, List, [], ◌∷◌, ◌++◌, length, length-append, map, Bool, true, false, cond, sym, ap, ◌∙◌, arith}
use Rattle.std.specs.Prelude.{filter}
use Rattle.std.specs.List.{range_with_len}
use Rattle.std.proofs.lemmas.List.{map-append, append-nil}
use Rattle.std.proofs.lemmas.List.Elements.{filter-append}
use Rattle.dm_network.proofs.Filling.{range_more}

-- what stands at the places below n that pass
abbrev pub IsListed : {X : Type 0} → (ℕ → Bool) → (ℕ → X) → ℕ → List X → Type 0
IsListed test f n items = items ≡ map f (filter test (range_with_len 0 n))

listed_more : {X : Type 0} (test : ℕ → Bool) (f : ℕ → X) (n : ℕ) →
    map f (filter test (range_with_len 0 (n + 1))) ≡ map f (filter test (range_with_len 0 n)) ++ map f (filter test (n ∷ []))
listed_more test f n =
    let e : 0 + n ≡ n = omega arith in
    ap (λ ps. map f (filter test ps)) (range_more 0 n ∙ ap (λ m. range_with_len 0 n ++ m ∷ []) e)
    ∙ ap (map f) (filter-append test (range_with_len 0 n) (n ∷ []))
    ∙ map-append f (filter test (range_with_len 0 n)) (filter test (n ∷ []))

-- how many places below n pass
abbrev pub counted : (ℕ → Bool) → ℕ → ℕ
counted test n = length (filter test (range_with_len 0 n))

counted_more : (test : ℕ → Bool) (n : ℕ) → counted test (n + 1) ≡ counted test n + length (filter test (n ∷ []))
counted_more test n =
    let e : 0 + n ≡ n = omega arith in
    ap (λ ps. length (filter test ps)) (range_more 0 n ∙ ap (λ m. range_with_len 0 n ++ m ∷ []) e)
    ∙ ap length (filter-append test (range_with_len 0 n) (n ∷ []))
    ∙ length-append (filter test (range_with_len 0 n)) (filter test (n ∷ []))

pub one_counted : (test : ℕ → Bool) (n count : ℕ) → count ≡ counted test n → test n ≡ true → count + 1 ≡ counted test (n + 1)
one_counted test n count is passes =
    let one : length (filter test (n ∷ [])) ≡ 1 = ap (λ b. length (cond b (n ∷ []) [])) passes in
    let more = counted_more test n in
    omega (arith, is, one, more)

pub none_counted : (test : ℕ → Bool) (n count : ℕ) → count ≡ counted test n → test n ≡ false → count ≡ counted test (n + 1)
none_counted test n count is fails =
    let none : length (filter test (n ∷ [])) ≡ 0 = ap (λ b. length (cond b (n ∷ []) [])) fails in
    let more = counted_more test n in
    omega (arith, is, none, more)

-- a place that passes
pub one_listed : {X : Type 0} (test : ℕ → Bool) (f : ℕ → X) (n : ℕ) (items : List X) (x : X) →
    IsListed test f n items → test n ≡ true → x ≡ f n → IsListed test f (n + 1) (items ++ x ∷ [])
one_listed test f n items x listed passes is =
    let one : map f (filter test (n ∷ [])) ≡ f n ∷ [] = ap (λ b. map f (cond b (n ∷ []) [])) passes in
    ap (λ y. items ++ y ∷ []) is
    ∙ ap (λ xs. xs ++ f n ∷ []) listed
    ∙ ap (λ xs. map f (filter test (range_with_len 0 n)) ++ xs) (sym one)
    ∙ sym (listed_more test f n)

-- a place that does not
pub one_passed_by : {X : Type 0} (test : ℕ → Bool) (f : ℕ → X) (n : ℕ) (items : List X) →
    IsListed test f n items → test n ≡ false → IsListed test f (n + 1) items
one_passed_by test f n items listed fails =
    let none : map f (filter test (n ∷ [])) ≡ [] = ap (λ b. map f (cond b (n ∷ []) [])) fails in
    listed
    ∙ sym (append-nil (map f (filter test (range_with_len 0 n))))
    ∙ ap (λ xs. map f (filter test (range_with_len 0 n)) ++ xs) (sym none)
    ∙ sym (listed_more test f n)
