-- Lists that are joined of what belongs to each number of a range: what is true of all elements, and what they hold.
use Rattle.std.proofs.Common.{ℕ, ◌≡◌, ◌+◌, ◌*◌, ◌≤◌, ◌<◌, List, ◌∷◌, ◌++◌, map, zero, suc, sym, ap, ◌∙◌, subst, arith, inl, inr}
use Rattle.std.specs.List.{All, Contains, flat_map, range_with_len}
use Rattle.std.proofs.lemmas.Bool.{cases_eq}
use Rattle.std.proofs.lemmas.List.{map-append}
use Rattle.std.proofs.lemmas.List.Elements.{All-nil, All-cons, All-append, Contains-append_left, Contains-append_right}

-- numbers that go on where others end
pub range_join : (a m n : ℕ) → range_with_len a m ++ range_with_len (a + m) n ≡ range_with_len a (m + n)
range_join a zero n =
    let from : a + 0 ≡ a = omega arith in
    let size : n ≡ 0 + n = omega arith in
    ap (λ b. range_with_len b n) from ∙ ap (λ k. range_with_len a k) size
range_join a (suc m) n =
    let from : a + suc m ≡ (a + 1) + m = omega arith in
    let size : suc (m + n) ≡ suc m + n = omega arith in
    ap (λ b. a ∷ (range_with_len (a + 1) m ++ range_with_len b n)) from ∙ ap (λ r. a ∷ r) (range_join (a + 1) m n)
    ∙ ap (λ k. range_with_len a k) size

module _ {X : Type 0} (f : ℕ → List X) where
  pub all_joined : (P : X → Type 0) (a n : ℕ) → ((k : ℕ) → a ≤ k → k < a + n → All P (f k)) → All P (flat_map f (range_with_len a n))
  all_joined P a zero each = All-nil P
  all_joined P a (suc n) each =
      All-append P (f a) (flat_map f (range_with_len (a + 1) n)) (each a (omega arith) (omega arith))
      (all_joined P (a + 1) n (λ k low high. each k (omega arith) (omega arith)))

  pub contained_in_joined : (a n k : ℕ) (x : X) → a ≤ k → k < a + n → Contains (f k) x → Contains (flat_map f (range_with_len a n)) x
  contained_in_joined a zero k x low high c = absurd (omega arith)
  contained_in_joined a (suc n) k x low high c =
      elim (cases_eq k a) [
        | inl same ↦ Contains-append_left (f a) (flat_map f (range_with_len (a + 1) n)) x (subst (λ (m : ℕ). Contains (f m) x) same c)
        | inr other ↦
            Contains-append_right (f a) (flat_map f (range_with_len (a + 1) n)) x
            (contained_in_joined (a + 1) n k x (omega arith) (omega arith) c)
      ]

  -- the numbers of the elements, where those of each part go on from those of the part before
  pub numbers_joined : (g : X → ℕ) (first size : ℕ) → ((k : ℕ) → map g (f k) ≡ range_with_len (first + size * k) size) → (a n : ℕ)
      → map g (flat_map f (range_with_len a n)) ≡ range_with_len (first + size * a) (size * n)
  numbers_joined g first size each a zero = let none : size * 0 ≡ 0 = omega arith in ap (λ m. range_with_len (first + size * a) m) (sym none)
  numbers_joined g first size each a (suc n) =
      map-append g (f a) (flat_map f (range_with_len (a + 1) n))
      ∙ ap (λ r. r ++ map g (flat_map f (range_with_len (a + 1) n))) (each a)
      ∙ ap (λ r. range_with_len (first + size * a) size ++ r) (numbers_joined g first size each (a + 1) n)
      ∙ (let next : first + size * (a + 1) ≡ (first + size * a) + size = omega arith in
      ap (λ b. range_with_len (first + size * a) size ++ range_with_len b (size * n)) next)
      ∙ range_join (first + size * a) size (size * n)
      ∙ (let whole : size + size * n ≡ size * suc n = omega arith in ap (λ m. range_with_len (first + size * a) m) whole)

pub all_mapped : {X : Type 0} (f : ℕ → X) (P : X → Type 0) (a n : ℕ) → ((k : ℕ) → a ≤ k → k < a + n → P (f k)) → All P (map f (range_with_len a n))
all_mapped f P a zero each = All-nil P
all_mapped f P a (suc n) each =
    All-cons P (f a) (map f (range_with_len (a + 1) n)) (each a (omega arith) (omega arith))
    (all_mapped f P (a + 1) n (λ k low high. each k (omega arith) (omega arith)))
