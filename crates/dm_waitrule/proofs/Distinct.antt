-- A list in another order has no element twice where it had none twice before.
use Rattle.std.proofs.Common.{◌≡◌, ℕ, ◌<◌, ◌⊎◌, List, length, get_or, refl, sym, ap, ◌∙◌, inl, inr, arith}
use Rattle.std.specs.List.{swap}
use Rattle.std.specs.List.Sorted.{IsPermutation}
use Rattle.std.proofs.lemmas.Bool.{cases_eq}
use Rattle.std.proofs.lemmas.List.Edits.{swapped_from_swap, length-swap}
use Rattle.std.proofs.lemmas.List.Sorted.{IsPermutation-keeps}

-- two places of one element are one place
abbrev pub HasOnce : {X : Type 0} → List X → Type 0
HasOnce {X} xs = (m n : ℕ) (d : X) → m < length xs → n < length xs → get_or xs m d ≡ get_or xs n d → m ≡ n

-- what stands at m after the swap of i and j, stood at k
abbrev StoodAt : ℕ → ℕ → ℕ → ℕ → Type 0
StoodAt i j m k = ((m ≡ i) × (k ≡ j)) ⊎ (((m ≡ j) × (k ≡ i)) ⊎ ((m ≡ i → ⊥) × (m ≡ j → ⊥) × (k ≡ m)))

stood_once : (i j m k n l : ℕ) → k ≡ l → StoodAt i j m k → StoodAt i j n l → m ≡ n
stood_once i j m k n l e (inl a) (inl b) = a.0 ∙ sym b.0
stood_once i j m k n l e (inl a) (inr (inl b)) = a.0 ∙ sym b.1 ∙ sym e ∙ a.1 ∙ sym b.0
stood_once i j m k n l e (inl a) (inr (inr b)) = absurd (b.1 (sym b.2 ∙ sym e ∙ a.1))
stood_once i j m k n l e (inr (inl a)) (inl b) = a.0 ∙ sym b.1 ∙ sym e ∙ a.1 ∙ sym b.0
stood_once i j m k n l e (inr (inl a)) (inr (inl b)) = a.0 ∙ sym b.0
stood_once i j m k n l e (inr (inl a)) (inr (inr b)) = absurd (b.0 (sym b.2 ∙ sym e ∙ a.1))
stood_once i j m k n l e (inr (inr a)) (inl b) = absurd (a.1 (sym a.2 ∙ e ∙ b.1))
stood_once i j m k n l e (inr (inr a)) (inr (inl b)) = absurd (a.0 (sym a.2 ∙ e ∙ b.1))
stood_once i j m k n l e (inr (inr a)) (inr (inr b)) = sym a.2 ∙ e ∙ b.2

module _ {X : Type 0} (xs : List X) (i j : ℕ) (below_i : i < length xs) (below_j : j < length xs) where
  stood : (m : ℕ) (d : X) → m < length xs → (k : ℕ) × (k < length xs) × (get_or (swap xs i j) m d ≡ get_or xs k d) × StoodAt i j m k
  stood m d lt =
      let s = swapped_from_swap xs (swap xs i j) i j d below_i below_j refl in
      elim (cases_eq m i) [
        | inl at_i ↦ (j, below_j, ap (λ (n : ℕ). get_or (swap xs i j) n d) at_i ∙ s.0, inl (at_i, refl))
        | inr other ↦ elim (cases_eq m j) [
          | inl at_j ↦ (i, below_i, ap (λ (n : ℕ). get_or (swap xs i j) n d) at_j ∙ s.1, inr (inl (at_j, refl)))
          | inr apart ↦ (m, lt, s.2 m other apart, inr (inr (other, apart, refl)))
        ]
      ]

  once_swapped : HasOnce xs → HasOnce (swap xs i j)
  once_swapped once m n d lt lt' same =
      let size = length-swap xs i j in
      let a = stood m d (omega arith) in
      let b = stood n d (omega arith) in
      stood_once i j m a.0 n b.0 (once a.0 b.0 d a.1 b.1 (sym a.2 ∙ same ∙ b.2)) a.3 b.3

pub once_permuted : {X : Type 0} (xs ys : List X) → IsPermutation xs ys → HasOnce xs → HasOnce ys
once_permuted xs ys moved once = IsPermutation-keeps xs HasOnce once (λ l i j below below' h. once_swapped l i j below below' h) ys moved
