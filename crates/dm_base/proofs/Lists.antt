-- What stands at a place of a list, and lists that rise.
use Rattle.std.proofs.Common.{◌≡◌, ℕ, zero, suc, ◌<◌, ◌⊎◌, List, [], ◌∷◌, length, get_or, refl, sym, ap, subst, ◌∙◌, inl, inr, arith}
use Rattle.std.specs.List.{Contains}

module _ {X : Type 0} where
  -- what a list contains is its first value or behind it
  pub head_or_tail : (y : X) (ys : List X) (z : X) → Contains (y ∷ ys) z → (y ≡ z) ⊎ Contains ys z
  head_or_tail y ys z (zero, lt, e) = inl e
  head_or_tail y ys z (suc k, lt, e) = inr (k, omega arith, e)

  head_is_in : (y : X) (ys : List X) → Contains (y ∷ ys) y
  head_is_in y ys = (0, omega arith, refl)

  is_in : (y : X) (ys : List X) (z : X) → Contains ys z → Contains (y ∷ ys) z
  is_in y ys z c = (suc c.0, (let lt = c.1 in omega arith), c.2)

-- ---- rising lists of the same elements are one list

module _ {X : Type 0} (Lt : X → X → Type 0) (asym : (x y : X) → Lt x y → Lt y x → ⊥) where
  abbrev pub Rises : List X → Type 0
  Rises xs = (i j : ℕ) (d : X) → i < j → j < length xs → Lt (get_or xs i d) (get_or xs j d)

  before : (y : X) (ys : List X) (z : X) → Rises (y ∷ ys) → Contains ys z → Lt y z
  before y ys z rises c = subst (Lt y) c.2 (rises 0 (suc c.0) z (omega arith) (let lt = c.1 in omega arith))

  same_heads : (x : X) (xs : List X) (y : X) (ys : List X) → Rises (x ∷ xs) → Rises (y ∷ ys) → Contains (y ∷ ys) x → Contains (x ∷ xs) y → x ≡ y
  same_heads x xs y ys rx ry cx cy =
      elim (head_or_tail y ys x cx) [
        | inl e ↦ sym e
        | inr late ↦ elim (head_or_tail x xs y cy) [
          | inl e ↦ e
          | inr later ↦ absurd (asym x y (before x xs y rx later) (before y ys x ry late))
        ]
      ]

  tail_in : (x : X) (xs : List X) (y : X) (ys : List X) → x ≡ y → Rises (x ∷ xs) → (z : X) → Contains xs z → Contains (y ∷ ys) z → Contains ys z
  tail_in x xs y ys same rx z c d =
      elim (head_or_tail y ys z d) [
        | inl e ↦ let less : Lt x z = before x xs z rx c in let is : z ≡ x = sym e ∙ sym same in absurd (asym x x (subst (Lt x) is less) (subst (Lt x) is less))
        | inr tail ↦ tail
      ]

  pub one_rising : (xs ys : List X) → Rises xs → Rises ys → ((z : X) → Contains xs z → Contains ys z) → ((z : X) → Contains ys z → Contains xs z) → xs ≡ ys
  one_rising [] [] rx ry f g = refl
  one_rising [] (y ∷ ys) rx ry f g = let c = g y (head_is_in y ys) in absurd (let lt = c.1 in omega arith)
  one_rising (x ∷ xs) [] rx ry f g = let c = f x (head_is_in x xs) in absurd (let lt = c.1 in omega arith)
  one_rising (x ∷ xs) (y ∷ ys) rx ry f g =
      let same : x ≡ y = same_heads x xs y ys rx ry (f x (head_is_in x xs)) (g y (head_is_in y ys)) in
      let tails : xs ≡ ys = one_rising xs ys
      (λ i j d lt in'. rx (suc i) (suc j) d (omega arith) (omega arith)) (λ i j d lt in'. ry (suc i) (suc j) d (omega arith) (omega arith))
      (λ z c. tail_in x xs y ys same rx z c (f z (is_in x xs z c))) (λ z c. tail_in y ys x xs (sym same) ry z c (g z (is_in y ys z c))) in
      ap (λ w. w ∷ xs) same ∙ ap (λ l. y ∷ l) tails
