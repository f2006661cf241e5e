-- Places of a list of which one element is replaced, and of two lists together.
use Rattle.std.proofs.Common.{◌≡◌, ℕ, zero, suc, ◌+◌, ◌-◌, ◌<◌, ◌≤◌, ◌⊎◌, inl, inr, List, ◌++◌, length, map, Option, Some, refl, sym, ap, ◌∙◌, arith, get_or, slice_get, [], ◌∷◌, add-one, length-append}
use Rattle.std.proofs.lemmas.List.{get_or_append_left, get_or-append_right}
use Rattle.std.proofs.lemmas.Option.{slice_get_within, slice_get-get_or, get_or_from_slice_get}
use Rattle.std.proofs.lemmas.Bool.{cases_lt}

pub get_is : {X : Type 0} (xs : List X) (k : ℕ) (x y : X) → k < length xs → get_or xs k y ≡ x → slice_get xs k ≡ Some x
get_is xs k x y low e = slice_get-get_or xs k y low ∙ ap Some e

-- an element of two lists together stands in the first, or behind it in the second
pub append_cases : {X : Type 0} (xs ys : List X) (k : ℕ) (z : X) → slice_get (xs ++ ys) k ≡ Some z → (slice_get xs k ≡ Some z) ⊎ ((length xs ≤ k) × (k < length xs + length ys) × (get_or ys (k - length xs) z ≡ z) × (k - length xs < length ys))
append_cases xs ys k z e =
    let at : get_or (xs ++ ys) k z ≡ z = get_or_from_slice_get (xs ++ ys) k z z e in
    let within : k < length xs + length ys = omega (arith, slice_get_within (xs ++ ys) k z e, length-append xs ys) in
    elim (cases_lt k (length xs)) [
      | inl low ↦ inl (get_is xs k z z low (sym (get_or_append_left xs ys z k low) ∙ at))
      | inr high ↦ inr (high, within, sym (get_or-append_right xs ys (length xs) k z refl high) ∙ at, omega arith)
    ]

pub behind_one : {X : Type 0} (x : X) (xs : List X) (k : ℕ) (y : X) → slice_get xs k ≡ Some y → slice_get (x ∷ xs) (k + 1) ≡ Some y
behind_one x xs k y e = get_is (x ∷ xs) (k + 1) y y (omega (arith, slice_get_within xs k y e)) (ap (λ (i : ℕ). get_or (x ∷ xs) i y) (add-one k) ∙ get_or_from_slice_get xs k y y e)

-- an element of a list with one more at its end is that one or stands before it
pub behind_push : {X : Type 0} (xs : List X) (x : X) (k : ℕ) (y : X) → slice_get (xs ++ x ∷ []) k ≡ Some y → (slice_get xs k ≡ Some y) ⊎ ((k ≡ length xs) × (y ≡ x))
behind_push xs x k y e =
    elim (append_cases xs (x ∷ []) k y e) [
      | inl old ↦ inl old
      | inr new ↦
          let at : k ≡ length xs = omega (arith, new.0, new.1) in
          let none : k - length xs ≡ 0 = omega arith in
          inr (at, sym new.2 ∙ ap (λ (i : ℕ). get_or (x ∷ []) i y) none)
    ]

pub some_is : {X : Type 0} {o : Option X} {x y : X} → o ≡ Some x → o ≡ Some y → x ≡ y
some_is p q = cc

-- an element of a mapped list is what one of the list is mapped to
pub mapped_at : {X Y : Type 0} (f : X → Y) (xs : List X) (k : ℕ) (y : Y) → slice_get (map f xs) k ≡ Some y → (x : X) × (slice_get xs k ≡ Some x) × (y ≡ f x)
mapped_at f [] k y e = absurd (omega (arith, slice_get_within [] k y e))
mapped_at f (x ∷ xs) zero y e = (x, slice_get-get_or (x ∷ xs) 0 x (omega arith), some_is e (slice_get-get_or (f x ∷ map f xs) 0 (f x) (omega arith)))
mapped_at f (x ∷ xs) (suc k) y e = let r = mapped_at f xs k y e in (r.0, r.1, r.2)
