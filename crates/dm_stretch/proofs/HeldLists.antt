-- Activities whose choices are held, one after the other.
use Rattle.std.proofs.Common.{◌≡◌, ℕ, ◌+◌, ◌<◌, List, [], ◌∷◌, ◌++◌, Option, Some, None, length, map, take, get_or, sym, ap, subst, ◌∙◌, inl, inr, arith}
use Rattle.std.specs.Prelude.{slice_get}
use Rattle.std.proofs.lemmas.Bool.{cases_eq}
use Rattle.std.proofs.lemmas.List.{map-append, take_more}
use Rattle.std.proofs.lemmas.Option.{slice_get-get_or}

some_is : (a b : ℕ) → Some a ≡ Some b → a ≡ b
some_is a b e = cc

none_is_some : {X : Type 0} (x : X) → None ≡ Some x → ⊥
none_is_some x e = cc

module _ {X : Type 0} (f : ℕ → Option X) (ids : List ℕ) (i d : ℕ) (x : X) (low : i < length ids) (is : f (get_or ids i d) ≡ Some x) where
  pub named_more : (held : List X) → map f (take i ids) ≡ map Some held → map f (take (i + 1) ids) ≡ map Some (held ++ x ∷ [])
  named_more held before =
      ap (map f) (take_more ids i d low)
      ∙ (map-append f (take i ids) (get_or ids i d ∷ [])
      ∙ (ap (λ (os : List (Option X)). os ++ f (get_or ids i d) ∷ []) before
      ∙ (ap (λ (o : Option X). map Some held ++ o ∷ []) is
      ∙ sym (map-append Some held (x ∷ [])))))

  pub named_before : ((k other : ℕ) → k < i → slice_get ids k ≡ Some other → f other ≡ None → ⊥) →
      (k other : ℕ) → k < i + 1 → slice_get ids k ≡ Some other → f other ≡ None → ⊥
  named_before before k other lt at none =
      elim (cases_eq k i) [
        | inl same ↦
            let there : slice_get ids i ≡ Some other = subst (λ (j : ℕ). slice_get ids j ≡ Some other) same at in
            let got : slice_get ids i ≡ Some (get_or ids i d) = slice_get-get_or ids i d low in
            let one : get_or ids i d ≡ other = some_is (get_or ids i d) other (sym got ∙ there) in
            none_is_some x (sym (ap f one ∙ none) ∙ is)
        | inr more ↦ before k other (omega arith) at none
      ]
