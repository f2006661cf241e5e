-- What is gathered from the places that pass a test, one place after another.
use Rattle.std.proofs.Common.{◌≡◌, ℕ, ◌+◌, List, [], ◌∷◌, ◌++◌, map, Bool, true, false, cond, filter, sym, ap, ◌∙◌, arith}
use Rattle.std.specs.List.{range_with_len}
use Rattle.std.proofs.lemmas.List.{append-nil, map-append}
use Rattle.dm_network.proofs.Filling.{range_more, filter_push}

module _ {X : Type 0} (test : ℕ → Bool) (item : ℕ → X) where
  more : (n : ℕ) → map item (filter test (range_with_len 0 (n + 1)))
      ≡ map item (filter test (range_with_len 0 n)) ++ map item (cond (test n) (n ∷ []) [])
  more n =
      let e : 0 + n ≡ n = omega arith in
      ap (λ ks. map item (filter test ks)) (range_more 0 n ∙ ap (λ m. range_with_len 0 n ++ m ∷ []) e)
      ∙ ap (map item) (filter_push test (range_with_len 0 n) n)
      ∙ map-append item (filter test (range_with_len 0 n)) (cond (test n) (n ∷ []) [])

  pub gathers : (n : ℕ) (items : List X) (x : X) → items ≡ map item (filter test (range_with_len 0 n)) → test n ≡ true → x ≡ item n →
      items ++ x ∷ [] ≡ map item (filter test (range_with_len 0 (n + 1)))
  gathers n items x is passes here =
      ap (λ y. items ++ y ∷ []) here
      ∙ ap (λ ys. ys ++ item n ∷ []) is
      ∙ sym (more n ∙ ap (λ b. map item (filter test (range_with_len 0 n)) ++ map item (cond b (n ∷ []) [])) passes)

  pub passes_over : (n : ℕ) (items : List X) → items ≡ map item (filter test (range_with_len 0 n)) → test n ≡ false →
      items ≡ map item (filter test (range_with_len 0 (n + 1)))
  passes_over n items is fails =
      is
      ∙ sym (more n ∙ ap (λ b. map item (filter test (range_with_len 0 n)) ++ map item (cond b (n ∷ []) [])) fails
      ∙ append-nil (map item (filter test (range_with_len 0 n))))
