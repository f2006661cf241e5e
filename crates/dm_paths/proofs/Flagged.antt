-- Flags with one more.
use Rattle.std.proofs.Common.{◌≡◌, ℕ, ◌+◌, Bool, true, false, ◌&&◌, List, [], ◌∷◌, ◌++◌, sym, ap, refl, subst, ◌∙◌, inl, inr, arith}
use Rattle.std.proofs.lemmas.Bool.{cases_lt}
use Rattle.std.proofs.lemmas.List.{length-append, get_or_append_left, get_or_push}
use Rattle.dm_paths.specs.Flags.{AreFlags}

pub one_flag_more : (test : ℕ → Bool) (n : ℕ) (flags more : List Bool) (v : Bool) → AreFlags test n flags → v ≡ test n → more ≡ flags ++ v ∷ [] → AreFlags test (n + 1) more
one_flag_more test n flags more v was is more_is =
    let size = was.size in
    let last = length-append flags (v ∷ []) in
    subst (AreFlags test (n + 1)) (sym more_is)
    (record {
      size = omega (arith, size, last);
      each = λ k lt. elim (cases_lt k n) [
        | inl early ↦ get_or_append_left flags (v ∷ []) false k (omega arith) ∙ was.each k early
        | inr past ↦
            let here : k ≡ n = omega arith in
            get_or_push flags v false k (omega arith) ∙ is ∙ ap test (sym here)
      ];
    })

pub and_true : (b : Bool) → (b && true) ≡ b
and_true true = refl
and_true false = refl
