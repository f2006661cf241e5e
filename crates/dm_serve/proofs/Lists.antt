-- What is left of a list that is gone through.
use Rattle.std.proofs.Common.{◌≡◌, ℕ, zero, suc, ◌≤◌, List, [], ◌∷◌, length, drop, Option, Some, refl, sym, ap, subst, ◌∙◌, arith, slice_get}
use Rattle.std.specs.Prelude.{IfSome}
use Rattle.std.proofs.lemmas.List.{length-drop}
use Rattle.std.proofs.lemmas.Option.{slice_get_past}

first_is : {X : Type 0} (all : List X) (place : ℕ) (x : X) (rest : List X) → x ∷ rest ≡ drop place all → slice_get all place ≡ Some x
first_is [] zero x rest e = absurd (cc)
first_is [] (suc n) x rest e = absurd (cc)
first_is (y ∷ ys) zero x rest e = let same : y ≡ x = cc in ap Some same
first_is (y ∷ ys) (suc n) x rest e = first_is ys n x rest e

-- the first of what is left is the element at the place, and there is none where none is left
pub name_there : (all : List (List ℕ)) (place : ℕ) (name : List ℕ) (rest now : List (List ℕ)) → rest ≡ drop place all → rest ≡ name ∷ now
    → IfSome (slice_get all place) (λ n. name ≡ n)
name_there all place name rest now left is =
    subst (λ (o : Option (List ℕ)). IfSome o (λ n. name ≡ n)) (sym (first_is all place name now (sym is ∙ left))) refl

pub no_name_there : (all : List (List ℕ)) (place : ℕ) (name : List ℕ) (rest : List (List ℕ)) → rest ≡ drop place all → rest ≡ []
    → IfSome (slice_get all place) (λ n. name ≡ n)
no_name_there all place name rest left is =
    let past : length all ≤ place = omega (arith, length-drop place all, ap length (sym left ∙ is)) in
    subst (λ (o : Option (List ℕ)). IfSome o (λ n. name ≡ n)) (sym (slice_get_past all place past)) tt
