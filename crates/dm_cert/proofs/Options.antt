-- Where an optional value comes from.
use Rattle.std.proofs.Common.{◌≡◌, List, ℕ, [], ◌∷◌, Option, Some, None, refl, ap, ◌⊎◌, inl, inr}
use Rattle.std.specs.Option.{option_map}
use Rattle.std.specs.Prelude.{option_and_then}
use Rattle.dm_cert.specs.Inside.PlanLines.{or_else, whole}

pub none_some : {A : Type 0} {x : A} → None ≡ Some x → ⊥
none_some e = cc

pub record Came {A : Type 0} (from : Option A) (P : A → Type 0) : Type 0 where
  pub value : A
  pub some : from ≡ Some value
  pub gives : P value

pub and_then_some : {A B : Type 0} (f : A → Option B) (o : Option A) (y : B) → option_and_then f o ≡ Some y → Came o (λ x. f x ≡ Some y)
and_then_some f (Some x) y e = record { value = x; some = refl; gives = e }
and_then_some f None y e = absurd (none_some e)

pub map_some : {A B : Type 0} (f : A → B) (o : Option A) (y : B) → option_map f o ≡ Some y → Came o (λ x. f x ≡ y)
map_some f (Some x) y e = record { value = x; some = refl; gives = (let same : f x ≡ y = cc in same) }
map_some f None y e = absurd (none_some e)

pub or_some : {A : Type 0} (a b : Option A) (y : A) → or_else a b ≡ Some y → (a ≡ Some y) ⊎ ((a ≡ None) × (b ≡ Some y))
or_some (Some x) b y e = inl e
or_some None b y e = inr (refl, e)

pub whole_some : {A : Type 0} (o : Option (A × List ℕ)) (x : A) → whole o ≡ Some x → o ≡ Some (x, [])
whole_some None x e = absurd (none_some e)
whole_some (Some (y, [])) x e = let same : y ≡ x = cc in cc
whole_some (Some (y, c ∷ rest)) x e = absurd (none_some e)

pub some_pair : {A B : Type 0} (a c : A) (b d : B) → (◌≡◌ {A = Option (A × B)} (Some (a, b)) (Some (c, d))) → (a ≡ c) × (b ≡ d)
some_pair {A} {B} a c b d e =
    let p : (◌≡◌ {A = A × B} (a, b) (c, d)) = cc in
    (ap (λ (q : A × B). q.0) p, ap (λ (q : A × B). q.1) p)
