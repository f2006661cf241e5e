-- Values of a list, each with those before it.
use Rattle.std.proofs.Common.{◌≡◌, ℕ, zero, suc, List, [], ◌∷◌, ◌++◌, take, Some, All, sym, subst, ◌∙◌, arith, append_assoc, append-nil, slice_get}
use Rattle.std.proofs.lemmas.List.Elements.{All-nil, All-cons, All-head, All-tail}
use Rattle.std.proofs.lemmas.Option.{slice_get_within}

-- this holds of each value, given those before it
abbrev pub Each : {V : Type 0} → (List V → V → Type 0) → List V → List V → Type 0
Each P before [] = Unit {0}
Each P before (v ∷ vs) = P before v × Each P (before ++ v ∷ []) vs

pub each_of_splits : {V : Type 0} (P : List V → V → Type 0) (all : List V) → ((before : List V) (v : V) (after : List V) → all ≡ before ++ v ∷ after → P before v) →
    (before vs : List V) → all ≡ before ++ vs → Each P before vs
each_of_splits P all holds before [] e = tt
each_of_splits P all holds before (v ∷ vs) e =
    (holds before v vs e, each_of_splits P all holds (before ++ v ∷ []) vs (e ∙ sym (append_assoc before (v ∷ []) vs)))

pub each_both : {V : Type 0} (P Q R : List V → V → Type 0) → ((before : List V) (v : V) → P before v → Q before v → R before v) → (before vs : List V) →
    Each P before vs → Each Q before vs → Each R before vs
each_both P Q R both before [] p q = tt
each_both P Q R both before (v ∷ vs) p q = (both before v p.0 q.0, each_both P Q R both (before ++ v ∷ []) vs p.1 q.1)

-- what holds of all holds of the one between these
pub all_there : {V : Type 0} (P : V → Type 0) (before : List V) (v : V) (after : List V) → All P (before ++ v ∷ after) → P v
all_there P [] v after all = All-head P v after all
all_there P (x ∷ before) v after all = all_there P before v after (All-tail P x (before ++ v ∷ after) all)

-- what holds of each value holds of the one at a place, given those before it
pub each_at : {V : Type 0} (P : List V → V → Type 0) (before vs : List V) → Each P before vs → (k : ℕ) (v : V) → slice_get vs k ≡ Some v → P (before ++ take k vs) v
each_at P before [] each k v at = absurd (let low = slice_get_within [] k v at in omega arith)
each_at P before (x ∷ vs) each zero v at = subst (λ b. P b v) (sym (append-nil before)) (subst (P before) (some_is x v at) each.0)
  where
    some_is : {V : Type 0} (x v : V) → Some x ≡ Some v → x ≡ v
    some_is x v e = cc
each_at P before (x ∷ vs) each (suc k) v at =
    subst (λ b. P b v) (append_assoc before (x ∷ []) (take k vs)) (each_at P (before ++ x ∷ []) vs each.1 k v at)

pub all_of_each : {V : Type 0} (P : List V → V → Type 0) (Q : V → Type 0) → ((before : List V) (v : V) → P before v → Q v) → (before vs : List V) → Each P before vs → All Q vs
all_of_each P Q holds before [] each = All-nil Q
all_of_each P Q holds before (v ∷ vs) each = All-cons Q v vs (holds before v each.0) (all_of_each P Q holds (before ++ v ∷ []) vs each.1)

pub each_weaker : {V : Type 0} (P Q : List V → V → Type 0) → ((before : List V) (v : V) → P before v → Q before v) → (before vs : List V) → Each P before vs → Each Q before vs
each_weaker P Q weaker before [] each = tt
each_weaker P Q weaker before (v ∷ vs) each = (weaker before v each.0, each_weaker P Q weaker (before ++ v ∷ []) vs each.1)
