-- What holds of each file of a shelf holds of the one that is found.
use Rattle.std.proofs.Common.{Bool, true, false, cond, List, [], ◌∷◌, Some, IfSome}
use Rattle.std.specs.List.{All, find}
use Rattle.std.proofs.lemmas.List.Elements.{All-head, All-tail}

pub IfSome-find : {X : Type 0} (P : X → Type 0) (test : X → Bool) (xs : List X) → All P xs → IfSome (find test xs) P
IfSome-find P test [] each = tt
IfSome-find P test (x ∷ xs) each =
    elim (test x) as (λ b. IfSome (cond b (Some x) (find test xs)) P) [
      | true ↦ All-head P x xs each
      | false ↦ IfSome-find P test xs (All-tail P x xs each)
    ]
