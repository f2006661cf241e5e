-- What holds of lists that are fronts of others, place by place.
use Rattle.std.proofs.Common.{◌≡◌, ℕ, zero, suc, List, [], ◌∷◌, ◌++◌, sym, ap, subst, ◌∙◌, append_assoc, append-nil}
use Rattle.std.specs.Prelude.{slice_set, slice_index_or}
use mathlib.Core.List.{IsPrefix}
use Rattle.dm_store.specs.Calls.{AreFronts}

pub front_of_itself : {X : Type 0} (xs : List X) → IsPrefix xs xs
front_of_itself xs = ([], append-nil xs)

pub front_of_front : {X : Type 0} (xs ys zs : List X) → IsPrefix xs ys → IsPrefix ys zs → IsPrefix xs zs
front_of_front xs ys zs p q = (p.0 ++ q.0, sym (append_assoc xs p.0 q.0) ∙ (ap (λ (w : List _). w ++ q.0) p.1 ∙ q.1))

pub fronts_of_themselves : {X : Type 0} (lists : List (List X)) → AreFronts lists lists
fronts_of_themselves [] = tt
fronts_of_themselves (xs ∷ lists) = (front_of_itself xs, fronts_of_themselves lists)

pub same_fronts : {X : Type 0} (lists others : List (List X)) → lists ≡ others → AreFronts lists others
same_fronts lists others same = subst (AreFronts lists) same (fronts_of_themselves lists)

pub fronts_of_fronts : {X : Type 0} (one more most : List (List X)) → AreFronts one more → AreFronts more most → AreFronts one most
fronts_of_fronts [] [] [] p q = tt
fronts_of_fronts [] [] (z ∷ zs) p q = absurd q
fronts_of_fronts [] (y ∷ ys) zs p q = absurd p
fronts_of_fronts (x ∷ xs) [] zs p q = absurd p
fronts_of_fronts (x ∷ xs) (y ∷ ys) [] p q = absurd q
fronts_of_fronts (x ∷ xs) (y ∷ ys) (z ∷ zs) p q = (front_of_front x y z p.0 q.0, fronts_of_fronts xs ys zs p.1 q.1)

-- where one list is put anew, and goes on from what it was
pub front_anew : {X : Type 0} (lists : List (List X)) (place : ℕ) (list : List X) → IsPrefix (slice_index_or lists place []) list → AreFronts lists (slice_set lists place list)
front_anew [] place list p = tt
front_anew (xs ∷ lists) zero list p = (p, fronts_of_themselves lists)
front_anew (xs ∷ lists) (suc place) list p = (front_of_itself xs, front_anew lists place list p)
