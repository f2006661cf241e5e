-- Ways, their steps and their weights.
use Rattle.std.proofs.Common.{◌≡◌, ◌≢◌, ℕ, zero, suc, ◌+◌, ◌≤◌, Bool, true, false, cond, List, [], ◌∷◌, ◌++◌, map, Some, slice_get, refl, ap, sym, ◌∙◌, subst, arith, append_assoc, append-nil}
use Rattle.std.specs.Prelude.{sum_by}
use Rattle.std.proofs.lemmas.List.Sums.{sum_by-cons}
use Rattle.std.proofs.lemmas.Bool.{le-ltb}
use Rattle.std.proofs.Common.{lt-ltb}
use Rattle.dm_rows.specs.declared.messages.Choice.{Choice}
use Rattle.dm_rows.specs.declared.messages.Choice.TheVariants.{Change, Pair}
use Rattle.dm_rows.specs.declared.messages.Decision.{Decision}
use Rattle.dm_rows.specs.Sides.{first_decision, second_decision, is_first_decision, IsOrdered}
use Rattle.dm_team.specs.Ways.{IsStep, GoesDown, on_way}

pub first_is_first : (c : Choice) → IsOrdered c → is_first_decision (first_decision c) ≡ true
first_is_first (Change a) o = refl
first_is_first (Pair i j) o = lt-ltb i.0 j.0 o

pub second_is_not : (c : Choice) → IsOrdered c → is_first_decision (second_decision c) ≡ false
second_is_not (Change a) o = refl
second_is_not (Pair i j) o = le-ltb j.0 i.0 (omega arith)

-- the sides of a path
abbrev pub sides_of : List Decision → List Bool
sides_of path = map is_first_decision path

-- a step of a way, by the side that it takes
pub step_weight : (d : Decision) (b : Bool) (sides : List Bool) (path : List Decision) → is_first_decision d ≡ b → on_way (b ∷ sides) (d ∷ path) ≡ on_way sides path
step_weight d true sides path e = rw e refl
step_weight d false sides path e = rw e refl

-- a path lies on its own way, and so does each front of it
pub own_way : (path rest : List Decision) → on_way (sides_of (path ++ rest)) path ≡ 1
own_way [] rest = refl
own_way (d ∷ path) rest = step_weight d (is_first_decision d) (sides_of (path ++ rest)) path refl ∙ own_way path rest

-- of the two paths below a choice at most one lies on a way, and then the path does
pub below_weight : (c : Choice) → IsOrdered c → (sides : List Bool) (path : List Decision)
    → on_way sides (path ++ first_decision c ∷ []) + on_way sides (path ++ second_decision c ∷ []) ≤ on_way sides path
below_weight c o [] [] = omega arith
below_weight c o (true ∷ sides) [] = rw (first_is_first c o, second_is_not c o) (omega arith)
below_weight c o (false ∷ sides) [] = rw (first_is_first c o, second_is_not c o) (omega arith)
below_weight c o [] (d ∷ path) = omega arith
below_weight c o (true ∷ sides) (d ∷ path) = by_test (is_first_decision d) (below_weight c o sides path) where
  by_test : (t : Bool) → on_way sides (path ++ first_decision c ∷ []) + on_way sides (path ++ second_decision c ∷ []) ≤ on_way sides path
      → cond t (on_way sides (path ++ first_decision c ∷ [])) 0 + cond t (on_way sides (path ++ second_decision c ∷ [])) 0 ≤ cond t (on_way sides path) 0
  by_test true h = h
  by_test false h = omega arith
below_weight c o (false ∷ sides) (d ∷ path) = by_test (is_first_decision d) (below_weight c o sides path) where
  by_test : (t : Bool) → on_way sides (path ++ first_decision c ∷ []) + on_way sides (path ++ second_decision c ∷ []) ≤ on_way sides path
      → cond t 0 (on_way sides (path ++ first_decision c ∷ [])) + cond t 0 (on_way sides (path ++ second_decision c ∷ [])) ≤ cond t 0 (on_way sides path)
  by_test true h = omega arith
  by_test false h = h

-- a way with one step more
module _ (Chosen : List Decision → Choice → Type 0) where
  pub goes_further : (path rest : List Decision) (d : Decision) → GoesDown Chosen path rest → IsStep Chosen (path ++ rest) d → GoesDown Chosen path (rest ++ d ∷ [])
  goes_further path [] d down step = (subst (λ p. IsStep Chosen p d) (append-nil path) step, tt)
  goes_further path (e ∷ rest) d down step =
      (down.0, goes_further (path ++ e ∷ []) rest d down.1 (subst (λ p. IsStep Chosen p d) (sym (append_assoc path (e ∷ []) rest)) step))

one_place : {X : Type 0} (f : X → ℕ) (xs : List X) (n : ℕ) (b : X) → slice_get xs n ≡ Some b → f b ≤ sum_by f xs
one_place f [] n b q = cc
one_place f (x ∷ xs) zero b q = let is : x ≡ b = cc in omega (arith, sum_by-cons f x xs, ap f is)
one_place f (x ∷ xs) (suc n) b q = omega (arith, sum_by-cons f x xs, one_place f xs n b q)

-- two places of a list weigh no more than all
pub two_places : {X : Type 0} (f : X → ℕ) (xs : List X) (m n : ℕ) (a b : X) → slice_get xs m ≡ Some a → slice_get xs n ≡ Some b → m ≢ n → f a + f b ≤ sum_by f xs
two_places f [] m n a b p q ne = cc
two_places f (x ∷ xs) zero zero a b p q ne = absurd (ne refl)
two_places f (x ∷ xs) zero (suc n) a b p q ne = let is : x ≡ a = cc in omega (arith, sum_by-cons f x xs, ap f is, one_place f xs n b q)
two_places f (x ∷ xs) (suc m) zero a b p q ne = let is : x ≡ b = cc in omega (arith, sum_by-cons f x xs, ap f is, one_place f xs m a p)
two_places f (x ∷ xs) (suc m) (suc n) a b p q ne = omega (arith, sum_by-cons f x xs, two_places f xs m n a b p q (λ e. ne (ap suc e)))
