-- The two decisions of a choice, and the test whether two choices are one.
use Rattle.std.proofs.Common.{◌≡◌, ℕ, Bool, true, false, cond, eqb, refl, ap, ◌⊎◌, inl, inr, arith, ltb, lt-ltb}
use Rattle.std.proofs.lemmas.Bool.{le-ltb, ltb-true, eqb-true, eq-eqb, and_parts, and_from}
use Rattle.dm_base.specs.declared.ids.ActId.{ActId}
use Rattle.dm_base.specs.declared.ids.EventId.{EventId}
use Rattle.dm_rows.specs.declared.messages.Choice.{Choice}
use Rattle.dm_rows.specs.declared.messages.Choice.TheVariants.{Change, Pair}
use Rattle.dm_rows.specs.declared.messages.Decision.{Decision}
use Rattle.dm_rows.specs.declared.messages.Decision.TheVariants.{Keep, Drop, First}
use Rattle.dm_rows.specs.Decide.{choice_of}
use Rattle.dm_rows.specs.Relax.{is_same_choice}
use Rattle.dm_rows.specs.Sides.{first_decision, second_decision, is_first_decision, other_decision, is_ordered, IsOrdered}

-- ids are equal where their numbers are
pub act_id : (a b : ActId) → a.0 ≡ b.0 → a ≡ b
act_id a b e = let f : ℕ → ActId = λ n. record { 0 = n } in ap f e

pub event_id : (a b : EventId) → a.0 ≡ b.0 → a ≡ b
event_id a b e = let f : ℕ → EventId = λ n. record { 0 = n } in ap f e

-- two choices that the test takes for one are one
pub same_choice : (c d : Choice) → is_same_choice c d ≡ true → c ≡ d
same_choice (Change a) (Change b) h = ap Change (act_id a b (eqb-true a.0 b.0 h))
same_choice (Change a) (Pair k l) h = cc
same_choice (Pair i j) (Change b) h = cc
same_choice (Pair i j) (Pair k l) h =
    let both = and_parts (eqb i.0 k.0) (eqb j.0 l.0) h in
    let e : i ≡ k = event_id i k (eqb-true i.0 k.0 both.0) in
    let f : j ≡ l = event_id j l (eqb-true j.0 l.0 both.1) in
    cc

pub same_itself : (c : Choice) → is_same_choice c c ≡ true
same_itself (Change a) = eq-eqb a.0 a.0 refl
same_itself (Pair i j) = and_from (eqb i.0 i.0) (eqb j.0 j.0) (eq-eqb i.0 i.0 refl) (eq-eqb j.0 j.0 refl)

-- a choice is in order where the test says so
pub ordered : (c : Choice) → is_ordered c ≡ true → IsOrdered c
ordered (Change a) o = tt
ordered (Pair i j) o = ltb-true i.0 j.0 o

pub ordered_tells : (c : Choice) → IsOrdered c → is_ordered c ≡ true
ordered_tells (Change a) o = refl
ordered_tells (Pair i j) o = lt-ltb i.0 j.0 o

-- the choice that a first, a second, the other decision decides
pub first_decides : (c : Choice) → IsOrdered c → choice_of (first_decision c) ≡ c
first_decides (Change a) o = refl
first_decides (Pair i j) o = rw (lt-ltb i.0 j.0 o) refl

pub second_decides : (c : Choice) → IsOrdered c → choice_of (second_decision c) ≡ c
second_decides (Change a) o = refl
second_decides (Pair i j) o = rw (le-ltb j.0 i.0 (omega arith)) refl

-- a decision of a choice is its first or its second, and these differ
pub is_either : (d : Decision) (c : Choice) → choice_of d ≡ c → (d ≡ first_decision c) ⊎ (d ≡ second_decision c)
is_either (Keep a) c e = inl (ap first_decision e)
is_either (Drop a) c e = inr (ap second_decision e)
is_either (First i j) c e = by_order (ltb i.0 j.0) e
  where
    by_order : (t : Bool) → cond t (Pair i j) (Pair j i) ≡ c → (First i j ≡ first_decision c) ⊎ (First i j ≡ second_decision c)
    by_order true e = inl (ap first_decision e)
    by_order false e = inr (ap second_decision e)

pub two_decisions : (c : Choice) → IsOrdered c → first_decision c ≡ second_decision c → ⊥
two_decisions (Change a) o e = cc
two_decisions (Pair i j) o e = let same : i ≡ j = cc in let nums : i.0 ≡ j.0 = ap (λ (x : EventId). x.0) same in omega arith

-- the first decision of a choice in order is a first one, its other decision is the second, and that is no first one
pub first_is_first : (c : Choice) → is_ordered c ≡ true → is_first_decision (first_decision c) ≡ true
first_is_first (Change a) o = refl
first_is_first (Pair i j) o = o

pub other_of_first : (c : Choice) → other_decision (first_decision c) ≡ second_decision c
other_of_first (Change a) = refl
other_of_first (Pair i j) = refl

-- what a first decision is of the choice that it decides
pub record IsFirstOf (d : Decision) (c : Choice) : Type 0 where
  pub ordered : is_ordered c ≡ true
  pub first : first_decision c ≡ d
  pub second : second_decision c ≡ other_decision d

pub first_of_choice : (d : Decision) → is_first_decision d ≡ true → IsFirstOf d (choice_of d)
first_of_choice (Keep a) e = record { ordered = refl; first = refl; second = refl }
first_of_choice (Drop a) e = cc
first_of_choice (First i j) e = rw e (record { ordered = e; first = refl; second = refl })
