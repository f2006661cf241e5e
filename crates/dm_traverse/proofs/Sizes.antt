-- How many nodes a true tree has, by the choices that are left undecided.
use Rattle.std.proofs.Common.{◌≡◌, ℕ, zero, suc, ◌+◌, ◌^◌, ◌≤◌, Bool, true, false, cond, List, [], ◌∷◌, ◌++◌, length, refl, ap, ◌∙◌, inl, inr, arith, length-append}
use Rattle.std.specs.Prelude.{Contains, not, count_by}
use Rattle.std.specs.List.{list_any}
use Rattle.std.proofs.lemmas.Bool.{not-true, not_from_true, not_from_false, both_ways, or_left, false_from_ne_true}
use Rattle.std.proofs.Math.Nat.{two-pow-succ}
use Rattle.std.proofs.lemmas.List.Sums.{sum_by-cons}
use Rattle.std.proofs.lemmas.List.Elements.{Contains-push}
use Rattle.std.proofs.lemmas.List.Folds.{list_any-append}
use Rattle.dm_network.specs.Start.{IsNetwork}
use Rattle.dm_rows.specs.declared.messages.Choice.{Choice}
use Rattle.dm_rows.specs.declared.messages.Decision.{Decision}
use Rattle.dm_rows.specs.Decide.{choice_of}
use Rattle.dm_rows.specs.Relax.{is_decided, is_same_choice}
use Rattle.dm_tree.specs.declared.forms.Node.TheVariants.{Inner, Open}
use Rattle.dm_tree.specs.Trees.{Shape, leaf, branch, preorder, IsProper, StandsAt}
use Rattle.dm_rows.specs.Sides.{first_decision, second_decision}
use Rattle.dm_tree.specs.Plans.{Task}
use Rattle.dm_paths.proofs.Setting.{in_front}
use Rattle.dm_relax.proofs.Completion.{is_decided_by}
use Rattle.dm_traverse.proofs.Leaves.{Facts, fact_here, facts_first, facts_second, decides_it}

-- two to the power of n
abbrev pub doubled : ℕ → ℕ
doubled zero = 1
doubled (suc n) = doubled n + doubled n

pub doubled_is : (n : ℕ) → doubled n ≡ 2 ^ n
doubled_is zero = refl
doubled_is (suc n) = let e = doubled_is n in let f = two-pow-succ n in omega (arith, e, f)

pub doubled_grows : (m n : ℕ) → m ≤ n → doubled m ≤ doubled n
doubled_grows zero zero le = omega arith
doubled_grows zero (suc n) le = let h = doubled_grows zero n (omega arith) in omega arith
doubled_grows (suc m) zero le = absurd (omega arith)
doubled_grows (suc m) (suc n) le = let h = doubled_grows m n (omega arith) in omega arith

-- fewer pass a test that passes no more, and not one of them
one_or_none : (p q : Bool) → (q ≡ true → p ≡ true) → cond q 1 0 ≤ cond p 1 0
one_or_none p false h = omega arith
one_or_none true true h = omega arith
one_or_none false true h = let e = h refl in cc

pub count_no_more : {X : Type 0} (p q : X → Bool) (xs : List X) → ((x : X) → q x ≡ true → p x ≡ true) → count_by q xs ≤ count_by p xs
count_no_more p q [] h = omega arith
count_no_more p q (x ∷ xs) h =
    let here = one_or_none (p x) (q x) (h x) in
    let later = count_no_more p q xs h in
    let e = sum_by-cons (λ y. cond (p y) 1 0) x xs in
    let f = sum_by-cons (λ y. cond (q y) 1 0) x xs in
    omega (arith, here, later, e, f)

one_and_none : (p q : Bool) → p ≡ true → q ≡ false → cond q 1 0 + 1 ≤ cond p 1 0
one_and_none true false e f = omega arith
one_and_none true true e f = cc
one_and_none false q e f = cc

pub count_less : {X : Type 0} (p q : X → Bool) (xs : List X) (y : X) → ((x : X) → q x ≡ true → p x ≡ true) → Contains xs y → p y ≡ true → q y ≡ false →
    count_by q xs + 1 ≤ count_by p xs
count_less p q [] y h among is isnt = absurd (omega (arith, among.1))
count_less p q (x ∷ xs) y h among is isnt =
    let e = sum_by-cons (λ z. cond (p z) 1 0) x xs in
    let f = sum_by-cons (λ z. cond (q z) 1 0) x xs in
    elim (in_front x y xs among) [
      | inl same ↦
          let here = one_and_none (p x) (q x) (ap p same ∙ is) (ap q same ∙ isnt) in
          let later = count_no_more p q xs h in
          omega (arith, here, later, e, f)
      | inr behind ↦
          let here = one_or_none (p x) (q x) (h x) in
          let later = count_less p q xs y h behind is isnt in
          omega (arith, here, later, e, f)
    ]

-- how many of the choices allowed a path leaves undecided
abbrev pub left_of : Task → List Decision → ℕ
left_of task path = count_by (λ c. not (is_decided path c)) task.allowed

stays_decided : (path : List Decision) (d : Decision) (c : Choice) → not (is_decided (path ++ d ∷ []) c) ≡ true → not (is_decided path c) ≡ true
stays_decided path d c h =
    not_from_false (is_decided path c)
    (false_from_ne_true (is_decided path c)
    (λ e.
    let test : Decision → Bool = λ x. is_same_choice (choice_of x) c in
    both_ways (is_decided (path ++ d ∷ []) c) (not-true (is_decided (path ++ d ∷ []) c) h)
    (list_any-append test path (d ∷ []) ∙ or_left (list_any test path) (list_any test (d ∷ [])) e)))

fewer_left : (task : Task) (path : List Decision) (d : Decision) (c : Choice) → choice_of d ≡ c → Contains task.allowed c → is_decided path c ≡ false →
    left_of task (path ++ d ∷ []) + 1 ≤ left_of task path
fewer_left task path d c is among none =
    count_less (λ e. not (is_decided path e)) (λ e. not (is_decided (path ++ d ∷ []) e)) task.allowed c (stays_decided path d) among
    (not_from_false (is_decided path c) none)
    (not_from_true (is_decided (path ++ d ∷ []) c) (is_decided_by (path ++ d ∷ []) d c (Contains-push path d) is))

some_left : (task : Task) (path : List Decision) (c : Choice) → Contains task.allowed c → is_decided path c ≡ false → 1 ≤ left_of task path
some_left task path c among none =
    let fewer = count_less (λ e. not (is_decided path e)) (λ e. false) task.allowed c (λ x h. cc) among (not_from_false (is_decided path c) none) refl in
    omega (arith, fewer)

module _ (task : Task) (network : IsNetwork task.net) where
  -- below either side of a choice less is left
  less_below : (path : List Decision) (m : ℕ) (ch : Choice) (a b : Shape) → Facts task path (branch ch a b) → left_of task path ≤ suc m →
      (left_of task (path ++ first_decision ch ∷ []) ≤ m) × (left_of task (path ++ second_decision ch ∷ []) ≤ m)
  less_below path m ch a b facts le =
      let here = fact_here task path (Inner ch) (facts [] (Inner ch) refl) in
      let decides = decides_it task.net network task.rows ch here.0.free in
      let first = fewer_left task path (first_decision ch) ch decides.first here.1 here.0.undecided in
      let second = fewer_left task path (second_decision ch) ch decides.second here.1 here.0.undecided in (
        omega (arith, first),
        omega (arith, second),
      )

  -- where nothing is left there is no choice
  none_below : (path : List Decision) (ch : Choice) (a b : Shape) → Facts task path (branch ch a b) → 1 ≤ left_of task path
  none_below path ch a b facts =
      let here = fact_here task path (Inner ch) (facts [] (Inner ch) refl) in
      some_left task path ch here.1 here.0.undecided

  pub few_nodes : (shape : Shape) (path : List Decision) (m : ℕ) → IsProper shape → Facts task path shape → left_of task path ≤ m →
      length (preorder shape) + 1 ≤ doubled (suc m)
  few_nodes (leaf n) path m proper facts le =
      let h = doubled_grows 1 (suc m) (omega arith) in omega (arith, h)
  few_nodes (branch ch a b) path zero proper facts le = let some = none_below path ch a b facts in absurd (omega (arith, some))
  few_nodes (branch ch a b) path (suc m) proper facts le =
      let less = less_below path m ch a b facts le in
      let first = few_nodes a (path ++ first_decision ch ∷ []) m proper.1 (facts_first task path ch a b facts) less.0 in
      let second = few_nodes b (path ++ second_decision ch ∷ []) m proper.2 (facts_second task path ch a b facts) less.1 in
      let size = length-append (preorder a) (preorder b) in
      let e : doubled (suc (suc m)) ≡ doubled (suc m) + doubled (suc m) = refl in
      omega (arith, first, second, size, e)

  -- with an open leaf there are two nodes less
  pub fewer_nodes : (shape : Shape) (path : List Decision) (m : ℕ) → IsProper shape → Facts task path shape → left_of task path ≤ m →
      (q : List Decision) (k : ℕ) → StandsAt shape q (Open k) → length (preorder shape) + 3 ≤ doubled (suc m)
  fewer_nodes (leaf n) path m proper facts le [] k stands =
      let here = fact_here task path (Open k) (facts [] (Open k) stands) in
      let some = some_left task path here.1.0 here.1.2 here.1.1.undecided in
      let h = doubled_grows 2 (suc m) (omega arith) in
      omega (arith, h)
  fewer_nodes (leaf n) path m proper facts le (d ∷ q) k stands = elim stands [ ]
  fewer_nodes (branch ch a b) path m proper facts le [] k stands = cc
  fewer_nodes (branch ch a b) path zero proper facts le (d ∷ q) k stands = let some = none_below path ch a b facts in absurd (omega (arith, some))
  fewer_nodes (branch ch a b) path (suc m) proper facts le (d ∷ q) k stands =
      let less = less_below path m ch a b facts le in
      let size = length-append (preorder a) (preorder b) in
      let e : doubled (suc (suc m)) ≡ doubled (suc m) + doubled (suc m) = refl in
      elim stands [
        | inl s ↦
            let first = fewer_nodes a (path ++ first_decision ch ∷ []) m proper.1 (facts_first task path ch a b facts) less.0 q k s.1 in
            let second = few_nodes b (path ++ second_decision ch ∷ []) m proper.2 (facts_second task path ch a b facts) less.1 in
            omega (arith, first, second, size, e)
        | inr s ↦
            let first = few_nodes a (path ++ first_decision ch ∷ []) m proper.1 (facts_first task path ch a b facts) less.0 in
            let second = fewer_nodes b (path ++ second_decision ch ∷ []) m proper.2 (facts_second task path ch a b facts) less.1 q k s.1 in
            omega (arith, first, second, size, e)
      ]
