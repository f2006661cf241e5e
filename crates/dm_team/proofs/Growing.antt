-- Leaves that stand apart, at the ends of ways, are those of a tree.
use Rattle.std.proofs.Common.{◌≡◌, ℕ, zero, suc, ◌+◌, ◌≤◌, ◌<◌, Bool, true, false, cond, List, [], ◌∷◌, ◌++◌, length, Some, slice_get, refl, ap, sym, ◌∙◌, subst, arith, inl, inr, ⊎_elim, append_assoc, append-nil}
use native.Mathlib.Decide.{ℕ_discrete}
use Rattle.std.specs.Prelude.{sum_by, All}
use Rattle.std.proofs.lemmas.List.Sums.{sum_by-cons}
use Rattle.std.proofs.lemmas.List.Elements.{All-nil, All-cons, All-head, All-tail}
use Rattle.dm_rows.specs.declared.messages.Choice.{Choice}
use Rattle.dm_rows.specs.declared.messages.Decision.{Decision}
use Rattle.dm_rows.specs.Decide.{choice_of}
use Rattle.dm_rows.specs.Sides.{first_decision, second_decision, is_first_decision, IsOrdered}
use Rattle.dm_rows.proofs.Sides.{first_decides, second_decides}
use Rattle.dm_tree.specs.declared.forms.Leaf.{Leaf}
use Rattle.dm_tree.specs.declared.forms.Node.{Node}
use Rattle.dm_tree.specs.declared.forms.Node.TheVariants.{Inner, Cycle, Bound, Open, Hole}
use Rattle.dm_tree.specs.Trees.{Shape, leaf, branch, IsLeaf, IsProper, StandsAt, HasLeaves}
use Rattle.dm_team.specs.Ways.{IsStep, GoesDown, on_way, leaves_on, StandApart}
use Rattle.dm_team.proofs.Ways.{first_is_first, second_is_not, sides_of, step_weight, own_way, two_places}

abbrev at_path : List Decision → Node → Leaf
at_path path n = record { path = path; node = n }

-- the leaves behind a first or a second decision, without it
abbrev lowered : Bool → List Decision → Node → List Leaf → List Leaf
lowered b [] n rest = rest
lowered true (d ∷ path) n rest = cond (is_first_decision d) (at_path path n ∷ rest) rest
lowered false (d ∷ path) n rest = cond (is_first_decision d) rest (at_path path n ∷ rest)

abbrev below : Bool → List Leaf → List Leaf
below b [] = []
below b (l ∷ ls) = lowered b l.path l.node (below b ls)

abbrev grown_at : List Decision → Node → Shape → Shape → Shape
grown_at [] n a b = leaf n
grown_at (d ∷ path) n a b = branch (choice_of d) a b

abbrev grow : ℕ → List Leaf → Shape
grow zero ls = leaf Hole
grow (suc n) [] = leaf Hole
grow (suc n) (l ∷ ls) = grown_at l.path l.node (grow n (below true (l ∷ ls))) (grow n (below false (l ∷ ls)))

abbrev Each : (Leaf → Type 0) → List Leaf → Type 0
Each P [] = Unit {0}
Each P (l ∷ ls) = P l × Each P ls

each_all : (P : Leaf → Type 0) (ls : List Leaf) → Each P ls → All P ls
each_all P [] h = All-nil P
each_all P (l ∷ ls) h = All-cons P l ls h.0 (each_all P ls h.1)

pub all_each : (P : Leaf → Type 0) (ls : List Leaf) → All P ls → Each P ls
all_each P [] h = tt
all_each P (l ∷ ls) h = (All-head P l ls h, all_each P ls (All-tail P l ls h))

-- what holds of leaves tells what holds of those behind a decision
each_below : (P Q : Leaf → Type 0) (b : Bool) → ((d : Decision) (path : List Decision) (n : Node) → is_first_decision d ≡ b → P (at_path (d ∷ path) n) → Q (at_path path n))
    → (ls : List Leaf) → Each P ls → Each Q (below b ls)
each_below P Q b step [] h = tt
each_below P Q b step (l ∷ ls) h = one b refl l.path l.node h.0 (each_below P Q b step ls h.1) where
  one : (c : Bool) → b ≡ c → (path : List Decision) (n : Node) → P (at_path path n) → Each Q (below b ls) → Each Q (lowered c path n (below b ls))
  one c e [] n p rest = rest
  one true e (d ∷ path) n p rest = by_test (is_first_decision d) refl where
    by_test : (t : Bool) → is_first_decision d ≡ t → Each Q (cond t (at_path path n ∷ below b ls) (below b ls))
    by_test true f = (step d path n (f ∙ sym e) p, rest)
    by_test false f = rest
  one false e (d ∷ path) n p rest = by_test (is_first_decision d) refl where
    by_test : (t : Bool) → is_first_decision d ≡ t → Each Q (cond t (below b ls) (at_path path n ∷ below b ls))
    by_test true f = rest
    by_test false f = (step d path n (f ∙ sym e) p, rest)

abbrev HasStep : List Decision → Type 0
HasStep [] = ⊥
HasStep (d ∷ path) = Unit {0}

-- what holds behind both decisions tells what holds of all
each_above : (F P Q R : Leaf → Type 0) → ((d : Decision) (path : List Decision) (n : Node) → is_first_decision d ≡ true → F (at_path (d ∷ path) n) → P (at_path path n) → R (at_path (d ∷ path) n))
    → ((d : Decision) (path : List Decision) (n : Node) → is_first_decision d ≡ false → F (at_path (d ∷ path) n) → Q (at_path path n) → R (at_path (d ∷ path) n))
    → (ls : List Leaf) → Each F ls → Each (λ l. HasStep l.path) ls → Each P (below true ls) → Each Q (below false ls) → Each R ls
each_above F P Q R first second [] f some a b = tt
each_above F P Q R first second (l ∷ ls) f some a b = one l.path l.node f.0 some.0 (λ c d. each_above F P Q R first second ls f.1 some.1 c d) a b where
  one : (path : List Decision) (n : Node) → F (at_path path n) → HasStep path → (Each P (below true ls) → Each Q (below false ls) → Each R ls)
      → Each P (lowered true path n (below true ls)) → Each Q (lowered false path n (below false ls)) → R (at_path path n) × Each R ls
  one [] n g h rest a b = absurd h
  one (d ∷ path) n g h rest a b = by_test (is_first_decision d) refl a b where
    by_test : (t : Bool) → is_first_decision d ≡ t → Each P (cond t (at_path path n ∷ below true ls) (below true ls)) → Each Q (cond t (below false ls) (at_path path n ∷ below false ls))
        → R (at_path (d ∷ path) n) × Each R ls
    by_test true e a b = (first d path n e g a.0, rest a.1 b)
    by_test false e a b = (second d path n e g b.0, rest a b.1)

-- no more leaves lie on a way below than on the way with the side in front
apart_below : (b : Bool) (sides : List Bool) (ls : List Leaf) → leaves_on sides (below b ls) ≤ leaves_on (b ∷ sides) ls
apart_below b sides [] = omega arith
apart_below b sides (l ∷ ls) = one b l.path l.node (apart_below b sides ls) where
  one : (c : Bool) (path : List Decision) (n : Node) → leaves_on sides (below b ls) ≤ leaves_on (c ∷ sides) ls
      → leaves_on sides (lowered c path n (below b ls)) ≤ leaves_on (c ∷ sides) (at_path path n ∷ ls)
  one c [] n h = omega (arith, h, sum_by-cons (λ (m : Leaf). on_way (c ∷ sides) m.path) (at_path [] n) ls)
  one true (d ∷ path) n h = by_test (is_first_decision d) refl where
    cons : leaves_on (true ∷ sides) (at_path (d ∷ path) n ∷ ls) ≡ on_way (true ∷ sides) (d ∷ path) + leaves_on (true ∷ sides) ls
    cons = sum_by-cons (λ (m : Leaf). on_way (true ∷ sides) m.path) (at_path (d ∷ path) n) ls

    by_test : (t : Bool) → is_first_decision d ≡ t → leaves_on sides (cond t (at_path path n ∷ below b ls) (below b ls)) ≤ leaves_on (true ∷ sides) (at_path (d ∷ path) n ∷ ls)
    by_test true e = omega (arith, h, cons, step_weight d true sides path e, sum_by-cons (λ (m : Leaf). on_way sides m.path) (at_path path n) (below b ls))
    by_test false e = omega (arith, h, cons)
  one false (d ∷ path) n h = by_test (is_first_decision d) refl where
    cons : leaves_on (false ∷ sides) (at_path (d ∷ path) n ∷ ls) ≡ on_way (false ∷ sides) (d ∷ path) + leaves_on (false ∷ sides) ls
    cons = sum_by-cons (λ (m : Leaf). on_way (false ∷ sides) m.path) (at_path (d ∷ path) n) ls

    by_test : (t : Bool) → is_first_decision d ≡ t → leaves_on sides (cond t (below b ls) (at_path path n ∷ below b ls)) ≤ leaves_on (false ∷ sides) (at_path (d ∷ path) n ∷ ls)
    by_test true e = omega (arith, h, cons)
    by_test false e = omega (arith, h, cons, step_weight d false sides path e, sum_by-cons (λ (m : Leaf). on_way sides m.path) (at_path path n) (below b ls))

-- none of the others lies on the way of a leaf
none_on : (sides : List Bool) (ls : List Leaf) → leaves_on sides ls ≤ 0 → Each (λ l. on_way sides l.path ≡ 0) ls
none_on sides [] h = tt
none_on sides (l ∷ ls) h =
    let c = sum_by-cons (λ (m : Leaf). on_way sides m.path) l ls in (omega (arith, h, c), none_on sides ls (omega (arith, h, c)))

each_weaker : (P Q : Leaf → Type 0) → ((l : Leaf) → P l → Q l) → (ls : List Leaf) → Each P ls → Each Q ls
each_weaker P Q f [] h = tt
each_weaker P Q f (l ∷ ls) h = (f l h.0, each_weaker P Q f ls h.1)

no_end : (sides : List Bool) (l : Leaf) → on_way sides l.path ≡ 0 → HasStep l.path
no_end sides l h = by_path l.path h where
  by_path : (path : List Decision) → on_way sides path ≡ 0 → HasStep path
  by_path [] h = absurd (omega (arith, h))
  by_path (d ∷ path) h = tt

no_inner : (n : Node) (c : Choice) → IsLeaf n → n ≡ Inner c → ⊥
no_inner (Inner x) c i e = i
no_inner Cycle c i e = cc
no_inner (Bound x) c i e = cc
no_inner (Open x) c i e = cc
no_inner Hole c i e = cc

module _ (Chosen : List Decision → Choice → Type 0) (one : (path : List Decision) (a b : Choice) → Chosen path a → Chosen path b → a ≡ b)
    (ordered : (path : List Decision) (c : Choice) → Chosen path c → IsOrdered c) where
  -- a leaf at the end of a way behind the prefix, which is shorter than so much
  abbrev Fit : ℕ → List Decision → Leaf → Type 0
  Fit n prefix l = (length l.path < n) × GoesDown Chosen prefix l.path × IsLeaf l.node

  record Grown (prefix : List Decision) (ls : List Leaf) (shape : Shape) : Type 0 where
    stand : Each (λ l. StandsAt shape l.path l.node) ls
    proper : IsProper shape
    inner : (path : List Decision) (c : Choice) → StandsAt shape path (Inner c) → Chosen (prefix ++ path) c

  a_leaf : (prefix : List Decision) (ls : List Leaf) (n : Node) → IsLeaf n → Each (λ l. StandsAt (leaf n) l.path l.node) ls → Grown prefix ls (leaf n)
  a_leaf prefix ls n i stand = record { stand = stand; proper = i; inner = inner } where
    inner : (path : List Decision) (c : Choice) → StandsAt (leaf n) path (Inner c) → Chosen (prefix ++ path) c
    inner [] c s = absurd (no_inner n c i s)
    inner (d ∷ path) c s = absurd s

  -- the decision is the side of the choice that it says
  is_first : (prefix : List Decision) (c : Choice) (d : Decision) → Chosen prefix c → IsStep Chosen prefix d → is_first_decision d ≡ true → d ≡ first_decision c
  is_first prefix c d chosen step e =
      let same : step.choice ≡ c = one prefix step.choice c step.chosen chosen in
      ⊎_elim (λ (f : d ≡ first_decision step.choice). f ∙ ap first_decision same)
      (λ (f : d ≡ second_decision step.choice). absurd (no_true (sym e ∙ (ap is_first_decision f ∙ second_is_not step.choice (ordered prefix step.choice step.chosen)))))
      step.side where
        no_true : true ≡ false → ⊥
        no_true f = cc

  is_second : (prefix : List Decision) (c : Choice) (d : Decision) → Chosen prefix c → IsStep Chosen prefix d → is_first_decision d ≡ false → d ≡ second_decision c
  is_second prefix c d chosen step e =
      let same : step.choice ≡ c = one prefix step.choice c step.chosen chosen in
      ⊎_elim (λ (f : d ≡ first_decision step.choice). absurd (no_false (sym e ∙ (ap is_first_decision f ∙ first_is_first step.choice (ordered prefix step.choice step.chosen)))))
      (λ (f : d ≡ second_decision step.choice). f ∙ ap second_decision same)
      step.side where
        no_false : false ≡ true → ⊥
        no_false f = cc

  choice_is : (prefix : List Decision) (d : Decision) → (step : IsStep Chosen prefix d) → choice_of d ≡ step.choice
  choice_is prefix d step =
      let o = ordered prefix step.choice step.chosen in
      ⊎_elim (λ (f : d ≡ first_decision step.choice). ap choice_of f ∙ first_decides step.choice o)
      (λ (f : d ≡ second_decision step.choice). ap choice_of f ∙ second_decides step.choice o) step.side

  -- a choice with what grows below its two decisions
  a_branch : (n : ℕ) (prefix : List Decision) (c : Choice) (ls : List Leaf) (a b : Shape) → Chosen prefix c → Each (Fit n prefix) ls → Each (λ l. HasStep l.path) ls
      → Grown (prefix ++ first_decision c ∷ []) (below true ls) a → Grown (prefix ++ second_decision c ∷ []) (below false ls) b → Grown prefix ls (branch c a b)
  a_branch n prefix c ls a b chosen fit some first second = record {
    stand = each_above (Fit n prefix) (λ l. StandsAt a l.path l.node) (λ l. StandsAt b l.path l.node) (λ l. StandsAt (branch c a b) l.path l.node)
        (λ d path m e f s. inl (is_first prefix c d chosen f.1.0 e, s)) (λ d path m e f s. inr (is_second prefix c d chosen f.1.0 e, s))
        ls fit some first.stand second.stand;
    proper = (ordered prefix c chosen, first.proper, second.proper);
    inner = inner;
  } where
    inner : (path : List Decision) (k : Choice) → StandsAt (branch c a b) path (Inner k) → Chosen (prefix ++ path) k
    inner [] k s = let same : c ≡ k = cc in subst (λ (p : List Decision). Chosen p k) (sym (append-nil prefix)) (subst (Chosen prefix) same chosen)
    inner (d ∷ path) k s = ⊎_elim
        (λ (h : (d ≡ first_decision c) × StandsAt a path (Inner k)). deeper d (first_decision c) path k h.0 (first.inner path k h.1))
        (λ (h : (d ≡ second_decision c) × StandsAt b path (Inner k)). deeper d (second_decision c) path k h.0 (second.inner path k h.1)) s where
          deeper : (d e : Decision) (path : List Decision) (k : Choice) → d ≡ e → Chosen ((prefix ++ e ∷ []) ++ path) k → Chosen (prefix ++ d ∷ path) k
          deeper d e path k same h = subst (λ (x : Decision). Chosen (prefix ++ x ∷ path) k) (sym same) (subst (λ (p : List Decision). Chosen p k) (append_assoc prefix (e ∷ []) path) h)

  -- a leaf at the path itself is alone
  alone : (l : Leaf) → l.path ≡ [] → (ls : List Leaf) → StandApart (l ∷ ls) → Each (λ m. StandsAt (leaf l.node) m.path m.node) (l ∷ ls)
  alone l e [] apart = (subst (λ (p : List Decision). StandsAt (leaf l.node) p l.node) (sym e) refl, tt)
  alone l e (m ∷ ls) apart = absurd (omega (
    arith,
    apart (sides_of m.path),
    sum_by-cons (λ (x : Leaf). on_way (sides_of m.path) x.path) l (m ∷ ls),
    sum_by-cons (λ (x : Leaf). on_way (sides_of m.path) x.path) m ls,
    ap (on_way (sides_of m.path)) e,
    own_way m.path [],
    ap (λ (p : List Decision). on_way (sides_of p) m.path) (append-nil m.path),
  ))

  -- behind a leaf's first step all others have one
  have_steps : (l : Leaf) (ls : List Leaf) → HasStep l.path → StandApart (l ∷ ls) → Each (λ m. HasStep m.path) (l ∷ ls)
  have_steps l ls some apart = (
    some,
    each_weaker (λ m. on_way (sides_of l.path) m.path ≡ 0) (λ m. HasStep m.path) (no_end (sides_of l.path)) ls
        (none_on (sides_of l.path) ls (omega (
          arith,
          apart (sides_of l.path),
          sum_by-cons (λ (m : Leaf). on_way (sides_of l.path) m.path) l ls,
          own_way l.path [],
          ap (λ (p : List Decision). on_way (sides_of p) l.path) (append-nil l.path),
        ))),
  )

  smaller : (n : ℕ) (prefix : List Decision) (ls : List Leaf) (b : Bool) (d : Decision) → ((e : Decision) → IsStep Chosen prefix e → is_first_decision e ≡ b → e ≡ d)
      → Each (Fit (suc n) prefix) ls → Each (Fit n (prefix ++ d ∷ [])) (below b ls)
  smaller n prefix ls b d is fit = each_below (Fit (suc n) prefix) (Fit n (prefix ++ d ∷ [])) b
      (λ e path m t f. (omega (arith, f.0), subst (λ (x : Decision). GoesDown Chosen (prefix ++ x ∷ []) path) (is e f.1.0 t) f.1.1, f.2)) ls fit

  thin : (b : Bool) (ls : List Leaf) → StandApart ls → StandApart (below b ls)
  thin b ls apart sides = omega (arith, apart_below b sides ls, apart (b ∷ sides))

  -- what grows from leaves of which the first is this, where it is known what grows behind each decision
  grown_from : (n : ℕ) (prefix : List Decision) (l : Leaf) (ls : List Leaf) (a b : Shape) → StandApart (l ∷ ls) → Each (Fit (suc n) prefix) (l ∷ ls)
      → ((d : Decision) → Each (Fit n (prefix ++ d ∷ [])) (below true (l ∷ ls)) → Grown (prefix ++ d ∷ []) (below true (l ∷ ls)) a)
      → ((d : Decision) → Each (Fit n (prefix ++ d ∷ [])) (below false (l ∷ ls)) → Grown (prefix ++ d ∷ []) (below false (l ∷ ls)) b)
      → (path : List Decision) (m : Node) → l.path ≡ path → l.node ≡ m → Grown prefix (l ∷ ls) (grown_at path m a b)
  grown_from n prefix l ls a b apart fit first second [] m p q =
      a_leaf prefix (l ∷ ls) m (subst IsLeaf q fit.0.2) (subst (λ (x : Node). Each (λ k. StandsAt (leaf x) k.path k.node) (l ∷ ls)) q (alone l p ls apart))
  grown_from n prefix l ls a b apart fit first second (d ∷ path) m p q =
      let step : IsStep Chosen prefix d = (subst (λ (x : List Decision). GoesDown Chosen prefix x) p fit.0.1).0 in
      let c : Choice = step.choice in let chosen : Chosen prefix c = step.chosen in
      let some = have_steps l ls (subst HasStep (sym p) tt) apart in
      let one_side = first (first_decision c) (smaller n prefix (l ∷ ls) true (first_decision c) (λ e s t. is_first prefix c e chosen s t) fit) in
      let other_side = second (second_decision c) (smaller n prefix (l ∷ ls) false (second_decision c) (λ e s t. is_second prefix c e chosen s t) fit) in
      subst (λ (k : Choice). Grown prefix (l ∷ ls) (branch k a b)) (sym (choice_is prefix d step))
      (a_branch (suc n) prefix c (l ∷ ls) a b chosen fit some one_side other_side)

  grown : (n : ℕ) (prefix : List Decision) (ls : List Leaf) → StandApart ls → Each (Fit n prefix) ls → Grown prefix ls (grow n ls)
  grown zero prefix [] apart fit = a_leaf prefix [] Hole tt tt
  grown zero prefix (l ∷ ls) apart fit = absurd (omega (arith, fit.0.0))
  grown (suc n) prefix [] apart fit = a_leaf prefix [] Hole tt tt
  grown (suc n) prefix (l ∷ ls) apart fit =
      grown_from n prefix l ls (grow n (below true (l ∷ ls))) (grow n (below false (l ∷ ls))) apart fit
      (λ d f. grown n (prefix ++ d ∷ []) (below true (l ∷ ls)) (thin true (l ∷ ls) apart) f)
      (λ d f. grown n (prefix ++ d ∷ []) (below false (l ∷ ls)) (thin false (l ∷ ls) apart) f)
      l.path l.node refl refl

  -- a tree with leaves that stand apart at the ends of ways, all of whose choices were chosen
  pub record IsTreeOf (leaves : List Leaf) : Type 0 where
    pub shape : Shape
    pub proper : IsProper shape
    pub has : HasLeaves shape leaves
    pub inner : (path : List Decision) (c : Choice) → StandsAt shape path (Inner c) → Chosen path c

  abbrev length_of : Leaf → ℕ
  length_of l = length l.path

  short : (ls : List Leaf) (more : ℕ) → Each (λ l. length l.path < more + sum_by length_of ls + 1) ls
  short [] more = tt
  short (l ∷ ls) more = (
    omega (arith, sum_by-cons length_of l ls),
    subst (λ (n : ℕ). Each (λ m. length m.path < n) ls) (omega (arith, sum_by-cons length_of l ls)) (short ls (more + length l.path)),
  )

  fitting : (n : ℕ) (ls : List Leaf) → Each (λ l. length l.path < n) ls → Each (λ l. GoesDown Chosen [] l.path × IsLeaf l.node) ls → Each (Fit n []) ls
  fitting n [] a b = tt
  fitting n (l ∷ ls) a b = ((a.0, b.0.0, b.0.1), fitting n ls a.1 b.1)

  once : (leaves : List Leaf) → StandApart leaves → (m n : ℕ) (a b : Leaf) → slice_get leaves m ≡ Some a → slice_get leaves n ≡ Some b → a.path ≡ b.path → m ≡ n
  once leaves apart m n a b p q same = elim (ℕ_discrete m n) as (λ _. m ≡ n) [
    | yes e ↦ e
    | no ne ↦ absurd (omega (
      arith,
      apart (sides_of a.path),
      two_places (λ (x : Leaf). on_way (sides_of a.path) x.path) leaves m n a b p q ne,
      own_way a.path [],
      ap (λ (x : List Decision). on_way (sides_of x) a.path) (append-nil a.path),
      ap (on_way (sides_of a.path)) same,
    ))
  ]

  pub tree_of : (leaves : List Leaf) → StandApart leaves → All (λ l. GoesDown Chosen [] l.path × IsLeaf l.node) leaves → IsTreeOf leaves
  tree_of leaves apart ends =
      let n : ℕ = 0 + sum_by length_of leaves + 1 in
      let each = all_each (λ l. GoesDown Chosen [] l.path × IsLeaf l.node) leaves ends in
      let g = grown n [] leaves apart (fitting n leaves (short leaves 0) each) in
      record {
        shape = grow n leaves;
        proper = g.proper;
        has = record {
          stand = each_all (λ l. StandsAt (grow n leaves) l.path l.node) leaves g.stand;
          are_leaves = each_all (λ l. IsLeaf l.node) leaves (each_weaker (λ l. GoesDown Chosen [] l.path × IsLeaf l.node) (λ l. IsLeaf l.node) (λ l h. h.1) leaves each);
          once = once leaves apart;
        };
        inner = g.inner;
      }
