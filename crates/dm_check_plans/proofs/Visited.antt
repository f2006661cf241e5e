-- The nodes of a tree, visited in preorder.
use Rattle.std.proofs.Common.{◌≡◌, ℕ, ◌+◌, ◌-◌, ◌<◌, Bool, true, false, List, [], ◌∷◌, ◌++◌, length, get_or, drop, refl, sym, subst, ◌⊎◌, inl, inr, arith, add-one, eqb, cond}
use Rattle.std.specs.Prelude.{All}
use Rattle.std.proofs.lemmas.List.{drop_more}
use Rattle.std.proofs.lemmas.List.Elements.{All-head, All-tail, All-cons}
use Rattle.dm_rows.specs.declared.messages.Choice.{Choice}
use Rattle.dm_rows.specs.declared.messages.Decision.{Decision}
use Rattle.dm_tree.specs.declared.forms.Node.{Node}
use Rattle.dm_tree.specs.declared.forms.Node.TheVariants.{Inner, Cycle, Bound, Open, Hole}
use Rattle.dm_tree.specs.declared.forms.Leaf.{Leaf}
use Rattle.dm_rows.specs.Sides.{first_decision, second_decision, IsOrdered, is_ordered}
use Rattle.dm_tree.specs.Inside.Filling.{is_none_left, fills, visits}
use Rattle.dm_tree.specs.Pending.{pending}
use Rattle.dm_rows.proofs.Sides.{ordered}
use Rattle.dm_tree.proofs.Filled.{both, some_more, one_back}
use Rattle.dm_tree.proofs.Walked.{due_after_choice}
use Rattle.dm_check_plans.specs.Visiting.{HoldsOfAll, IsLeftToVisit, GoesOn}

pub at_first : (P : List Decision → Node → Type 0) (nodes : List Node) → fills false 0 nodes ≡ true → IsLeftToVisit P nodes nodes []
at_first P nodes whole = record { all = λ h. h; left = λ h. h; filled = inr whole }

filled_here : (n : Node) (rest : List Node) (more : ℕ) → ((n ∷ rest) ≡ []) ⊎ (fills false more (n ∷ rest) ≡ true) → fills false more (n ∷ rest) ≡ true
filled_here n rest more (inl e) = cc
filled_here n rest more (inr f) = f

module _ (P : List Decision → Node → Type 0) where
  abbrev True : Leaf → Type 0
  True l = P l.path l.node

  abbrev here : List Decision → Node → Leaf
  here path n = record { path = path; node = n }

  -- the node that is read comes first of those left
  abbrev IsLeafNode : Node → Type 0
  IsLeafNode (Inner c) = ⊥
  IsLeafNode Cycle = Unit {0}
  IsLeafNode (Bound c) = Unit {0}
  IsLeafNode (Open c) = Unit {0}
  IsLeafNode Hole = Unit {0}

  module _ (nodes rest : List Node) (path : List Decision) (n : Node) (was : IsLeftToVisit P nodes (n ∷ rest) path) where
    -- a false node makes not all true
    pub false_here : (P path n → ⊥) → HoldsOfAll P ([] ∷ []) nodes → ⊥
    false_here wrong all = wrong (first n (was.left all))
      where
        first : (m : Node) → HoldsOfAll P (path ∷ pending path) (m ∷ rest) → P path m
        first (Inner c) h = All-head True (here path (Inner c)) _ h
        first Cycle h = All-head True (here path Cycle) _ h
        first (Bound c) h = All-head True (here path (Bound c)) _ h
        first (Open c) h = All-head True (here path (Open c)) _ h
        first Hole h = All-head True (here path Hole) _ h

    pub ordered_here : (c : Choice) → n ≡ Inner c → IsOrdered c
    ordered_here c is =
        let filled : fills false (length (pending path)) (Inner c ∷ rest) ≡ true =
        subst (λ x. fills false (length (pending path)) (x ∷ rest) ≡ true) is (filled_here n rest (length (pending path)) was.filled) in
        ordered c (both (is_ordered c) (fills false (length (pending path) + 1) rest) filled).0

  pub choice_visited : (nodes rest : List Node) (path new : List Decision) (c : Choice) → P path (Inner c) →
      new ≡ path ++ first_decision c ∷ [] → IsLeftToVisit P nodes (Inner c ∷ rest) path → IsLeftToVisit P nodes rest new
  choice_visited nodes rest path new c holds is was =
      let filled = filled_here (Inner c) rest (length (pending path)) was.filled in
      let p = both (is_ordered c) (fills false (length (pending path) + 1) rest) filled in
      let due = due_after_choice path c p.0 in
      let first : List Decision = path ++ first_decision c ∷ [] in
      let second : List Decision = path ++ second_decision c ∷ [] in
      let next : IsLeftToVisit P nodes rest first =
      record {
        all = λ h. was.all (All-cons True (here path (Inner c)) (visits (first ∷ second ∷ pending path) rest) holds
            (subst (λ (ps : List (List Decision)). All True (visits (first ∷ ps) rest)) due h));
        left = λ h. subst (λ (ps : List (List Decision)). All True (visits (first ∷ ps) rest)) (sym due)
            (All-tail True (here path (Inner c)) (visits (first ∷ second ∷ pending path) rest) (was.left h));
        filled = inr (rw due (rw (← add-one (length (pending path))) p.1));
      } in
      subst (λ (q : List Decision). IsLeftToVisit P nodes rest q) (sym is) next

  leaf_visits : (n : Node) (path : List Decision) (due : List (List Decision)) (rest : List Node) → IsLeafNode n →
      visits (path ∷ due) (n ∷ rest) ≡ here path n ∷ visits due rest
  leaf_visits (Inner c) path due rest l = absurd l
  leaf_visits Cycle path due rest l = refl
  leaf_visits (Bound c) path due rest l = refl
  leaf_visits (Open c) path due rest l = refl
  leaf_visits Hole path due rest l = refl

  leaf_fills : (n : Node) (more : ℕ) (rest : List Node) → IsLeafNode n → fills false more (n ∷ rest) ≡ true →
      cond (eqb more 0) (is_none_left rest) (fills false (more - 1) rest) ≡ true
  leaf_fills (Inner c) more rest l f = absurd l
  leaf_fills Cycle more rest l f = f
  leaf_fills (Bound c) more rest l f = f
  leaf_fills (Open c) more rest l f = f
  leaf_fills Hole more rest l f = cc

  -- behind a leaf
  module _ (nodes rest : List Node) (path : List Decision) (n : Node) (l : IsLeafNode n) (holds : P path n)
      (was : IsLeftToVisit P nodes (n ∷ rest) path) where
    all_if : All True (visits (pending path) rest) → HoldsOfAll P ([] ∷ []) nodes
    all_if h = was.all (subst (All True) (sym (leaf_visits n path (pending path) rest l)) (All-cons True (here path n) (visits (pending path) rest) holds h))

    then_all : HoldsOfAll P ([] ∷ []) nodes → All True (visits (pending path) rest)
    then_all h = All-tail True (here path n) (visits (pending path) rest) (subst (All True) (leaf_visits n path (pending path) rest l) (was.left h))

    pub leaf_visited : (new : List Decision) → pending path ≡ new ∷ pending new → IsLeftToVisit P nodes rest new
    leaf_visited new due =
        let count : length (pending path) ≡ length (pending new) + 1 = rw due (sym (add-one (length (pending new)))) in
        let filled = leaf_fills n (length (pending path)) rest l (filled_here n rest (length (pending path)) was.filled) in
        record {
          all = λ h. all_if (subst (λ (ps : List (List Decision)). All True (visits ps rest)) (sym due) h);
          left = λ h. subst (λ (ps : List (List Decision)). All True (visits ps rest)) due (then_all h);
          filled = inr (rw (count, some_more (length (pending new)), one_back (length (pending new))) at filled);
        }

    -- where none is, all nodes have been visited
    pub last_visited : pending path ≡ [] → HoldsOfAll P ([] ∷ []) nodes
    last_visited none = all_if (subst (λ (ps : List (List Decision)). All True (visits ps rest)) (sym none) (nothing rest))
      where
        nothing : (ns : List Node) → All True (visits [] ns)
        nothing [] = λ k d lt. absurd (omega arith)
        nothing (m ∷ ns) = λ k d lt. absurd (omega arith)

  pub none_to_visit : (nodes rest : List Node) (path : List Decision) → rest ≡ [] → IsLeftToVisit P nodes rest path → HoldsOfAll P ([] ∷ []) nodes
  none_to_visit nodes rest path over was = was.all (subst (λ (ns : List Node). All True (visits (path ∷ pending path) ns)) (sym over) (λ k d lt. absurd (omega arith)))

  -- one step, by what stands next
  pub goes_on : (nodes rest : List Node) (path new : List Decision) (n : Node) → P path n → GoesOn n true path new →
      IsLeftToVisit P nodes (n ∷ rest) path → IsLeftToVisit P nodes rest new
  goes_on nodes rest path new (Inner c) holds on was = choice_visited nodes rest path new c holds on was
  goes_on nodes rest path new Cycle holds on was = leaf_visited nodes rest path Cycle tt holds was new on
  goes_on nodes rest path new (Bound c) holds on was = leaf_visited nodes rest path (Bound c) tt holds was new on
  goes_on nodes rest path new (Open c) holds on was = leaf_visited nodes rest path (Open c) tt holds was new on
  goes_on nodes rest path new Hole holds on was = leaf_visited nodes rest path Hole tt holds was new on

  pub ends_there : (nodes rest : List Node) (path new : List Decision) (n : Node) → P path n → GoesOn n false path new →
      IsLeftToVisit P nodes (n ∷ rest) path → HoldsOfAll P ([] ∷ []) nodes
  ends_there nodes rest path new (Inner c) holds on was = absurd on
  ends_there nodes rest path new Cycle holds on was = last_visited nodes rest path Cycle tt holds was on
  ends_there nodes rest path new (Bound c) holds on was = last_visited nodes rest path (Bound c) tt holds was on
  ends_there nodes rest path new (Open c) holds on was = last_visited nodes rest path (Open c) tt holds was on
  ends_there nodes rest path new Hole holds on was = last_visited nodes rest path Hole tt holds was on

  -- what stands next of those left
  pub next_left : (nodes : List Node) (i : ℕ) (d : Node) (path : List Decision) → i < length nodes → IsLeftToVisit P nodes (drop i nodes) path →
      IsLeftToVisit P nodes (get_or nodes i d ∷ drop (i + 1) nodes) path
  next_left nodes i d path lt was = subst (λ (ns : List Node). IsLeftToVisit P nodes ns path) (drop_more nodes i d lt) was

  -- one step from the node at a place, by what is said of the next place
  module _ (nodes : List Node) (i : ℕ) (d : Node) (path mid new : List Decision) (more : Bool) (lt : i < length nodes) (was : IsLeftToVisit P nodes (drop i nodes) path)
      (holds : P path (get_or nodes i d)) (same : mid ≡ path) (on : GoesOn (get_or nodes i d) more mid new) where
    from_path : (b : Bool) → more ≡ b → GoesOn (get_or nodes i d) b path new
    from_path b is = subst (λ (m : Bool). GoesOn (get_or nodes i d) m path new) is (subst (λ (p : List Decision). GoesOn (get_or nodes i d) more p new) same on)

    pub steps_on : more ≡ true → IsLeftToVisit P nodes (drop (i + 1) nodes) new
    steps_on is = goes_on nodes (drop (i + 1) nodes) path new (get_or nodes i d) holds (from_path true is) (next_left nodes i d path lt was)

    pub steps_past : more ≡ false → HoldsOfAll P ([] ∷ []) nodes
    steps_past is = ends_there nodes (drop (i + 1) nodes) path new (get_or nodes i d) holds (from_path false is) (next_left nodes i d path lt was)
