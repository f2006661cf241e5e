-- A search keeps what it settled, at the same paths.
use Rattle.std.proofs.Common.{◌≡◌, ℕ, List, [], ◌∷◌, ◌++◌, ◌-◌, map, reverse, take, refl, sym, ap, subst, ◌∙◌, inl, inr, arith, Some, None, append_assoc, append-nil}
use Rattle.std.specs.Prelude.{Contains}
use Rattle.std.proofs.lemmas.List.{reverse-append, reverse-reverse}
use Rattle.std.proofs.lemmas.List.Elements.{Contains-append_left, Contains-append_right, Contains-append_cases}
use Rattle.dm_rows.specs.declared.messages.Choice.{Choice}
use Rattle.dm_rows.specs.declared.messages.Decision.{Decision}
use Rattle.dm_rows.specs.Sides.{first_decision, second_decision}
use Rattle.dm_tree.specs.declared.forms.Leaf.{Leaf}
use Rattle.dm_tree.specs.declared.forms.Node.{Node}
use Rattle.dm_tree.specs.declared.forms.Node.TheVariants.{Inner, Cycle, Bound, Open, Hole}
use Rattle.dm_tree.specs.declared.plans.Plan.{Plan}
use Rattle.dm_tree.specs.Trees.{Shape, preorder, choice_in, IsProper, StandsAt}
use Rattle.dm_tree.specs.Plans.{Task}
use Rattle.dm_tree.specs.Inside.Filling.{visits}
use Rattle.dm_tree.specs.Inside.Assembling.{seen, GoesOn}
use Rattle.dm_tree.specs.Pending.{pending}
use Rattle.dm_tree.proofs.Growing.{station, leaf_visit}
use Rattle.dm_tree.proofs.Standing.{visits_below, visits_filled, stands_among, among_stands}
use Rattle.dm_tree.proofs.Walked.{is_inner}
use Rattle.dm_paths.proofs.Apart.{in_map}
use Rattle.dm_paths.proofs.Setting.{in_front}
use Rattle.dm_traverse.specs.Finish.{Stays, GoesOnFrom}
use Rattle.dm_traverse.specs.Inside.Ending.{closed, IsPlanOf}
use Rattle.dm_traverse.specs.Inside.Searching.{Keeps, IsSearched}
use Rattle.dm_traverse.proofs.Advancing.{first_is, is_behind, going_at}
use Rattle.dm_traverse.proofs.Ended.{reseated, closed_visits}

pub keeps_on : (a b c : List Node) → Keeps a b → Keeps b c → Keeps a c
keeps_on a b c first second = λ l stays h. second l stays (first l stays h)

-- the same nodes
pub keeps_same : (a b : List Node) → b ≡ a → Keeps a b
keeps_same a b e = λ l stays h. subst (λ ns. Contains (seen ns) l) (sym e) h

-- as much is kept of the same nodes
keeps_as : (a b c : List Node) → b ≡ c → Keeps a c → Keeps a b
keeps_as a b c e k = λ l stays h. subst (λ ns. Contains (seen ns) l) (sym e) (k l stays h)

-- one element in place of another
one_for_another : (front back : List Leaf) (a b l : Leaf) → (a ≡ l → b ≡ l) → Contains (front ++ a ∷ back) l → Contains (front ++ b ∷ back) l
one_for_another front back a b l same h =
    elim (Contains-append_cases front (a ∷ back) l h) [
      | inl r ↦ Contains-append_left front (b ∷ back) l r
      | inr r ↦
          Contains-append_right front (b ∷ back) l
          (elim (in_front a l back r) [
            | inl e ↦ subst (Contains (b ∷ back)) (same e) (first_is b back)
            | inr later ↦ is_behind b l back later
          ])
    ]

-- what is seen where the first node left is a leaf
seen_from : (nodes rest : List Node) (path : List Decision) (n : Node) → choice_in n ≡ None → GoesOn nodes path →
    seen (nodes ++ n ∷ rest) ≡ seen nodes ++ station path n ∷ visits (pending path) rest
seen_from nodes rest path n leaf g =
    g.visiting (n ∷ rest) ∙ ap (λ xs. seen nodes ++ xs) (leaf_visit path (pending path) n rest leaf)

-- a leaf in place of one that is the same or does not stay
leaf_kept : (nodes rest : List Node) (path : List Decision) (n m : Node) → choice_in n ≡ None → choice_in m ≡ None → GoesOn nodes path →
    (Stays n → n ≡ m) → Keeps (nodes ++ n ∷ rest) (nodes ++ m ∷ rest)
leaf_kept nodes rest path n m old new g same l stays h =
    subst (λ xs. Contains xs l) (sym (seen_from nodes rest path m new g))
    (one_for_another (seen nodes) (visits (pending path) rest) (station path n) (station path m) l
    (λ e. ap (station path) (sym (same (subst (λ (x : Leaf). Stays x.node) (sym e) stays))) ∙ e)
    (subst (λ xs. Contains xs l) (seen_from nodes rest path n old g) h))

-- a choice with two holes in place of a leaf that does not stay
split_kept : (nodes rest : List Node) (path : List Decision) (n : Node) (c : Choice) → choice_in n ≡ None → GoesOn nodes path →
    (Stays n → ⊥) → Keeps (nodes ++ n ∷ rest) (nodes ++ Inner c ∷ Hole ∷ Hole ∷ rest)
split_kept nodes rest path n c leaf g gone l stays h =
    let after : List Leaf = visits (path ∷ pending path) (Inner c ∷ Hole ∷ Hole ∷ rest) in
    let first : Leaf = station (path ++ first_decision c ∷ []) Hole in
    let second : Leaf = station (path ++ second_decision c ∷ []) Hole in
    let more : List Leaf = visits (pending path) rest in
    subst (λ xs. Contains xs l) (sym (g.visiting (Inner c ∷ Hole ∷ Hole ∷ rest)))
    (elim (Contains-append_cases (seen nodes) (station path n ∷ more) l (subst (λ xs. Contains xs l) (seen_from nodes rest path n leaf g) h)) [
      | inl r ↦ Contains-append_left (seen nodes) after l r
      | inr r ↦ elim (in_front (station path n) l more r) [
        | inl e ↦ absurd (gone (subst (λ (x : Leaf). Stays x.node) (sym e) stays))
        | inr later ↦
            Contains-append_right (seen nodes) after l
            (is_behind (station path (Inner c)) l (first ∷ second ∷ more) (is_behind first l (second ∷ more) (is_behind second l more later)))
      ]
    ])

-- the nodes after one more is settled
one_settled : (nodes more due old : List Node) (n : Node) → more ≡ nodes ++ n ∷ [] → due ≡ old →
    more ++ reverse due ≡ nodes ++ n ∷ reverse old
one_settled nodes more due old n e same =
    ap (λ xs. xs ++ reverse due) e ∙ (append_assoc nodes (n ∷ []) (reverse due) ∙ ap (λ xs. nodes ++ n ∷ reverse xs) same)

pub choice_kept : (nodes more due old : List Node) (n : Node) (c : Choice) → Some c ≡ choice_in n → more ≡ nodes ++ Inner c ∷ [] → due ≡ old →
    Keeps (nodes ++ n ∷ reverse old) (more ++ reverse due)
choice_kept nodes more due old n c is e same =
    keeps_same (nodes ++ n ∷ reverse old) (more ++ reverse due)
    (one_settled nodes more due old (Inner c) e same ∙ ap (λ m. nodes ++ m ∷ reverse old) (sym (is_inner n c (sym is))))

module _ (task : Task) (limit best : ℕ) (nodes more due old : List Node) (path : List Decision) (n : Node)
    (search : IsSearched task limit best nodes (n ∷ reverse old) path) (leaf : None ≡ choice_in n) where
  abbrev goes_on : GoesOn nodes path
  goes_on = (going_at task limit best nodes (reverse old) path n search).goes_on

  pub settled_kept : (m : Node) → choice_in m ≡ None → (Stays n → n ≡ m) → more ≡ nodes ++ m ∷ [] → due ≡ old →
      Keeps (nodes ++ n ∷ reverse old) (more ++ reverse due)
  settled_kept m is_leaf same e f =
      keeps_as (nodes ++ n ∷ reverse old) (more ++ reverse due) (nodes ++ m ∷ reverse old) (one_settled nodes more due old m e f)
      (leaf_kept nodes (reverse old) path n m (sym leaf) is_leaf goes_on same)

  pub branch_kept : (c : Choice) → (Stays n → ⊥) → more ≡ nodes ++ Inner c ∷ [] → due ≡ (old ++ Hole ∷ []) ++ Hole ∷ [] →
      Keeps (nodes ++ n ∷ reverse old) (more ++ reverse due)
  branch_kept c gone e f =
      let holes : reverse due ≡ Hole ∷ Hole ∷ reverse old = rw f (simp reverse-append) in
      keeps_as (nodes ++ n ∷ reverse old) (more ++ reverse due) (nodes ++ Inner c ∷ Hole ∷ Hole ∷ reverse old)
      (ap (λ xs. xs ++ reverse due) e ∙ (append_assoc nodes (Inner c ∷ []) (reverse due) ∙ ap (λ xs. nodes ++ Inner c ∷ xs) holes))
      (split_kept nodes (reverse old) path n c (sym leaf) goes_on gone)

-- a search from its beginning to its end
pub kept_anew : (none due nodes after : List Node) → none ≡ [] → due ≡ reverse nodes → Keeps (none ++ reverse due) after → Keeps nodes after
kept_anew none due nodes after e f k =
    keeps_on nodes (none ++ reverse due) after
    (keeps_same nodes (none ++ reverse due) (ap (λ xs. xs ++ reverse due) e ∙ (ap reverse f ∙ reverse-reverse nodes))) k

take_none : (nodes : List Node) → take 0 nodes ≡ []
take_none [] = refl
take_none (n ∷ nodes) = refl

-- where none is popped none was due
pub none_popped : (due left : List Node) (len : ℕ) → len ≡ 0 → due ≡ left ++ [] → left ≡ take (len - 1) due → due ≡ []
none_popped due left len zero items rest =
    let none : len - 1 ≡ 0 = omega arith in
    items ∙ (append-nil left ∙ (rest ∙ (ap (λ (k : ℕ). take k due) none ∙ take_none due)))

-- over one node more, which was the last of those due
pub kept_past : (before after nodes due left : List Node) (n : Node) → due ≡ left ++ n ∷ [] → Keeps before (nodes ++ reverse due) →
    Keeps (nodes ++ n ∷ reverse left) after → Keeps before after
kept_past before after nodes due left n e first second =
    let turned : reverse due ≡ n ∷ reverse left = rw e (simp reverse-append) in
    keeps_on before (nodes ++ reverse due) after first
    (keeps_on (nodes ++ reverse due) (nodes ++ n ∷ reverse left) after
    (keeps_same (nodes ++ reverse due) (nodes ++ n ∷ reverse left) (ap (λ xs. nodes ++ xs) (sym turned))) second)

pub kept_at_end : (before nodes due : List Node) → due ≡ [] → Keeps before (nodes ++ reverse due) → Keeps before nodes
kept_at_end before nodes due none k =
    keeps_as before nodes (nodes ++ reverse due) (sym (ap (λ xs. nodes ++ reverse xs) none ∙ append-nil nodes)) k

-- what stands in a tree is seen in its nodes
seen_below : (shape : Shape) (nodes : List Node) → IsProper shape → preorder shape ≡ nodes → seen nodes ≡ visits_below [] shape
seen_below shape nodes proper reads =
    subst (λ ns. visits ([] ∷ []) ns ≡ visits_below [] shape) (append-nil (preorder shape) ∙ reads)
    (visits_filled [] [] shape [] proper ∙ append-nil (visits_below [] shape))

-- closing leaves what stays
closed_stays : (best : ℕ) (n : Node) → Stays n → closed best n ≡ n
closed_stays best (Inner c) stays = refl
closed_stays best Cycle stays = refl
closed_stays best (Bound c) stays = refl
closed_stays best (Open c) stays = absurd stays
closed_stays best Hole stays = absurd stays

-- the plan of the nodes goes on from the tree of which they keep what stays
pub plan_goes_on : (entry : ℕ) (before nodes : List Node) (best : List Decision) (cost : ℕ) (plan : Plan) → Keeps before nodes →
    IsPlanOf entry nodes best cost plan → GoesOnFrom before plan.tree
plan_goes_on entry before nodes best cost plan keeps of first second first_proper first_reads second_proper second_reads path n stays stands =
    let at : Leaf = station path n in
    let there : Contains (seen before) at =
    subst (λ xs. Contains xs at) (sym (seen_below first before first_proper first_reads)) (stands_among [] first path n stands) in
    let same : reseated cost at ≡ at = ap (station path) (closed_stays cost n stays) in
    let mapped : Contains (map (reseated cost) (seen nodes)) at =
    subst (Contains (map (reseated cost) (seen nodes))) same (in_map (reseated cost) (seen nodes) at (keeps at stays there)) in
    let in_tree : Contains (seen plan.tree) at =
    subst (λ xs. Contains xs at) (sym (ap seen of.of_nodes ∙ closed_visits cost ([] ∷ []) nodes)) mapped in
    let b = among_stands [] second at (subst (λ xs. Contains xs at) (seen_below second plan.tree second_proper second_reads) in_tree) in
    subst (λ p. StandsAt second p n) (sym b.is) b.stands
