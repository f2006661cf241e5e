-- A tree of which each node is true makes a true part.
use Rattle.std.proofs.Common.{◌≡◌, ℕ, ◌≤◌, min, List, [], ◌∷◌, ◌++◌, map, refl, sym, ap, subst, ◌∙◌, inl, inr, arith, Some, None, Result, Ok, Err, append-nil}
use Rattle.std.specs.Prelude.{Contains, Option, OnOk}
use Rattle.std.proofs.lemmas.Bool.{cases_lt}
use Rattle.std.proofs.lemmas.List.{map-append}
use Rattle.std.proofs.lemmas.List.Elements.{Contains-push_cases, Contains-append_left, Contains-append_right}
use Rattle.dm_rows.specs.declared.messages.Decision.{Decision}
use Rattle.dm_tree.specs.declared.forms.Node.{Node}
use Rattle.dm_tree.specs.declared.forms.Node.TheVariants.{Inner, Cycle, Bound}
use Rattle.dm_tree.specs.Trees.{preorder, StandsAt, IsPartialTree}
use Rattle.dm_tree.specs.Plans.{Task}
use Rattle.dm_tree.specs.Inside.Filling.{visits}
use Rattle.dm_tree.specs.Inside.Assembling.{seen}
use Rattle.dm_tree.proofs.Filled.{partial_tree}
use Rattle.dm_tree.proofs.Growing.{station}
use Rattle.dm_tree.proofs.Standing.{visits_below, visits_filled, stands_among}
use Rattle.dm_parts.specs.declared.parts.Part.{Part}
use Rattle.dm_parts.specs.declared.parts.PartNode.{PartNode}
use Rattle.dm_parts.specs.declared.parts.PartNode.TheVariants.{Inner as InnerNode, Cycle as CycleNode, Leaf as LeafNode}
use Rattle.dm_parts.specs.declared.shares.Share.{Share}
use Rattle.dm_parts.specs.Parts.{as_node, IsTruePart}
use Rattle.dm_parts.specs.Shares.{IsShare}
use Rattle.dm_part_plans.specs.Inside.Nodes.{IsTrueNode, IsTrueTree, IsLeastOf, IsLow, IsLowNode, cost_in, least_with}
use Rattle.dm_traverse.proofs.Ended.{stands_in, stands_somewhere}

-- the least cost of some nodes stays the least with one node more
pub least_next : (nodes more : List PartNode) (least now : Option ℕ) (n : PartNode) → more ≡ nodes ++ n ∷ [] → now ≡ least_with least n →
    IsLeastOf nodes least → IsLeastOf more now
least_next nodes more least now n e f h = rw (e, f) (by_node least n h)
  where
    all : (n : PartNode) → map as_node (nodes ++ n ∷ []) ≡ map as_node nodes ++ as_node n ∷ []
    all n = map-append as_node nodes (n ∷ [])

    -- what carries no cost changes nothing
    beside : (least : Option ℕ) (n : PartNode) → cost_in (as_node n) ≡ None → IsLeastOf nodes least → IsLeastOf (nodes ++ n ∷ []) least
    beside None n none h = λ m c there is.
        elim (Contains-push_cases (map as_node nodes) (as_node n) m (subst (λ xs. Contains xs m) (all n) there)) [
          | inl before ↦ h m c before is
          | inr same ↦ (let clash : None ≡ Some c = sym none ∙ (ap cost_in same ∙ is) in cc)
        ]
    beside (Some least) n none h = (
      subst (λ xs. Contains xs (Bound least)) (sym (all n)) (Contains-append_left (map as_node nodes) (as_node n ∷ []) (Bound least) h.0),
      λ m c there is.
          elim (Contains-push_cases (map as_node nodes) (as_node n) m (subst (λ xs. Contains xs m) (all n) there)) [
            | inl before ↦ h.1 m c before is
            | inr same ↦ (let clash : None ≡ Some c = sym none ∙ (ap cost_in same ∙ is) in cc)
          ],
    )

    last : (c : ℕ) → Contains (map as_node (nodes ++ LeafNode c ∷ [])) (Bound c)
    last c = subst (λ xs. Contains xs (Bound c)) (sym (all (LeafNode c)))
        (Contains-append_right (map as_node nodes) (Bound c ∷ []) (Bound c) (0, omega arith, refl))

    cost_of_last : (a b : ℕ) (m : Node) → Bound a ≡ m → cost_in m ≡ Some b → a ≡ b
    cost_of_last a b m same is = let both : Some a ≡ Some b = ap cost_in same ∙ is in cc

    by_node : (least : Option ℕ) (n : PartNode) → IsLeastOf nodes least → IsLeastOf (nodes ++ n ∷ []) (least_with least n)
    by_node None (InnerNode c) h = beside None (InnerNode c) refl h
    by_node (Some k) (InnerNode c) h = beside (Some k) (InnerNode c) refl h
    by_node None CycleNode h = beside None CycleNode refl h
    by_node (Some k) CycleNode h = beside (Some k) CycleNode refl h
    by_node None (LeafNode c) h = (
      last c,
      λ m b there is.
          elim (Contains-push_cases (map as_node nodes) (Bound c) m (subst (λ xs. Contains xs m) (all (LeafNode c)) there)) [
            | inl before ↦ absurd (h m b before is)
            | inr same ↦ let e = cost_of_last c b m same is in omega (arith, e)
          ],
    )
    by_node (Some k) (LeafNode c) h = (
      elim (cases_lt k c) [
        | inl le ↦ (let e : min k c ≡ k = omega arith in subst (λ m. Contains (map as_node (nodes ++ LeafNode c ∷ [])) (Bound m)) (sym e)
            (subst (λ xs. Contains xs (Bound k)) (sym (all (LeafNode c))) (Contains-append_left (map as_node nodes) (Bound c ∷ []) (Bound k) h.0)))
        | inr lt ↦ (let e : min k c ≡ c = omega arith in subst (λ m. Contains (map as_node (nodes ++ LeafNode c ∷ [])) (Bound m)) (sym e) (last c))
      ],
      λ m b there is.
          elim (Contains-push_cases (map as_node nodes) (Bound c) m (subst (λ xs. Contains xs m) (all (LeafNode c)) there)) [
            | inl before ↦ let le = h.1 m b before is in omega (arith, le)
            | inr same ↦ let e = cost_of_last c b m same is in omega (arith, e)
          ],
    )

-- what holds in any case holds of a success
pub on_ok : {X E P : Type 0} (r : Result X E) → P → OnOk r P
on_ok (Ok x) p = p
on_ok (Err e) p = tt

-- and it stays below the limit of costs
pub low_next : (least now : Option ℕ) (n : PartNode) → now ≡ least_with least n → IsLow least → IsLowNode n → IsLow now
low_next least now n e h here = rw e (by_node least n h here)
  where
    by_node : (least : Option ℕ) (n : PartNode) → IsLow least → IsLowNode n → IsLow (least_with least n)
    by_node (Some k) (InnerNode c) h here = h
    by_node (Some k) CycleNode h here = h
    by_node (Some k) (LeafNode c) h here = omega (arith, h, here)
    by_node None (InnerNode c) h here = tt
    by_node None CycleNode h here = tt
    by_node None (LeafNode c) h here = here

pub part_is_true : (task : Task) (share : Share) (nodes : List PartNode) (least : ℕ) (part : Part) → IsShare task.net share →
    IsTrueTree task share nodes → IsLeastOf nodes (Some least) → part.share ≡ share → part.tree ≡ nodes → part.bound ≡ least → IsTruePart task part
part_is_true task share nodes least part is tree low of_share of_nodes of_bound =
    let t : IsPartialTree (map as_node nodes) = partial_tree (map as_node nodes) tree.whole in
    let visited : seen (preorder t.shape) ≡ visits_below [] t.shape =
    subst (λ ns. visits ([] ∷ []) ns ≡ visits_below [] t.shape) (append-nil (preorder t.shape))
    (visits_filled [] [] t.shape [] t.proper ∙ append-nil (visits_below [] t.shape)) in
    let at : (path : List Decision) (n : Node) → StandsAt t.shape path n → IsTrueNode task share path n =
    λ path n s.
    tree.settled (station path n)
    (subst (λ ns. Contains (seen ns) (station path n)) t.in_preorder
    (subst (λ xs. Contains xs (station path n)) (sym visited) (stands_among [] t.shape path n s))) in
    let below : (p : List Decision) (c : ℕ) → StandsAt t.shape p (Bound c) → least ≤ c =
    λ p c s. low.1 (Bound c) c (subst (λ ns. Contains ns (Bound c)) t.in_preorder (stands_in t.shape p (Bound c) s)) refl in
    let there = stands_somewhere t.shape (Bound least) (subst (λ ns. Contains ns (Bound least)) (sym t.in_preorder) low.0) in
    record {
      share = rw of_share is;
      shape = t.shape;
      in_preorder = rw of_nodes t.in_preorder;
      proper = t.proper;
      branches = λ path choice s. at path (Inner choice) s;
      cycles = λ path s. at path Cycle s;
      leaves = λ path c s. rw of_share (at path (Bound c) s);
      bound = rw of_bound (record { path = there.0; reached = there.1; below = below });
    }
