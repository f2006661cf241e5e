-- A part's tree grows node by node, and each node stays true.
use Rattle.std.proofs.Common.{◌≡◌, ◌+◌, Bool, true, false, List, [], ◌∷◌, ◌++◌, length, map, refl, sym, ap, subst, ◌∙◌, inl, inr, Some, None, Result, Ok, Err, append_assoc, add-one}
use Rattle.std.specs.Prelude.{Contains, IfOk, MatchBool}
use Rattle.std.proofs.lemmas.Bool.{not-true}
use Rattle.std.proofs.lemmas.List.{map-append}
use Rattle.std.proofs.lemmas.List.Elements.{Contains-push_cases, All-contains}
use Rattle.dm_rows.specs.declared.messages.Choice.{Choice}
use Rattle.dm_rows.specs.declared.messages.Decision.{Decision}
use Rattle.dm_rows.specs.Decide.{choice_of, IsChoiceList, free_choices_of}
use Rattle.dm_rows.specs.Relax.{is_decided}
use Rattle.dm_rows.specs.Sides.{first_decision, second_decision, is_ordered}
use Rattle.dm_tree.specs.declared.forms.Node.{Node}
use Rattle.dm_tree.specs.declared.forms.Node.TheVariants.{Inner}
use Rattle.dm_tree.specs.declared.forms.Leaf.{Leaf}
use Rattle.dm_tree.specs.Trees.{choice_in}
use Rattle.dm_tree.specs.Plans.{Task}
use Rattle.dm_tree.specs.Inside.Filling.{fills, visits}
use Rattle.dm_tree.specs.Inside.Assembling.{seen, GoesOn}
use Rattle.dm_tree.specs.Pending.{pending}
use Rattle.dm_tree.proofs.Filled.{some_more, one_back}
use Rattle.dm_tree.proofs.Growing.{station, one_visit, leaf_visit, leaf_fill, goes_next}
use Rattle.dm_tree.proofs.Walked.{due_after_choice}
use Rattle.dm_paths.proofs.Setting.{in_front}
use Rattle.dm_traverse.specs.Laws.{IsTask}
use Rattle.dm_traverse.proofs.Advancing.{first_is, is_behind}
use Rattle.dm_traverse.proofs.Finding.{free_is_ordered}
use Rattle.dm_traverse.proofs.Leaves.{IsUndecided, decides_it, path_goes_on}
use Rattle.dm_parts.specs.declared.parts.PartNode.{PartNode}
use Rattle.dm_parts.specs.declared.parts.PartNode.TheVariants.{Inner as InnerNode, Cycle as CycleNode, Leaf as LeafNode}
use Rattle.dm_parts.specs.declared.shares.Share.{Share}
use Rattle.dm_parts.specs.Parts.{as_node, IsTrueBranch}
use Rattle.dm_part_plans.specs.Inside.Nodes.{IsTrueNode, AreTrue, IsGrown, IsTrueTree}

-- one node more
nodes_next : (nodes : List PartNode) (n : PartNode) → map as_node (nodes ++ n ∷ []) ≡ map as_node nodes ++ as_node n ∷ []
nodes_next nodes n = map-append as_node nodes (n ∷ [])

seen_next : (nodes : List Node) (path : List Decision) (n : Node) → GoesOn nodes path → seen (nodes ++ n ∷ []) ≡ seen nodes ++ station path n ∷ []
seen_next nodes path n g = g.visiting (n ∷ []) ∙ ap (λ xs. seen nodes ++ xs) (one_visit path (pending path) n)

settled_next : (task : Task) (share : Share) (nodes : List PartNode) (path : List Decision) (n : PartNode) → GoesOn (map as_node nodes) path →
    IsTrueNode task share path (as_node n) → AreTrue task share nodes → AreTrue task share (nodes ++ n ∷ [])
settled_next task share nodes path n g here before l h =
    let all : seen (map as_node (nodes ++ n ∷ [])) ≡ seen (map as_node nodes) ++ station path (as_node n) ∷ [] =
    ap seen (nodes_next nodes n) ∙ seen_next (map as_node nodes) path (as_node n) g in
    elim (Contains-push_cases (seen (map as_node nodes)) (station path (as_node n)) l (subst (λ xs. Contains xs l) all h)) [
      | inl r ↦ before l r
      | inr e ↦ subst (λ (x : Leaf). IsTrueNode task share x.path x.node) e here
    ]

-- which node branches on a choice
pub inner_of : (n : PartNode) (c : Choice) → choice_in (as_node n) ≡ Some c → n ≡ InnerNode c
inner_of (InnerNode b) c e = ap InnerNode (let same : b ≡ c = cc in same)
inner_of CycleNode c e = cc
inner_of (LeafNode b) c e = cc

module _ (task : Task) (is : IsTask task) (share : Share) where
  undecided_at : (path : List Decision) (c : Choice) → IsTrueBranch task path c → IsUndecided task.net task.rows (task.base ++ path) c
  undecided_at path c b =
      record {
        free = All-contains (Contains (free_choices_of task.net task.rows)) task.allowed c is.free b.allowed;
        undecided = not-true (is_decided (task.base ++ path) c) b.undecided;
      }

  child_list : (path : List Decision) (c : Choice) (d : Decision) → choice_of d ≡ c → IsTrueBranch task path c →
      IsChoiceList task.net task.rows (task.base ++ path) → IsChoiceList task.net task.rows (task.base ++ (path ++ d ∷ []))
  child_list path c d decides branch list =
      subst (IsChoiceList task.net task.rows) (append_assoc task.base path (d ∷ []))
      (path_goes_on task.net task.rows (task.base ++ path) d c decides list (undecided_at path c branch))

  -- a choice is the next node: the tree goes on at its first child
  pub grown_below : (nodes more : List PartNode) (path new : List Decision) (c : Choice) → more ≡ nodes ++ InnerNode c ∷ [] →
      new ≡ path ++ first_decision c ∷ [] → IsTrueBranch task path c → IsGrown task share nodes path → IsGrown task share more new
  grown_below nodes more path new c e f branch g = rw (e, f) at_child
    where
      at_child : IsGrown task share (nodes ++ InnerNode c ∷ []) (path ++ first_decision c ∷ [])
      at_child =
          let first : List Decision = path ++ first_decision c ∷ [] in
          let second : List Decision = path ++ second_decision c ∷ [] in
          let undecided = undecided_at path c branch in
          let ordered : is_ordered c ≡ true = free_is_ordered task.net is.network task.rows c undecided.free in
          let due : pending first ≡ second ∷ pending path = due_after_choice path c ordered in
          let here : IsChoiceList task.net task.rows (task.base ++ path) = g.lists path (first_is path (pending path)) in
          let decides = decides_it task.net is.network task.rows c undecided.free in
          record {
            settled = settled_next task share nodes path (InnerNode c) g.goes_on branch g.settled;
            goes_on = subst (λ ns. GoesOn ns first) (sym (nodes_next nodes (InnerNode c)))
                (goes_next (map as_node nodes) path first (Inner c) g.goes_on
                (λ ns. rw (ordered, due) (ap (λ k. fills true k ns) (add-one (length (pending path)))))
                (λ ns. rw due refl));
            lists = λ q h.
                elim (in_front first q (second ∷ pending path) (subst (λ ps. Contains (first ∷ ps) q) due h)) [
                  | inl s ↦ subst (λ p. IsChoiceList task.net task.rows (task.base ++ p)) s (child_list path c (first_decision c) decides.first branch here)
                  | inr r ↦ elim (in_front second q (pending path) r) [
                    | inl s ↦ subst (λ p. IsChoiceList task.net task.rows (task.base ++ p)) s (child_list path c (second_decision c) decides.second branch here)
                    | inr s ↦ g.lists q (is_behind path q (pending path) s)
                  ]
                ];
          }

  -- a leaf is the next node: the tree goes on at the next place that is due
  pub grown_aside : (nodes more : List PartNode) (path new : List Decision) (n : PartNode) → more ≡ nodes ++ n ∷ [] → choice_in (as_node n) ≡ None →
      pending path ≡ new ∷ pending new → IsTrueNode task share path (as_node n) → IsGrown task share nodes path → IsGrown task share more new
  grown_aside nodes more path new n e leaf due here g = rw e at_next
    where
      at_next : IsGrown task share (nodes ++ n ∷ []) new
      at_next =
          let count : length (pending path) ≡ length (pending new) + 1 = ap length due ∙ sym (add-one (length (pending new))) in
          let one_less : (ns : List Node) → fills true (length (pending path)) (as_node n ∷ ns) ≡ fills true (length (pending new)) ns =
          λ ns. leaf_fill (length (pending path)) (as_node n) ns leaf ∙ rw (count, some_more (length (pending new)), one_back (length (pending new))) refl in
          record {
            settled = settled_next task share nodes path n g.goes_on here g.settled;
            goes_on = subst (λ ns. GoesOn ns new) (sym (nodes_next nodes n))
                (goes_next (map as_node nodes) path new (as_node n) g.goes_on one_less
                (λ ns. leaf_visit path (pending path) (as_node n) ns leaf ∙ ap (λ xs. station path (as_node n) ∷ visits xs ns) due));
            lists = λ q h. g.lists q (is_behind path q (pending path) (subst (λ ps. Contains ps q) (sym due) h));
          }

  -- and where none is due, the nodes are one tree
  pub grown_whole : (nodes more : List PartNode) (path : List Decision) (n : PartNode) → more ≡ nodes ++ n ∷ [] → choice_in (as_node n) ≡ None →
      pending path ≡ [] → IsTrueNode task share path (as_node n) → IsGrown task share nodes path → IsTrueTree task share more
  grown_whole nodes more path n e leaf due here g = rw e at_end
    where
      at_end : IsTrueTree task share (nodes ++ n ∷ [])
      at_end =
          let alone : fills true (length (pending path)) (as_node n ∷ []) ≡ true =
          subst (λ ps. fills true (length ps) (as_node n ∷ []) ≡ true) (sym due) (leaf_fill 0 (as_node n) [] leaf) in
          record {
            settled = settled_next task share nodes path n g.goes_on here g.settled;
            whole = ap (fills true 0) (nodes_next nodes n) ∙ (g.goes_on.filling (as_node n ∷ []) ∙ alone);
          }

  -- a leaf is the next node, and it was looked for the next place that is due
  pub grown_turned : {E : Type 0} (nodes more : List PartNode) (path new : List Decision) (n : PartNode) (turned : Result Bool E) →
      more ≡ nodes ++ n ∷ [] → choice_in (as_node n) ≡ None →
      IfOk turned (λ t. MatchBool t (pending path ≡ new ∷ pending new) (pending path ≡ [])) →
      IsTrueNode task share path (as_node n) → IsGrown task share nodes path →
      IfOk turned (λ t. MatchBool t (IsGrown task share more new) (IsTrueTree task share more))
  grown_turned nodes more path new n (Ok true) e leaf due here g = grown_aside nodes more path new n e leaf due here g
  grown_turned nodes more path new n (Ok false) e leaf due here g = grown_whole nodes more path n e leaf due here g
  grown_turned nodes more path new n (Err error) e leaf due here g = tt
