-- What the children lead to from the root stands at the path of their decisions.
use Rattle.std.proofs.Common.{◌≡◌, ℕ, ◌+◌, List, [], ◌∷◌, ◌++◌, get_or, drop, sym, ap, subst, ◌∙◌, inl, inr, Some, append_assoc, append-nil}
use Rattle.std.specs.Prelude.{slice_get}
use Rattle.std.proofs.lemmas.List.{drop_more}
use Rattle.std.proofs.lemmas.Option.{get_or_from_slice_get, slice_get_within}
use Rattle.dm_rows.specs.declared.messages.Choice.{Choice}
use Rattle.dm_rows.specs.declared.messages.Decision.{Decision}
use Rattle.dm_tree.specs.declared.forms.Node.{Node}
use Rattle.dm_tree.specs.declared.forms.Node.TheVariants.{Inner}
use Rattle.dm_tree.specs.Trees.{Shape, leaf, branch, preorder, IsLeaf, IsProper, StandsAt, Leads, LeadsToWhatStands}
use Rattle.dm_rows.specs.Sides.{first_decision, second_decision}
use Rattle.dm_tree.proofs.Ends.{one_tree, same_head, same_tail, leaf_is_no_choice}

-- the node read at a place, and the nodes behind it
here_is : (nodes : List Node) (i : ℕ) (m n : Node) (xs : List Node) → drop i nodes ≡ m ∷ xs → slice_get nodes i ≡ Some n →
    (m ≡ n) × (drop (i + 1) nodes ≡ xs)
here_is nodes i m n xs e g =
    let both : (m ∷ xs) ≡ (get_or nodes i n ∷ drop (i + 1) nodes) = sym e ∙ drop_more nodes i n (slice_get_within nodes i n g) in (
      same_head m (get_or nodes i n) xs (drop (i + 1) nodes) both ∙ get_or_from_slice_get nodes i n n g,
      sym (same_tail m (get_or nodes i n) xs (drop (i + 1) nodes) both),
    )

same_choice : (c d : Choice) → Inner c ≡ Inner d → c ≡ d
same_choice c d e = cc

led : (shape : Shape) (nodes : List Node) (i : ℕ) (rest : List Node) → drop i nodes ≡ preorder shape ++ rest → IsProper shape →
    (path : List Decision) (t : ℕ) (n : Node) → Leads nodes i path t → slice_get nodes t ≡ Some n → StandsAt shape path n
led (leaf m) nodes i rest e p [] t n l g =
    (here_is nodes i m n rest e (subst (λ (k : ℕ). slice_get nodes k ≡ Some n) (sym l) g)).0
led (leaf m) nodes i rest e p (d ∷ path) t n l g =
    leaf_is_no_choice l.1.choice (subst IsLeaf (here_is nodes i m (Inner l.1.choice) rest e l.1.stands).0 p)
led (branch c a b) nodes i rest e p [] t n l g =
    (here_is nodes i (Inner c) n ((preorder a ++ preorder b) ++ rest) e (subst (λ (k : ℕ). slice_get nodes k ≡ Some n) (sym l) g)).0
led (branch c a b) nodes i rest e p (d ∷ path) t n l g =
    let h = here_is nodes i (Inner c) (Inner l.1.choice) ((preorder a ++ preorder b) ++ rest) e l.1.stands in
    let same : c ≡ l.1.choice = same_choice c l.1.choice h.0 in
    let below : drop (i + 1) nodes ≡ preorder a ++ (preorder b ++ rest) = h.1 ∙ append_assoc (preorder a) (preorder b) rest in
    elim l.1.side [
      | inl s ↦
          inl (
            s.0 ∙ ap first_decision (sym same),
            led a nodes l.0 (preorder b ++ rest)
                (subst (λ (k : ℕ). drop k nodes ≡ preorder a ++ (preorder b ++ rest)) (sym s.1) below) p.1 path t n l.2 g,
          )
      | inr s ↦
          inr (
            s.0 ∙ ap second_decision (sym same),
            led b nodes l.0 rest
                (sym (one_tree a s.1.first_tree.shape (preorder b ++ rest) (drop l.0 nodes) p.1 s.1.first_tree.proper
                (sym below ∙ s.1.first_tree.in_preorder))) p.2 path t n l.2 g,
          )
    ]

pub led_from_root : LeadsToWhatStands
led_from_root shape p path place n l g = led shape (preorder shape) 0 [] (sym (append-nil (preorder shape))) p path place n l g
