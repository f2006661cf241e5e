-- The leaves that are printed of a tree are its leaves.
use Rattle.std.proofs.Common.{◌≡◌, List, [], ◌∷◌, ◌++◌, refl, sym, ap, ◌∙◌, append_assoc, append-nil}
use Rattle.dm_rows.specs.declared.messages.Decision.{Decision}
use Rattle.dm_tree.specs.declared.forms.Node.{Node}
use Rattle.dm_tree.specs.declared.forms.Node.TheVariants.{Inner, Cycle, Bound, Open, Hole}
use Rattle.dm_tree.specs.declared.forms.Leaf.{Leaf}
use Rattle.dm_tree.specs.Trees.{Shape, leaf, branch, preorder, leaves_below, leaves_of, IsProper}
use Rattle.dm_rows.specs.Sides.{first_decision, second_decision}
use Rattle.dm_cert.specs.PlanTexts.{leaves_at, leaves_in}

-- a tree at the first place due, and what stands behind it
pub leaves_first : (shape : Shape) (path : List Decision) (due : List (List Decision)) (ns : List Node) → IsProper shape → leaves_at (path ∷ due) (preorder shape ++ ns) ≡ leaves_below path shape ++ leaves_at due ns
leaves_first (leaf (Inner c)) path due ns proper = absurd proper
leaves_first (leaf Cycle) path due ns proper = refl
leaves_first (leaf (Bound c)) path due ns proper = refl
leaves_first (leaf (Open c)) path due ns proper = refl
leaves_first (leaf Hole) path due ns proper = refl
leaves_first (branch c a b) path due ns proper =
    let first : List Decision = path ++ first_decision c ∷ [] in
    let second : List Decision = path ++ second_decision c ∷ [] in
    ap (leaves_at (first ∷ second ∷ due)) (append_assoc (preorder a) (preorder b) ns)
    ∙ (leaves_first a first (second ∷ due) (preorder b ++ ns) proper.1
    ∙ (ap (λ (l : List Leaf). leaves_below first a ++ l) (leaves_first b second due ns proper.2)
    ∙ sym (append_assoc (leaves_below first a) (leaves_below second b) (leaves_at due ns))))

pub leaves_are_the_trees : (shape : Shape) → IsProper shape → leaves_in (preorder shape) ≡ leaves_of shape
leaves_are_the_trees shape proper =
    ap leaves_in (sym (append-nil (preorder shape)))
    ∙ (leaves_first shape [] [] [] proper ∙ append-nil (leaves_below [] shape))
