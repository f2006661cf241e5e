-- Nodes read from the left: which places are still due, and what stands at them.
use Rattle.std.specs.Prelude.{ℕ, ◌≡◌, ◌==◌, ◌+◌, ◌-◌, ◌<◌, ◌≤◌, ◌⊎◌, ◌&&◌, Bool, true, false, List, [], ◌∷◌, ◌++◌, length, slice_index_or, if◌then◌else◌}
use Rattle.dm_rows.specs.declared.messages.Choice.{Choice}
use Rattle.dm_rows.specs.declared.messages.Decision.{Decision}
use Rattle.dm_tree.specs.declared.forms.Node.{Node}
use Rattle.dm_tree.specs.declared.forms.Node.TheVariants.{Inner, Cycle, Bound, Open, Hole}
use Rattle.dm_tree.specs.declared.forms.Leaf.{Leaf}
use Rattle.dm_tree.specs.declared.forms.Child.{Child}
use Rattle.dm_tree.specs.Trees.{IsTreeBetween}
use Rattle.dm_rows.specs.Sides.{first_decision, second_decision, is_ordered}

abbrev pub is_none_left : List Node → Bool
is_none_left [] = true
is_none_left (n ∷ ns) = false

-- The nodes are, in preorder, one tree and so many more after it. `holes` says whether holes may stand in them.
abbrev pub fills : Bool → ℕ → List Node → Bool
fills holes more [] = false
fills holes more (Inner c ∷ ns) = is_ordered c && fills holes (more + 1) ns
fills holes more (Cycle ∷ ns) = if more == 0 then is_none_left ns else fills holes (more - 1) ns
fills holes more (Bound c ∷ ns) = if more == 0 then is_none_left ns else fills holes (more - 1) ns
fills holes more (Open c ∷ ns) = if more == 0 then is_none_left ns else fills holes (more - 1) ns
fills holes more (Hole ∷ ns) = holes && (if more == 0 then is_none_left ns else fills holes (more - 1) ns)

-- what stands at the places due, whose paths are listed, where the nodes are read from the left
abbrev pub visits : List (List Decision) → List Node → List Leaf
visits due [] = []
visits [] (n ∷ ns) = []
visits (p ∷ due) (Inner c ∷ ns) =
    (record { path = p; node = Inner c }) ∷ visits ((p ++ first_decision c ∷ []) ∷ (p ++ second_decision c ∷ []) ∷ due) ns
visits (p ∷ due) (Cycle ∷ ns) = (record { path = p; node = Cycle }) ∷ visits due ns
visits (p ∷ due) (Bound c ∷ ns) = (record { path = p; node = Bound c }) ∷ visits due ns
visits (p ∷ due) (Open c ∷ ns) = (record { path = p; node = Open c }) ∷ visits due ns
visits (p ∷ due) (Hole ∷ ns) = (record { path = p; node = Hole }) ∷ visits due ns

-- the leaves among them
abbrev pub leaves_due : List (List Decision) → List Node → List Leaf
leaves_due due [] = []
leaves_due [] (n ∷ ns) = []
leaves_due (p ∷ due) (Inner c ∷ ns) =
    leaves_due ((p ++ first_decision c ∷ []) ∷ (p ++ second_decision c ∷ []) ∷ due) ns
leaves_due (p ∷ due) (Cycle ∷ ns) = (record { path = p; node = Cycle }) ∷ leaves_due due ns
leaves_due (p ∷ due) (Bound c ∷ ns) = (record { path = p; node = Bound c }) ∷ leaves_due due ns
leaves_due (p ∷ due) (Open c ∷ ns) = (record { path = p; node = Open c }) ∷ leaves_due due ns
leaves_due (p ∷ due) (Hole ∷ ns) = (record { path = p; node = Hole }) ∷ leaves_due due ns

-- from such a place on it is known where the tree that begins at a place ends
abbrev pub AreEndsFrom : ℕ → List Node → List ℕ → Type 0
AreEndsFrom from nodes ends =
    (length ends ≡ length nodes)
    × ((i : ℕ) → from ≤ i → i < length nodes → IsTreeBetween nodes i (slice_index_or ends i 0))

-- the first child for a target before the second, and else the second
abbrev pub IsSideOf : Choice → ℕ → ℕ → ℕ → Child → Type 0
IsSideOf choice place second target child =
    ((target < second) × (child.decision ≡ first_decision choice) × (child.place ≡ place + 1))
    ⊎ ((second ≤ target) × (child.decision ≡ second_decision choice) × (child.place ≡ second))
