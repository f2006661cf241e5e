-- The texts of plans in print, in both versions: from the word `plan` to the line feed of the last line.
use Rattle.std.specs.Prelude.{ℕ, ◌≡◌, ◌≤◌, ◌⊎◌, ◌==◌, if◌then◌else◌, List, [], ◌∷◌, ◌++◌, length, codes, All}
use Rattle.std.specs.List.{flat_map}
use Rattle.std.specs.Fmt.{decimal}
use Rattle.dm_outside.specs.Printing.{joined}
use Rattle.dm_rows.specs.declared.messages.Choice.TheVariants.{Change, Pair}
use Rattle.dm_rows.specs.declared.messages.Decision.{Decision}
use Rattle.dm_tree.specs.declared.forms.Node.{Node}
use Rattle.dm_tree.specs.declared.forms.Node.TheVariants.{Inner, Cycle, Bound, Open, Hole}
use Rattle.dm_tree.specs.declared.forms.Leaf.{Leaf}
use Rattle.dm_tree.specs.declared.forms.Mark.{Mark}
use Rattle.dm_tree.specs.declared.forms.Mark.TheVariants as mark
use Rattle.dm_tree.specs.declared.plans.Plan.{Plan}
use Rattle.dm_tree.specs.Trees.{IsTree}
use Rattle.dm_rows.specs.Sides.{first_decision, second_decision}
use Rattle.dm_feed.specs.Parts.{Fits, largest_id}
use Rattle.dm_feed.specs.Lines.{parts_of_decision, spelling_of_decision}

abbrev pub line_end : List ℕ
line_end = 10 ∷ []

-- the versions of printed texts
abbrev pub IsVersion : ℕ → Type 0
IsVersion version = (version ≡ 1) ⊎ (version ≡ 2)

abbrev pub mark_text : Mark → List ℕ
mark_text mark.Optimal = codes "optimal"
mark_text mark.Open = codes "open"

-- a choice of the plan
unfoldable pub choice_text : Decision → List ℕ
choice_text decision = joined (codes "choice" ∷ spelling_of_decision decision ∷ line_end ∷ [])

-- ---- version 1: a tree is its leaves in preorder, each with its whole path

-- The leaves among nodes in preorder, where these paths lead to the places that are due: of a choice the places of its
-- children come next.
abbrev pub leaves_at : List (List Decision) → List Node → List Leaf
leaves_at due [] = []
leaves_at [] (n ∷ ns) = []
leaves_at (path ∷ due) (Inner c ∷ ns) =
    leaves_at ((path ++ first_decision c ∷ []) ∷ (path ++ second_decision c ∷ []) ∷ due) ns
leaves_at (path ∷ due) (n ∷ ns) = (record { path = path; node = n }) ∷ leaves_at due ns

-- the leaves of a tree
abbrev pub leaves_in : List Node → List Leaf
leaves_in nodes = leaves_at ([] ∷ []) nodes

-- what is said of a leaf
abbrev pub leaf_kind : Node → List ℕ
leaf_kind (Inner c) = []
leaf_kind Cycle = codes " cycle"
leaf_kind (Bound c) = joined (codes " bound " ∷ decimal c ∷ [])
leaf_kind (Open c) = joined (codes " open " ∷ decimal c ∷ [])
leaf_kind Hole = []

-- the empty path is left out with the space before it
unfoldable pub leaf_text : Leaf → List ℕ
leaf_text leaf =
    joined (codes "leaf" ∷ leaf_kind leaf.node ∷ flat_map spelling_of_decision leaf.path ∷ line_end ∷ [])

-- ---- version 2: a tree is its nodes in preorder

unfoldable pub node_text : Node → List ℕ
node_text (Inner (Change a)) = joined (codes "inner change " ∷ decimal a.0 ∷ line_end ∷ [])
node_text (Inner (Pair i j)) = joined (codes "inner pair " ∷ decimal i.0 ∷ codes " " ∷ decimal j.0 ∷ line_end ∷ [])
node_text Cycle = joined (codes "cycle" ∷ line_end ∷ [])
node_text (Bound c) = joined (codes "bound " ∷ decimal c ∷ line_end ∷ [])
node_text (Open c) = joined (codes "open " ∷ decimal c ∷ line_end ∷ [])
node_text Hole = []

-- ---- both

-- how many lines the tree has
abbrev pub size_text : ℕ → List Node → List ℕ
size_text version nodes =
    if version == 1
    then joined (codes " leaves " ∷ decimal (length (leaves_in nodes)) ∷ [])
    else joined (codes " nodes " ∷ decimal (length nodes) ∷ [])

abbrev pub tree_text : ℕ → List Node → List ℕ
tree_text version nodes = if version == 1 then flat_map leaf_text (leaves_in nodes) else flat_map node_text nodes

unfoldable pub plan_heading : ℕ → Plan → List ℕ
plan_heading version plan =
    joined (codes "plan " ∷ mark_text plan.mark ∷ codes " cost " ∷ decimal plan.cost ∷ codes " bound " ∷ decimal plan.bound
    ∷ codes " choices " ∷ decimal (length plan.choices) ∷ size_text version plan.tree ∷ line_end ∷ [])

-- a plan's one spelling in a version
unfoldable pub spelling_of_plan : ℕ → Plan → List ℕ
spelling_of_plan version plan =
    plan_heading version plan ++ (flat_map choice_text plan.choices ++ tree_text version plan.tree)

-- ---- what plans may hold

-- the largest cost
abbrev pub largest_cost : ℕ
largest_cost = 340282366920938463463374607431768211455

-- ids and costs are not too large
abbrev pub FitsNode : Node → Type 0
FitsNode (Inner (Change a)) = a.0 ≤ largest_id
FitsNode (Inner (Pair i j)) = (i.0 ≤ largest_id) × (j.0 ≤ largest_id)
FitsNode Cycle = Unit {0}
FitsNode (Bound c) = c ≤ largest_cost
FitsNode (Open c) = c ≤ largest_cost
FitsNode Hole = Unit {0}

abbrev pub FitsDecision : Decision → Type 0
FitsDecision decision = All Fits (parts_of_decision decision)

-- the numbers that are printed of a plan are not too large, and its nodes are one whole tree
pub record FitsPlan (plan : Plan) : Type 0 where
  pub choices : All FitsDecision plan.choices
  pub cost : plan.cost ≤ largest_cost
  pub bound : plan.bound ≤ largest_cost
  pub nodes : All FitsNode plan.tree
  pub is_tree : IsTree plan.tree
