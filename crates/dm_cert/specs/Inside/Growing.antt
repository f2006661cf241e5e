-- A tree that grows from its leaves in preorder.
use Rattle.std.specs.Prelude.{ℕ, ◌≡◌, ◌⊎◌, true, List, [], ◌∷◌, ◌++◌, Result, Ok, Err}
use Rattle.dm_rows.specs.declared.messages.Decision.{Decision}
use Rattle.dm_tree.specs.declared.forms.Node.{Node}
use Rattle.dm_tree.specs.declared.forms.Node.TheVariants.{Inner, Cycle, Bound, Open, Hole}
use Rattle.dm_tree.specs.declared.forms.Leaf.{Leaf}
use Rattle.dm_tree.specs.Trees.{IsTree}
use Rattle.dm_rows.specs.Sides.{first_decision, second_decision, is_ordered}
use Rattle.dm_tree.specs.Pending.{pending}
use Rattle.dm_text.specs.Places.{Place}
use Rattle.dm_cert.specs.declared.faults.CertFault.{CertFault}
use Rattle.dm_cert.specs.declared.growth.Growth.{Growth}
use Rattle.dm_cert.specs.PlansRead.{TellsLeaves, want_of_memory, no_tree}
use Rattle.dm_cert.specs.declared.growth.Stage.{Stage}
use Rattle.dm_cert.specs.declared.growth.Stage.TheVariants.{Due, Whole, Broken}

-- this leaf stands at the first place, and the others are these
abbrev pub IsFirstLeaf : List Decision → Node → List Leaf → (List Leaf → Type 0) → Type 0
IsFirstLeaf path n [] others = ⊥
IsFirstLeaf path n (l ∷ leaves) others = (l.path ≡ path) × (l.node ≡ n) × others leaves

-- the nodes are one whole tree for each place that is due, with these leaves in order
abbrev pub FillsDue : List (List Decision) → List Node → List Leaf → Type 0
FillsDue [] [] leaves = leaves ≡ []
FillsDue [] (n ∷ nodes) leaves = ⊥
FillsDue (path ∷ due) [] leaves = ⊥
FillsDue (path ∷ due) (Inner c ∷ nodes) leaves =
    (is_ordered c ≡ true) × FillsDue ((path ++ first_decision c ∷ []) ∷ (path ++ second_decision c ∷ []) ∷ due) nodes leaves
FillsDue (path ∷ due) (Cycle ∷ nodes) leaves = IsFirstLeaf path Cycle leaves (FillsDue due nodes)
FillsDue (path ∷ due) (Bound c ∷ nodes) leaves = IsFirstLeaf path (Bound c) leaves (FillsDue due nodes)
FillsDue (path ∷ due) (Open c ∷ nodes) leaves = IsFirstLeaf path (Open c) leaves (FillsDue due nodes)
FillsDue (path ∷ due) (Hole ∷ nodes) leaves = ⊥

-- all nodes are those held and others, which fill the places that are due
pub record GoesOnWith (held all : List Node) (due : List (List Decision)) (leaves : List Leaf) : Type 0 where
  pub nodes : List Node
  pub all_are : all ≡ held ++ nodes
  pub fill : FillsDue due nodes leaves

-- The leaves read so far have the nodes that are held, and what fills the places due makes one tree of all. Where the next
-- leaves are these, no other tree has the leaves read in front.
pub record IsGrown (read next : List Leaf) (held : List Node) (due : List (List Decision)) : Type 0 where
  pub together : (nodes : List Node) (leaves : List Leaf) → FillsDue due nodes leaves → FillsDue ([] ∷ []) (held ++ nodes) (read ++ leaves)
  pub alone : (all : List Node) (leaves : List Leaf) → FillsDue ([] ∷ []) all (read ++ (next ++ leaves)) →
      GoesOnWith held all due (next ++ leaves)

-- no tree has these leaves in front
abbrev pub IsBroken : List Leaf → Type 0
IsBroken read = (all : List Node) (leaves : List Leaf) → FillsDue ([] ∷ []) all (read ++ leaves) → ⊥

-- how far a tree has grown: the next leaf is due at the path or below, or no place is left, or there is no tree
abbrev pub Grows : List Leaf → List Node → List Decision → Stage → Type 0
Grows read held path Due = IsGrown read [] held (path ∷ pending path)
Grows read held path Whole = IsGrown read [] held []
Grows read held path Broken = IsBroken read

-- all choices along the next leaf's path stand there, so that it is due at this very place
pub record IsDown (read : List Leaf) (l : Leaf) (held : List Node) (path : List Decision) : Type 0 where
  pub grown : IsGrown read (l ∷ []) held (path ∷ pending path)
  pub here : l.path ≡ path

-- as many leaves were read as were to be, and the tree has grown from them
pub record IsGrownFrom (count : ℕ) (old new : Place) (held : List Node) (path : List Decision) (stage : Stage) : Type 0 where
  pub leaves : List Leaf
  pub told : TellsLeaves count old (Ok (leaves, new))
  pub grows : Grows leaves held path stage

abbrev pub AnswersGrown : ℕ → Place → Place → Result Growth CertFault → Type 0
AnswersGrown count old new (Ok growth) = IsGrownFrom count old new growth.nodes.items growth.path.items growth.stage
AnswersGrown count old new (Err fault) = (fault ≡ want_of_memory) ⊎ TellsLeaves count old (Err fault)

-- the tree of the nodes, or there is none
abbrev pub IsTreeOf : List Node → Result (List Node) CertFault → Type 0
IsTreeOf nodes (Ok tree) = (tree ≡ nodes) × IsTree tree
IsTreeOf nodes (Err fault) = (fault ≡ want_of_memory) ⊎ ((fault ≡ no_tree) × (IsTree nodes → ⊥))
