-- Ways down a tree whose choices are chosen at the paths that lead to them, and how often such ways are handed in.
use Rattle.std.specs.Prelude.{ℕ, ◌≡◌, ◌≤◌, ◌⊎◌, Bool, true, false, List, [], ◌∷◌, ◌++◌, sum_by, if◌then◌else◌}
use Rattle.dm_rows.specs.declared.messages.Choice.{Choice}
use Rattle.dm_rows.specs.declared.messages.Decision.{Decision}
use Rattle.dm_rows.specs.Sides.{first_decision, second_decision, is_first_decision}
use Rattle.dm_tree.specs.declared.forms.Leaf.{Leaf}

module _ (Chosen : List Decision → Choice → Type 0) where
  -- the decision is one of the two of a choice that is chosen at the path
  pub record IsStep (path : List Decision) (d : Decision) : Type 0 where
    pub choice : Choice
    pub chosen : Chosen path choice
    pub side : (d ≡ first_decision choice) ⊎ (d ≡ second_decision choice)

  -- behind the path, each decision is one of the two of the choice that is chosen at the path before it
  abbrev pub GoesDown : List Decision → List Decision → Type 0
  GoesDown path [] = Unit {0}
  GoesDown path (d ∷ rest) = IsStep path d × GoesDown (path ++ d ∷ []) rest

-- 1 where the path lies on the way down by these sides, true for each first decision, and else 0
abbrev pub on_way : List Bool → List Decision → ℕ
on_way sides [] = 1
on_way [] (d ∷ path) = 0
on_way (true ∷ sides) (d ∷ path) = if is_first_decision d then on_way sides path else 0
on_way (false ∷ sides) (d ∷ path) = if is_first_decision d then 0 else on_way sides path

-- how many of the leaves lie on the way
abbrev pub leaves_on : List Bool → List Leaf → ℕ
leaves_on sides leaves = sum_by (λ l. on_way sides l.path) leaves

-- no path of a leaf is a front of another's: on each way at most one leaf lies
abbrev pub StandApart : List Leaf → Type 0
StandApart leaves = (sides : List Bool) → leaves_on sides leaves ≤ 1
