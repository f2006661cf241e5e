-- Which places of a tree are still to come in preorder behind the end of a path.
use Rattle.std.specs.Prelude.{◌≡◌, ◌-◌, ◌<◌, ◌≤◌, List, [], ◌∷◌, ◌++◌, length, reverse, take, if◌then◌else◌}
use Rattle.dm_rows.specs.declared.messages.Decision.{Decision}
use Rattle.dm_rows.specs.Sides.{is_first_decision, other_decision}

-- the places to come behind a path, which is given from its last decision on: the second children along it
abbrev pub behind : List Decision → List (List Decision)
behind [] = []
behind (d ∷ back) =
    if is_first_decision d then (reverse back ++ other_decision d ∷ []) ∷ behind back else behind back

-- the places to come behind a path, the next one first
abbrev pub pending : List Decision → List (List Decision)
pending path = behind (reverse path)

-- the path is a front of the other
pub record IsFront (path whole : List Decision) : Type 0 where
  pub rest : List Decision
  pub is : whole ≡ path ++ rest

-- all but the last of the new list is a front of the old one
pub record KeepsFront (old new : List Decision) : Type 0 where
  pub some : 0 < length new
  pub within : length new - 1 ≤ length old
  pub same : take (length new - 1) new ≡ take (length new - 1) old
