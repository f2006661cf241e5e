-- The path of a leaf: decisions to the end of the line.
use Rattle.std.specs.Prelude.{ℕ, ◌≡◌, List, ◌++◌, All}
use Rattle.std.specs.List.{flat_map}
use Rattle.dm_rows.specs.declared.messages.Decision.{Decision}
use Rattle.dm_feed.specs.Lines.{spelling_of_decision}
use Rattle.dm_cert.specs.PlanTexts.{FitsDecision}

-- the bytes are these decisions, each with a space in front
pub record IsPath (path : List Decision) (bytes : List ℕ) : Type 0 where
  pub spelled : bytes ≡ flat_map spelling_of_decision path
  pub fits : All FitsDecision path

-- the bytes are no decisions
abbrev pub IsNoPath : List ℕ → Type 0
IsNoPath bytes = (path : List Decision) → IsPath path bytes → ⊥

-- the path goes on behind what is held
pub record GoesOnBehind (held path : List Decision) (rest : List ℕ) : Type 0 where
  pub tail : List Decision
  pub is : path ≡ held ++ tail
  pub stands : IsPath tail rest

-- what is held was read in front of the rest
pub record ReadSoFar (bytes rest : List ℕ) (held : List Decision) : Type 0 where
  pub front : bytes ≡ flat_map spelling_of_decision held ++ rest
  pub fits : All FitsDecision held
  pub alone : (path : List Decision) → IsPath path bytes → GoesOnBehind held path rest
