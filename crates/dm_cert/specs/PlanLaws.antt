-- What holds of plans and their texts.
use Rattle.std.specs.Prelude.{ℕ, ◌≡◌, ◌^◌, ◌<◌, List, ◌++◌, length}
use Rattle.dm_parts.specs.declared.parts.PlanByParts.{PlanByParts}
use Rattle.dm_tree.specs.declared.plans.Plan.{Plan}
use Rattle.dm_cert.specs.PlanTexts.{spelling_of_plan, FitsPlan}
use Rattle.dm_parts.specs.Sizes.{nodes_of}
use Rattle.dm_cert.specs.SolvedTexts.{spelling_of_solved, FitsSolved, IsSpelledSolved}

-- memory holds the plan's lists
pub record IsHeld (plan : Plan) : Type 0 where
  pub choices : length plan.choices < 2 ^ 64
  pub nodes : length plan.tree < 2 ^ 64

-- they are one plan, and what stands behind its text is the same
pub record IsSamePlan (one other : Plan) (rest more : List ℕ) : Type 0 where
  pub plan : one ≡ other
  pub behind : rest ≡ more

-- Two plans for one entry whose texts in a version begin one text are one plan. So different plans have different texts, no
-- text of a plan is a proper front of another's, and what follows a plan's text does not change how it is read.
abbrev pub PlansHaveOwnTexts : Type 0
PlansHaveOwnTexts =
    (version : ℕ) (one other : Plan) (rest more : List ℕ) → FitsPlan one → FitsPlan other → IsHeld one → IsHeld other →
    one.entry ≡ other.entry → spelling_of_plan version one ++ rest ≡ spelling_of_plan version other ++ more →
    IsSamePlan one other rest more

-- memory holds the lists of the plan by parts: as many parts as a list has at most, each with as many nodes
pub record IsHeldSolved (plan : PlanByParts) : Type 0 where
  pub choices : length plan.choices < 2 ^ 64
  pub parts : length plan.parts < 2 ^ 64
  pub nodes : nodes_of plan.parts < 2 ^ 128

-- they are one plan by parts, and what stands behind its text is the same
pub record IsSameSolved (one other : PlanByParts) (rest more : List ℕ) : Type 0 where
  pub plan : one ≡ other
  pub behind : rest ≡ more

-- Two plans by parts for one entry whose texts begin one text are one.
abbrev pub SolvedHaveOwnTexts : Type 0
SolvedHaveOwnTexts =
    (one other : PlanByParts) (rest more : List ℕ) → FitsSolved one → FitsSolved other → IsSpelledSolved one →
    IsSpelledSolved other → IsHeldSolved one → IsHeldSolved other →
    one.entry ≡ other.entry → spelling_of_solved one ++ rest ≡ spelling_of_solved other ++ more →
    IsSameSolved one other rest more
