-- What contracts see of a word and of its hands.
use Rattle.std.specs.Prelude.{ℕ, List, [], ◌∷◌, ◌-◌, ◌^◌, min}
use Rattle.atomic_table.specs.Seated.{TableId}

-- which word it is, and how many seats its hands have together
pub record WordValue : Type 0 where
  pub id : TableId
  pub seats : ℕ

-- The word of a hand and its start; the costs by which its owner has lowered the word, in order; the least value that it has looked at; and
-- its room
pub record HandValue : Type 0 where
  pub word : TableId
  pub start : ℕ
  pub lowered : List ℕ
  pub looked : ℕ
  pub room : ℕ

-- the greatest value of a word, which stands for nothing looked at
abbrev pub nothing_looked : ℕ
nothing_looked = 2 ^ 64 - 1

-- the smallest of a start and of some costs
abbrev pub lowest : ℕ → List ℕ → ℕ
lowest start [] = start
lowest start (cost ∷ costs) = min cost (lowest start costs)
