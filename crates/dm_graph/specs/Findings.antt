-- What a search has found.
use Rattle.std.specs.Prelude.{ℕ, List}

-- the order of the events, the rank of each in it, and the arcs of a cycle
pub record Findings : Type 0 where
  pub order : List ℕ
  pub ranks : List ℕ
  pub cycle : List ℕ
