-- Where a path decides a choice.
use Rattle.std.specs.Prelude.{ℕ, ◌≡◌, ◌<◌, ◌≤◌, true, false, List, length, Some, slice_get}
use Rattle.dm_rows.specs.declared.messages.Choice.{Choice}
use Rattle.dm_rows.specs.declared.messages.Decision.{Decision}
use Rattle.dm_rows.specs.Decide.{choice_of}
use Rattle.dm_rows.specs.Relax.{is_same_choice}

-- the decision at a place decides the choice
pub record DecidesAt (path : List Decision) (choice : Choice) (place : ℕ) : Type 0 where
  pub within : place < length path
  pub decides : (d : Decision) → slice_get path place ≡ Some d → is_same_choice (choice_of d) choice ≡ true

-- no decision from a place on decides the choice
pub record NoneFrom (path : List Decision) (choice : Choice) (place : ℕ) : Type 0 where
  pub within : place ≤ length path
  pub none : (k : ℕ) (d : Decision) → place ≤ k → slice_get path k ≡ Some d → is_same_choice (choice_of d) choice ≡ false
