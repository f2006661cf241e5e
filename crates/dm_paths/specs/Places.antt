-- Choices by place, and flags for them.
use Rattle.std.specs.Prelude.{ℕ, Bool, List, ◌≡◌, ◌≢◌, ◌<◌, length}
use Rattle.dm_network.specs.Net.{Net}
use Rattle.dm_rows.specs.declared.messages.Choice.{Choice}
use Rattle.dm_rows.specs.Decide.{change_choice, pair_choice}
use Rattle.dm_paths.specs.declared.places.ChoicePlace.{ChoicePlace}
use Rattle.dm_paths.specs.declared.places.ChoicePlace.TheVariants.{Change, Pair}

-- the change, the pair at the place is the choice
abbrev pub IsPlaceOf : Net → Choice → ChoicePlace → Type 0
IsPlaceOf net choice (Change a) = (a < length net.activities) × (change_choice net a ≡ choice)
IsPlaceOf net choice (Pair p) = (p < length net.pairs) × (pair_choice net p ≡ choice)

-- no activity and no pair of the network is the choice
pub record HasNoPlace (net : Net) (choice : Choice) : Type 0 where
  pub changes : (a : ℕ) → a < length net.activities → change_choice net a ≢ choice
  pub pairs : (p : ℕ) → p < length net.pairs → pair_choice net p ≢ choice

-- the test of the changes, of the pairs at a place
abbrev pub at_place : (ℕ → Bool) → (ℕ → Bool) → ChoicePlace → Bool
at_place changes pairs (Change a) = changes a
at_place changes pairs (Pair p) = pairs p

-- the place is one of the network's
abbrev pub IsWithin : Net → ChoicePlace → Type 0
IsWithin net (Change a) = a < length net.activities
IsWithin net (Pair p) = p < length net.pairs

-- there is a flag for the place
abbrev pub HasFlagFor : ChoicePlace → List Bool → List Bool → Type 0
HasFlagFor (Change a) changes pairs = a < length changes
HasFlagFor (Pair p) changes pairs = p < length pairs
