-- The first violated choice from a place on, and what it is found by.
use Rattle.std.specs.Prelude.{ℕ, ◌≡◌, ◌+◌, ◌-◌, ◌++◌, true, List, length, map, filter, Option, slice_get}
use Rattle.std.specs.List.{range_with_len}
use Rattle.dm_network.specs.Net.{Net}
use Rattle.dm_rows.specs.declared.messages.Decision.{Decision}
use Rattle.dm_rows.specs.declared.messages.Choice.{Choice}
use Rattle.dm_rows.specs.Decide.{change_choice, pair_choice}
use Rattle.dm_rows.specs.Cost.{comes_too_early}
use Rattle.dm_rows.specs.Relax.{is_undecided_change, is_undecided_pair, is_violated_change, is_violated_pair}
use Rattle.dm_rows.specs.Rows.{RowsValue}
use Rattle.dm_priced.specs.Priced.{is_flagged}
use Rattle.dm_paths.specs.declared.undecided.Undecided.{Undecided}
use Rattle.dm_paths.specs.declared.places.ChoicePlace.{ChoicePlace}
use Rattle.dm_paths.specs.Decisions.{is_unmet_pair}
use Rattle.dm_paths.specs.Flags.{AreFlags}
use Rattle.dm_paths.specs.Places.{IsPlaceOf, at_place}
use Rattle.dm_evaluate.specs.declared.marks.ViolationMarks.{ViolationMarks}
use Rattle.dm_evaluate.specs.Inside.Marking.{AreMarksOf, Clears}

-- the first violated choice among the changes from a place on and then the pairs, and among the pairs from a place on
abbrev pub violated_from : Net → RowsValue → List Decision → List ℕ → ℕ → Option Choice
violated_from net rows path x first =
    slice_get (map (change_choice net) (filter (is_violated_change net rows path x) (range_with_len first (length net.activities - first)))
    ++ map (pair_choice net) (filter (is_violated_pair net rows path x) (range_with_len 0 (length net.pairs)))) 0

abbrev pub violated_pair_from : Net → RowsValue → List Decision → List ℕ → ℕ → Option Choice
violated_pair_from net rows path x first =
    slice_get (map (pair_choice net) (filter (is_violated_pair net rows path x) (range_with_len first (length net.pairs - first)))) 0

-- there is a flag for each activity and each pair
pub record AreFlagsFor (net : Net) (undecided : Undecided) : Type 0 where
  pub changes : length undecided.changes.items ≡ length net.activities
  pub pairs : length undecided.pairs.items ≡ length net.pairs

-- the flags are of what the path leaves undecided
pub record LeavesUndecided (net : Net) (rows : RowsValue) (path : List Decision) (undecided : Undecided) : Type 0 where
  pub changes : AreFlags (is_undecided_change net rows path) (length net.activities) undecided.changes.items
  pub pairs : AreFlags (is_undecided_pair net rows path) (length net.pairs) undecided.pairs.items

-- of what is flagged that is marked which the times do not keep
pub record AreMarked (net : Net) (rows : RowsValue) (x : List ℕ) (undecided : Undecided) (marks : ViolationMarks) : Type 0 where
  pub flags : AreFlagsFor net undecided
  pub changes : AreMarksOf undecided.changes.items (comes_too_early net rows x) (length net.activities) marks.changes
  pub pairs : AreMarksOf undecided.pairs.items (is_unmet_pair net rows x) (length net.pairs) marks.pairs

-- no mark is gone of what the times do not keep
pub record AreCleared (net : Net) (rows : RowsValue) (x : List ℕ) (before after : ViolationMarks) : Type 0 where
  pub changes : Clears (comes_too_early net rows x) before.changes after.changes
  pub pairs : Clears (is_unmet_pair net rows x) before.pairs after.pairs

-- the flag at the place of the choice is set
pub record IsFlagged (net : Net) (undecided : Undecided) (choice : Choice) : Type 0 where
  pub place : ChoicePlace
  pub is : IsPlaceOf net choice place
  pub flagged : at_place (is_flagged undecided.changes.items) (is_flagged undecided.pairs.items) place ≡ true
