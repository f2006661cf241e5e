-- What a timetable does not keep.
use Rattle.std.specs.Prelude.{ℕ, ◌≡◌, ◌&&◌, ◌<◌, Bool, true, false, List, length, slice_index}
use Rattle.dm_network.specs.Net.{Net, activity_at, is_change}
use Rattle.dm_rows.specs.Rows.{RowsValue}
use Rattle.dm_rows.specs.declared.messages.Choice.{Choice}
use Rattle.dm_rows.specs.declared.messages.Decision.{Decision}
use Rattle.dm_tree.specs.Relaxed.{IsViolated}
use Rattle.dm_rows.specs.Cost.{comes_too_early}
use Rattle.dm_rows.specs.Relax.{is_undecided_change, is_undecided_pair}
use Rattle.dm_paths.specs.Flags.{AreFlags, is_flagged}
use Rattle.dm_paths.specs.Decisions.{is_unmet_pair}
use Rattle.dm_check_plans.specs.declared.timed.TimedRows.{TimedRows}

-- none of the first n places is flagged and meets the test
abbrev pub NoneFlagged : List Bool → (ℕ → Bool) → ℕ → Type 0
NoneFlagged flags test n = (k : ℕ) → k < n → (is_flagged flags k && test k) ≡ false

-- none of the first n places of a list is flagged and meets the test
abbrev pub NoneFlaggedAmong : List Bool → (ℕ → Bool) → List ℕ → ℕ → Type 0
NoneFlaggedAmong flags test places n = (k : ℕ) → k < n → (is_flagged flags (slice_index places k) && test (slice_index places k)) ≡ false

-- nothing but changes is flagged
abbrev pub AreFlagsOfChanges : Net → List Bool → Type 0
AreFlagsOfChanges net flags = (a : ℕ) → a < length net.activities → is_change (activity_at net a).kind ≡ false → is_flagged flags a ≡ false

-- some place is flagged and meets the test
pub record SomeFlagged (flags : List Bool) (test : ℕ → Bool) (n : ℕ) : Type 0 where
  pub place : ℕ
  pub below : place < n
  pub meets : (is_flagged flags place && test place) ≡ true

-- some choice is violated
pub record IsSomeViolated (net : Net) (rows : RowsValue) (path : List Decision) (x : List ℕ) : Type 0 where
  pub choice : Choice
  pub violated : IsViolated net rows path x choice

-- the head of the activity comes too early, and neither direction of the pair is met, at these times
abbrev pub is_early : TimedRows → ℕ → Bool
is_early timed = comes_too_early timed.net.now timed.rows.now timed.times.now

abbrev pub is_unmet : TimedRows → ℕ → Bool
is_unmet timed = is_unmet_pair timed.net.now timed.rows.now timed.times.now

-- the flags are of the changes and the pairs that the path leaves undecided
abbrev pub AreUndecidedBy : TimedRows → List Decision → List Bool → List Bool → Type 0
AreUndecidedBy timed path changes pairs =
    AreFlags (is_undecided_change timed.net.now timed.rows.now path) (length timed.net.now.activities) changes
    × AreFlags (is_undecided_pair timed.net.now timed.rows.now path) (length timed.net.now.pairs) pairs
