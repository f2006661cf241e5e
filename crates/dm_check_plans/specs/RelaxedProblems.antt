-- The relaxed problem of a path, kept by flags.
use Rattle.std.specs.Prelude.{ℕ, ◌≡◌, Bool, IsTrue, List, length}
use Rattle.dm_network.specs.Net.{Net}
use Rattle.dm_rows.specs.declared.messages.Decision.{Decision}
use Rattle.dm_rows.specs.Decide.{IsChoiceList}
use Rattle.dm_rows.specs.Relax.{is_undecided_change, is_undecided_pair, is_relaxed_active, is_relaxed_lost}
use Rattle.dm_rows.specs.Rows.{RowsValue}
use Rattle.dm_tree.specs.Relaxed.{IsRelaxedLeast, IsRelaxedCycle, HasNoRelaxedCycle}
use Rattle.dm_check_times.specs.Binding.{AreBelowLimit}
use Rattle.dm_marks.specs.Places.{PlaceSetValue}
use Rattle.dm_check_times.specs.Noting.{AreAlikeBut}
use Rattle.dm_check_times.specs.Changes.{AreChangesTo}
use Rattle.dm_check_times.specs.KeptCosts.{KeptCostValue, IsKeptCostOf, IsPricedFor}
use Rattle.dm_paths.specs.Flags.{AreFlags, is_flagged}
use Rattle.dm_check_plans.specs.Inside.Timetables.{HeldTimetableValue, IsTimetableOf, AreOfRows}

-- a path, which changes and which pairs it leaves undecided, what its relaxed problem charges for, its timetable with what it
-- holds, what the times cost that it had last, which events may have moved since then, whether these are all, and the places of the
-- network's changes
pub record RelaxedProblemValue : Type 0 where
  pub path : List Decision
  pub changes : List Bool
  pub pairs : List Bool
  pub charged : List Bool
  pub timetable : HeldTimetableValue
  pub kept_cost : KeptCostValue
  pub moved : PlaceSetValue
  pub is_noted : Bool
  pub places : List ℕ

abbrev pub times_of : RelaxedProblemValue → List ℕ
times_of problem = problem.timetable.kept.times

-- the timetable has the spans and the floors of the rows, the cost its weights for what is flagged, and the times of the cost are
-- those of the timetable but at the places of the set, where these are all that may have moved
pub record IsCosted (net : Net) (rows : RowsValue) (flags : List Bool) (t : HeldTimetableValue) (kept : KeptCostValue)
    (set : PlaceSetValue) (are_all : Bool) : Type 0 where
  pub timetable : IsTimetableOf net t
  pub of_rows : AreOfRows net rows t
  pub cost : IsKeptCostOf net kept
  pub priced : IsPricedFor net rows (is_flagged flags) kept
  pub as_many_moved : length set.flags ≡ length net.events
  pub noted : IsTrue are_all → AreAlikeBut set.flags kept.times t.kept.times

-- the path decides free choices, none twice, and the flags are those of its relaxed problem
pub record IsRelaxedProblemOf (net : Net) (rows : RowsValue) (problem : RelaxedProblemValue) : Type 0 where
  pub is_path : IsChoiceList net rows problem.path
  pub changes : AreFlags (is_undecided_change net rows problem.path) (length net.activities) problem.changes
  pub pairs : AreFlags (is_undecided_pair net rows problem.path) (length net.pairs) problem.pairs
  pub held : AreFlags (is_relaxed_active net rows problem.path) (length net.activities) problem.timetable.kept.held
  pub charged : AreFlags (is_relaxed_lost net rows problem.path) (length net.activities) problem.charged
  pub costed : IsCosted net rows problem.charged problem.timetable problem.kept_cost problem.moved problem.is_noted
  pub places : AreChangesTo net (length net.activities) problem.places

-- the times are the least of the relaxed problem, which has no cycle, and what they cost is kept
pub record IsSolved (net : Net) (rows : RowsValue) (problem : RelaxedProblemValue) : Type 0 where
  pub least : IsRelaxedLeast net rows problem.path (times_of problem)
  pub no_cycle : HasNoRelaxedCycle net rows problem.path
  pub below : AreBelowLimit (times_of problem)
  pub kept : problem.kept_cost.times ≡ times_of problem

-- the relaxed problem has a cycle
pub record HasRelaxedCycle (net : Net) (rows : RowsValue) (path : List Decision) : Type 0 where
  pub cycle : List ℕ
  pub is_cycle : IsRelaxedCycle net rows path cycle
