-- What completes the decisions of a path that leaves nothing violated.
use Rattle.std.specs.Prelude.{ℕ, ◌++◌, nat_lt, Bool, true, List, length, map, filter, if◌then◌else◌}
use Rattle.std.specs.List.{range_with_len}
use Rattle.dm_network.specs.Net.{Net, pair_at}
use Rattle.dm_rows.specs.declared.messages.Decision.{Decision}
use Rattle.dm_rows.specs.Rows.{RowsValue, kept_at, small_first_at}
use Rattle.dm_rows.specs.Timetable.{time_at}
use Rattle.dm_rows.specs.Decide.{is_free_change, is_free_pair, with_decisions}
use Rattle.dm_rows.specs.Relax.{is_undecided_change, is_undecided_pair}
use Rattle.dm_paths.specs.Decisions.{change_decision, differs_from, pair_decision}

-- an undecided change is kept, and any other is as the path leaves it
abbrev pub completed_kept : Net → RowsValue → List Decision → ℕ → Bool
completed_kept net rows path a =
    if is_undecided_change net rows path a then true else kept_at (with_decisions net rows path) a

-- an undecided pair goes in the order of its times, and any other as the path leaves it
abbrev pub completed_small_first : Net → RowsValue → List Decision → List ℕ → ℕ → Bool
completed_small_first net rows path x p =
    if is_undecided_pair net rows path p then nat_lt (time_at x (pair_at net p).small) (time_at x (pair_at net p).large)
    else small_first_at (with_decisions net rows path) p

abbrev pub completed_change : Net → RowsValue → List Decision → ℕ → Decision
completed_change net rows path a = change_decision net a (completed_kept net rows path a)

abbrev pub completed_pair : Net → RowsValue → List Decision → List ℕ → ℕ → Decision
completed_pair net rows path x p = pair_decision net p (completed_small_first net rows path x p)

-- The completion of a path by a timetable decides every free choice, in their order: the decisions of the path stand,
-- every other change is kept, and every other pair goes in the order of its times.
abbrev pub completion_of : Net → RowsValue → List Decision → List ℕ → List Decision
completion_of net rows path x =
    map (completed_change net rows path) (filter (is_free_change net rows) (range_with_len 0 (length net.activities)))
    ++ map (completed_pair net rows path x) (filter (is_free_pair net rows) (range_with_len 0 (length net.pairs)))

-- the decisions of a list that differ from the rows
abbrev pub differences_from : Net → RowsValue → List Decision → List Decision
differences_from net rows decisions = filter (differs_from net rows) decisions
