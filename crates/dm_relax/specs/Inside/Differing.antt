-- The decisions of a completion that differ from the rows, place by place.
use Rattle.std.specs.Prelude.{ℕ, ◌&&◌, Bool, List, Option, Some, None, if◌then◌else◌}
use Rattle.std.specs.List.{range_with_len, filter_map}
use Rattle.dm_network.specs.Net.{Net}
use Rattle.dm_rows.specs.declared.messages.Decision.{Decision}
use Rattle.dm_rows.specs.Rows.{RowsValue}
use Rattle.dm_rows.specs.Decide.{is_free_change, is_free_pair}
use Rattle.dm_relax.specs.Complete.{completed_change, completed_pair}
use Rattle.dm_paths.specs.Decisions.{differs_from}

-- the decision of a place that passes, where it differs
abbrev pub differing : Net → RowsValue → Bool → Decision → Option Decision
differing net rows free d = if free && differs_from net rows d then Some d else None

abbrev pub differing_change : Net → RowsValue → List Decision → ℕ → Option Decision
differing_change net rows path a = differing net rows (is_free_change net rows a) (completed_change net rows path a)

abbrev pub differing_pair : Net → RowsValue → List Decision → List ℕ → ℕ → Option Decision
differing_pair net rows path x p = differing net rows (is_free_pair net rows p) (completed_pair net rows path x p)

-- those of the first n activities, of the first n pairs
abbrev pub differing_changes : Net → RowsValue → List Decision → ℕ → List Decision
differing_changes net rows path n = filter_map (differing_change net rows path) (range_with_len 0 n)

abbrev pub differing_pairs : Net → RowsValue → List Decision → List ℕ → ℕ → List Decision
differing_pairs net rows path x n = filter_map (differing_pair net rows path x) (range_with_len 0 n)
