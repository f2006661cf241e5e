-- What a timetable does not meet, activity by activity.
use Rattle.std.specs.Prelude.{ℕ, Bool, List, if◌then◌else◌}
use Rattle.std.specs.List.{range_with_len, list_any}
use Rattle.dm_network.specs.Net.{Net, pair_at}
use Rattle.dm_rows.specs.Rows.{RowsValue}
use Rattle.dm_rows.specs.Relax.{is_unmet_from}

-- the small or the large event of a pair
abbrev pub end_of : Net → Bool → ℕ → ℕ
end_of net small p = if small then (pair_at net p).small else (pair_at net p).large

-- some of the first n activities is a headway of the pair out of that event, and is not met
abbrev pub is_unmet_so_far : Net → RowsValue → List ℕ → Bool → ℕ → ℕ → Bool
is_unmet_so_far net rows x small n p = list_any (is_unmet_from net rows x p (end_of net small p)) (range_with_len 0 n)
