-- The decisions outside a window, place by place.
use Rattle.std.specs.Prelude.{ℕ, Bool, List, Option, Some, None, if◌then◌else◌}
use Rattle.std.specs.List.{range_with_len, filter_map}
use Rattle.dm_network.specs.Net.{Net}
use Rattle.dm_rows.specs.declared.messages.Decision.{Decision}
use Rattle.dm_rows.specs.Rows.{RowsValue, kept_at, small_first_at}
use Rattle.dm_paths.specs.Decisions.{change_decision, pair_decision}
use Rattle.dm_stretch.specs.declared.windows.Window.{Window}
use Rattle.dm_stretch.specs.Windows.{is_change_outside, is_pair_outside}

-- the decision of a place that passes
abbrev pub standing : Bool → Decision → Option Decision
standing passes d = if passes then Some d else None

abbrev pub standing_change : Net → RowsValue → Window → ℕ → Option Decision
standing_change net rows window a = standing (is_change_outside net rows window a) (change_decision net a (kept_at rows a))

abbrev pub standing_pair : Net → RowsValue → Window → ℕ → Option Decision
standing_pair net rows window p = standing (is_pair_outside net rows window p) (pair_decision net p (small_first_at rows p))

-- those of the first n activities, of the first n pairs
abbrev pub standing_changes : Net → RowsValue → Window → ℕ → List Decision
standing_changes net rows window n = filter_map (standing_change net rows window) (range_with_len 0 n)

abbrev pub standing_pairs : Net → RowsValue → Window → ℕ → List Decision
standing_pairs net rows window n = filter_map (standing_pair net rows window) (range_with_len 0 n)
