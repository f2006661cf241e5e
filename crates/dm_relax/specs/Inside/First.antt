-- The first violated change and the first violated pair by themselves.
use Rattle.std.specs.Prelude.{ℕ, List, length, map, filter, Option, slice_get}
use Rattle.std.specs.List.{range_with_len}
use Rattle.dm_network.specs.Net.{Net}
use Rattle.dm_rows.specs.declared.messages.Decision.{Decision}
use Rattle.dm_rows.specs.declared.messages.Choice.{Choice}
use Rattle.dm_rows.specs.Rows.{RowsValue}
use Rattle.dm_rows.specs.Decide.{change_choice, pair_choice}
use Rattle.dm_rows.specs.Relax.{is_violated_change, is_violated_pair}

-- the first violated change in ascending id, the first violated pair, or None where there is none
abbrev pub first_violated_change : Net → RowsValue → List Decision → List ℕ → Option Choice
first_violated_change net rows path x =
    slice_get (map (change_choice net) (filter (is_violated_change net rows path x) (range_with_len 0 (length net.activities)))) 0

abbrev pub first_violated_pair : Net → RowsValue → List Decision → List ℕ → Option Choice
first_violated_pair net rows path x =
    slice_get (map (pair_choice net) (filter (is_violated_pair net rows path x) (range_with_len 0 (length net.pairs)))) 0
