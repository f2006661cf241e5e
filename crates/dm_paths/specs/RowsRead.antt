-- What the first places of an event's row have shown.
use Rattle.std.specs.Prelude.{ℕ, ◌≡◌, ◌&&◌, ◌<◌, false, List, slice_index}
use Rattle.dm_network.specs.Net.{Net, activity_at}
use Rattle.dm_rows.specs.Cost.{comes_too_early}
use Rattle.dm_rows.specs.Relax.{is_of_pair}
use Rattle.dm_rows.specs.Rows.{RowsValue}

-- it is among the first n of a row
abbrev pub IsAmong : List ℕ → ℕ → ℕ → Type 0
IsAmong row n b = (k : ℕ) × (k < n) × (slice_index row k ≡ b)

-- none of the first n activities of a row is a headway of the pair that is not met
abbrev pub NoneUnmet : Net → RowsValue → List ℕ → ℕ → List ℕ → ℕ → Type 0
NoneUnmet net rows x p row n =
    (k : ℕ) → k < n → (is_of_pair p (activity_at net (slice_index row k)).pair && comes_too_early net rows x (slice_index row k)) ≡ false
