-- The events that move, or that are cancelled or run from then on, noted.
use Rattle.std.specs.Prelude.{ℕ, ◌≡◌, Bool, false, List, length, slice_index}
use Rattle.dm_marks.specs.Marked.{is_marked}
use Rattle.dm_rows.specs.Rows.{RowsValue, is_cancelled}

-- What was noted is so still, and each event whose time is not what it was before is noted.
pub record TakesInMoved (noted noted_now : List Bool) (before after : List ℕ) : Type 0 where
  pub as_many : length noted_now ≡ length noted
  pub others : (i : ℕ) → is_marked noted_now i ≡ false → (is_marked noted i ≡ false) × (slice_index after i ≡ slice_index before i)

-- Each event that is cancelled in one of two rows and not in the other is noted.
abbrev pub TakesInCancelled : List Bool → RowsValue → RowsValue → Type 0
TakesInCancelled noted before after = (i : ℕ) → is_marked noted i ≡ false → is_cancelled after i ≡ is_cancelled before i
