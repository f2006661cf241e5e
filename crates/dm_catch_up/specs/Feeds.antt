-- Feeds that go on with what was answered of them, and those that do not.
use Rattle.std.specs.Prelude.{ℕ, ◌≡◌, ◌⊎◌, List, [], ◌∷◌, ◌++◌, map, min}
use mathlib.Core.List.{IsPrefix}
use Rattle.dm_feed.specs.DueItems.{AreDueItems, DueItem, lines_of, item}
use Rattle.dm_feed.specs.Feeds.{IsUnended}
use Rattle.dm_feed.specs.Joined.{AreWhole}
use Rattle.dm_cert.specs.declared.replies.LogItem.{LogItem}
use Rattle.dm_cert.specs.Logs.{due_of, line_of}

-- ---- another line than was answered

abbrev pub line_of_due : DueItem → ℕ
line_of_due (item line heard) = line

-- the next due line of the feed is another than the item's; the first of both is told
pub record IsOtherLine (given : List ℕ) (same : List LogItem) (next : LogItem) (line : ℕ) : Type 0 where
  pub front : List ℕ
  pub whole : AreWhole front
  pub is_front : IsPrefix front given
  pub due : DueItem
  pub next_due : AreDueItems 0 (lines_of front) (map due_of same ++ due ∷ [])
  pub other : due_of next ≡ due → ⊥
  pub first_of_both : line ≡ min (line_of next) (line_of_due due)

-- the feed has no further line that ends
pub record HasNoLine (given : List ℕ) (same : List LogItem) (next : LogItem) (line : ℕ) : Type 0 where
  pub front : List ℕ
  pub rest : List ℕ
  pub whole : AreWhole front
  pub split : given ≡ front ++ rest
  pub unended : IsUnended rest
  pub due : AreDueItems 0 (lines_of front) (map due_of same)
  pub is_line : line ≡ line_of next

-- This line of what the feed holds is not the one that was answered: up to there its due lines are those of the items, and then one is
-- another, or is missing.
pub record DiffersAt (given : List ℕ) (items : List LogItem) (line : ℕ) : Type 0 where
  pub same : List LogItem
  pub next : LogItem
  pub later : List LogItem
  pub split : items ≡ same ++ next ∷ later
  pub cause : IsOtherLine given same next line ⊎ HasNoLine given same next line
