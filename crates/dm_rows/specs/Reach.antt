-- Changes whose places and numbers are in range for the rows, as those of every admitted message are.
use Rattle.std.specs.Prelude.{◌≡◌, ◌<◌, ◌≤◌, length, All, None}
use Rattle.dm_base.specs.declared.limits.TheConstants.{DELAY, PASSED_TIME}
use Rattle.dm_rows.specs.declared.messages.Spot.{Spot}
use Rattle.dm_rows.specs.declared.messages.Spot.TheVariants.{Change as AtChange, Pair as AtPair}
use Rattle.dm_rows.specs.declared.messages.Flip.{Flip}
use Rattle.dm_rows.specs.declared.messages.Flip.TheVariants.{Keep, Drop, First}
use Rattle.dm_rows.specs.declared.messages.Change.{Change}
use Rattle.dm_rows.specs.declared.messages.Change.TheVariants.{EventDelay, ActDelay, Passed, Recalled, Flipped, Adopted, Clock, Cancelled, Restored, Locked, Unlocked}
use Rattle.dm_rows.specs.Rows.{RowsValue, passed_at}

-- the activity or the pair of the decision is one of the rows'
abbrev pub ReachesFlip : RowsValue → Flip → Type 0
ReachesFlip rows (Keep a) = a < length rows.kept
ReachesFlip rows (Drop a) = a < length rows.kept
ReachesFlip rows (First p small) = p < length rows.small_first

-- the change or the pair is one of the rows'
abbrev pub ReachesSpot : RowsValue → Spot → Type 0
ReachesSpot rows (AtChange a) = a < length rows.locked_changes
ReachesSpot rows (AtPair p) = p < length rows.locked_pairs

-- The place is one of the rows', and the number is at most its largest. An event that is cancelled has not passed.
abbrev pub Reaches : RowsValue → Change → Type 0
Reaches rows (EventDelay i d) = (i < length rows.event_delays) × (d ≤ DELAY)
Reaches rows (ActDelay a d) = (a < length rows.act_delays) × (d ≤ DELAY)
Reaches rows (Passed i t) = (i < length rows.passed) × (t ≤ PASSED_TIME)
Reaches rows (Recalled i) = i < length rows.passed
Reaches rows (Flipped flip) = ReachesFlip rows flip
Reaches rows (Adopted flips) = All (ReachesFlip rows) flips
Reaches rows (Clock t) = t ≤ PASSED_TIME
Reaches rows (Cancelled i) = (i < length rows.cancelled) × (passed_at rows i ≡ None)
Reaches rows (Restored i) = i < length rows.cancelled
Reaches rows (Locked spot) = ReachesSpot rows spot
Reaches rows (Unlocked spot) = ReachesSpot rows spot
