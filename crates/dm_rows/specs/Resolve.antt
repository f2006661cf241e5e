-- What the ids of a message name, and the rows after it.
use Rattle.std.specs.Prelude.{ℕ, ◌==◌, Bool, true, false, List, [], ◌∷◌, ◌++◌, fold, Option, Some, None, option_map, slice_set}
use Rattle.std.specs.Option.{option_and_then}
use Rattle.dm_base.specs.declared.ids.EventId.{EventId}
use Rattle.dm_network.specs.Net.{Net, pair_at, event_place, activity_place}
use Rattle.dm_network.specs.Pairs.{pair_place}
use Rattle.dm_rows.specs.declared.messages.Decision.{Decision}
use Rattle.dm_rows.specs.declared.messages.Decision.TheVariants.{Keep as KeepIt, Drop as DropIt, First as FirstOf}
use Rattle.dm_rows.specs.declared.messages.Message.{Message}
use Rattle.dm_rows.specs.declared.messages.Message.TheVariants.{DelayEvent, DelayActivity, Pass, Recall, Keep, Drop, First, Adopt, Now, Cancel, Restore, Lock, Unlock}
use Rattle.dm_rows.specs.declared.messages.Choice.{Choice}
use Rattle.dm_rows.specs.declared.messages.Choice.TheVariants.{Change as ChangeOf, Pair as PairOf}
use Rattle.dm_rows.specs.declared.messages.Spot.{Spot}
use Rattle.dm_rows.specs.declared.messages.Spot.TheVariants.{Change as AtChange, Pair as AtPair}
use Rattle.dm_rows.specs.declared.messages.Flip.{Flip}
use Rattle.dm_rows.specs.declared.messages.Flip.TheVariants.{Keep as KeepFlip, Drop as DropFlip, First as FirstFlip}
use Rattle.dm_rows.specs.declared.messages.Change.{Change}
use Rattle.dm_rows.specs.declared.messages.Change.TheVariants.{EventDelay, ActDelay, Passed, Recalled, Flipped, Adopted, Clock, Cancelled, Restored, Locked, Unlocked}
use Rattle.dm_rows.specs.Rows.{RowsValue}

-- the place of the pair that two event ids name, or None where an id is unknown or the two form no pair
abbrev pub named_pair : Net → EventId → EventId → Option ℕ
named_pair net i j =
    option_and_then (λ x. option_and_then (λ y. pair_place net x y) (event_place net j)) (event_place net i)

-- the first of two events, by place, goes first in their pair
abbrev pub first_named : Net → Option ℕ → Option ℕ → Option Flip
first_named net (Some x) (Some y) = option_map (λ p. FirstFlip p ((pair_at net p).small == x)) (pair_place net x y)
first_named net (Some x) None = None
first_named net None j = None

-- a decision by place, or None where what it names is not there
abbrev pub flip_named : Net → Decision → Option Flip
flip_named net (KeepIt a) = option_map (λ x. KeepFlip x) (activity_place net a)
flip_named net (DropIt a) = option_map (λ x. DropFlip x) (activity_place net a)
flip_named net (FirstOf i j) = first_named net (event_place net i) (event_place net j)

-- a choice by place, or None where what it names is not there; of a pair either id may stand first
abbrev pub spot_named : Net → Choice → Option Spot
spot_named net (ChangeOf a) = option_map (λ x. AtChange x) (activity_place net a)
spot_named net (PairOf i j) = option_map (λ p. AtPair p) (named_pair net i j)

-- the flips so far and one more
abbrev pub with_next : Option (List Flip) → Option Flip → Option (List Flip)
with_next (Some flips) (Some flip) = Some (flips ++ flip ∷ [])
with_next (Some flips) None = None
with_next None flip = None

-- each decision of a list by place, in order
abbrev pub flips_named : Net → List Decision → Option (List Flip)
flips_named net ds = fold (λ flips d. with_next flips (flip_named net d)) (Some []) ds

-- a message by place, or None where what it names is not there
abbrev pub change_named : Net → Message → Option Change
change_named net (DelayEvent e d) = option_map (λ i. EventDelay i d) (event_place net e)
change_named net (DelayActivity a d) = option_map (λ x. ActDelay x d) (activity_place net a)
change_named net (Pass e t) = option_map (λ i. Passed i t) (event_place net e)
change_named net (Recall e) = option_map (λ i. Recalled i) (event_place net e)
change_named net (Keep a) = option_map (λ flip. Flipped flip) (flip_named net (KeepIt a))
change_named net (Drop a) = option_map (λ flip. Flipped flip) (flip_named net (DropIt a))
change_named net (First i j) = option_map (λ flip. Flipped flip) (flip_named net (FirstOf i j))
change_named net (Adopt ds) = option_map (λ flips. Adopted flips) (flips_named net ds)
change_named net (Now t) = Some (Clock t)
change_named net (Cancel e) = option_map (λ i. Cancelled i) (event_place net e)
change_named net (Restore e) = option_map (λ i. Restored i) (event_place net e)
change_named net (Lock choice) = option_map (λ spot. Locked spot) (spot_named net choice)
change_named net (Unlock choice) = option_map (λ spot. Unlocked spot) (spot_named net choice)

-- the rows with one decision set
abbrev pub after_flip : RowsValue → Flip → RowsValue
after_flip rows (KeepFlip a) = record rows { kept = slice_set rows.kept a true }
after_flip rows (DropFlip a) = record rows { kept = slice_set rows.kept a false }
after_flip rows (FirstFlip p small) = record rows { small_first = slice_set rows.small_first p small }

-- the rows with one choice locked, or unlocked
abbrev pub after_lock : RowsValue → Spot → Bool → RowsValue
after_lock rows (AtChange a) locked = record rows { locked_changes = slice_set rows.locked_changes a locked }
after_lock rows (AtPair p) locked = record rows { locked_pairs = slice_set rows.locked_pairs p locked }

-- One row or the clock changes, and all else stays; an adopted list sets each of its decisions in turn. An event that passes is
-- no longer cancelled: what has happened goes before what was decided.
abbrev pub after_change : RowsValue → Change → RowsValue
after_change rows (EventDelay i d) = record rows { event_delays = slice_set rows.event_delays i d }
after_change rows (ActDelay a d) = record rows { act_delays = slice_set rows.act_delays a d }
after_change rows (Passed i t) =
    record rows { passed = slice_set rows.passed i (Some t); cancelled = slice_set rows.cancelled i false }
after_change rows (Recalled i) = record rows { passed = slice_set rows.passed i None }
after_change rows (Flipped flip) = after_flip rows flip
after_change rows (Adopted flips) = fold after_flip rows flips
after_change rows (Clock t) = record rows { clock = t }
after_change rows (Cancelled i) = record rows { cancelled = slice_set rows.cancelled i true }
after_change rows (Restored i) = record rows { cancelled = slice_set rows.cancelled i false }
after_change rows (Locked spot) = after_lock rows spot true
after_change rows (Unlocked spot) = after_lock rows spot false

abbrev pub after_named : RowsValue → Option Change → RowsValue
after_named rows (Some change) = after_change rows change
after_named rows None = rows

-- the rows after a message
abbrev pub after : Net → RowsValue → Message → RowsValue
after net rows m = after_named rows (change_named net m)
