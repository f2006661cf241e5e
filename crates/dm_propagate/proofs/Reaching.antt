-- Changes that are in range for rows of the same sizes.
use Rattle.std.proofs.Common.{◌≡◌, refl, ap, ℕ, ◌<◌, None, length, subst, arith, ◌∙◌, sym}
use Rattle.dm_network.specs.Net.{Net}
use Rattle.dm_rows.specs.Resolve.{after_change}
use Rattle.dm_rows.specs.Reach.{Reaches, ReachesFlip, ReachesSpot}
use Rattle.dm_rows.specs.Rows.{RowsValue, IsSized, passed_at}
use Rattle.dm_rows.specs.declared.messages.Spot.{Spot}
use Rattle.dm_rows.specs.declared.messages.Spot.TheVariants.{Change as AtChange, Pair as AtPair}
use Rattle.dm_rows.specs.declared.messages.Flip.{Flip}
use Rattle.dm_rows.specs.declared.messages.Flip.TheVariants.{Keep, Drop, First}
use Rattle.dm_rows.specs.declared.messages.Change.{Change}
use Rattle.dm_rows.specs.declared.messages.Change.TheVariants.{EventDelay, ActDelay, Passed, Recalled, Flipped, Adopted, Clock, Cancelled, Restored, Locked, Unlocked}
use Rattle.dm_propagate.specs.Inside.Flags.{MovesPass}

module _ (net : Net) (rows other : RowsValue) (sized : IsSized net rows) (alike : IsSized net other) where
  spot_reaches : (spot : Spot) → ReachesSpot rows spot → ReachesSpot other spot
  spot_reaches (AtChange a) h = let s = sized.locked_changes in let o = alike.locked_changes in omega arith
  spot_reaches (AtPair p) h = let s = sized.locked_pairs in let o = alike.locked_pairs in omega arith

  flip_reaches : (flip : Flip) → ReachesFlip rows flip → ReachesFlip other flip
  flip_reaches (Keep a) h = let s = sized.kept in let o = alike.kept in omega arith
  flip_reaches (Drop a) h = let s = sized.kept in let o = alike.kept in omega arith
  flip_reaches (First p small) h = let s = sized.small_first in let o = alike.small_first in omega arith

  pub reaches_alike : (change : Change) → ((i : ℕ) → change ≡ Cancelled i → passed_at rows i ≡ None → passed_at other i ≡ None) → Reaches rows change → Reaches other change
  reaches_alike (EventDelay i d) same h = let s = sized.event_delays in let o = alike.event_delays in (omega (arith, h.0), h.1)
  reaches_alike (ActDelay a d) same h = let s = sized.act_delays in let o = alike.act_delays in (omega (arith, h.0), h.1)
  reaches_alike (Passed i t) same h = let s = sized.passed in let o = alike.passed in (omega (arith, h.0), h.1)
  reaches_alike (Recalled i) same h = let s = sized.passed in let o = alike.passed in omega arith
  reaches_alike (Flipped flip) same h = flip_reaches flip h
  reaches_alike (Adopted flips) same h = λ k d lt. flip_reaches _ (h k d lt)
  reaches_alike (Clock t) same h = h
  reaches_alike (Cancelled i) same h = let s = sized.cancelled in let o = alike.cancelled in (omega (arith, h.0), same i refl h.1)
  reaches_alike (Restored i) same h = let s = sized.cancelled in let o = alike.cancelled in omega arith
  reaches_alike (Locked spot) same h = spot_reaches spot h
  reaches_alike (Unlocked spot) same h = spot_reaches spot h

-- a cancelling leaves the passed times
pub cancel_keeps_passed : (rows other : RowsValue) (change : Change) → other ≡ after_change rows change → (i : ℕ) → change ≡ Cancelled i →
    passed_at rows i ≡ None → passed_at other i ≡ None
cancel_keeps_passed rows other change is i cancels none =
    ap (λ (r : RowsValue). passed_at r i) (is ∙ ap (after_change rows) cancels) ∙ none

pub delay_is_reached : (rows : RowsValue) (change : Change) → Reaches rows change → (i d : ℕ) → change ≡ EventDelay i d → i < length rows.event_delays
delay_is_reached rows change reaches i d is = let h : Reaches rows (EventDelay i d) = subst (Reaches rows) is reaches in h.0

pub act_is_reached : (rows : RowsValue) (change : Change) → Reaches rows change → (a d : ℕ) → change ≡ ActDelay a d → a < length rows.act_delays
act_is_reached rows change reaches a d is = let h : Reaches rows (ActDelay a d) = subst (Reaches rows) is reaches in h.0

pub event_is_reached : (rows : RowsValue) (change : Change) → Reaches rows change → (i t : ℕ) → change ≡ Passed i t → i < length rows.passed
event_is_reached rows change reaches i t is = let h : Reaches rows (Passed i t) = subst (Reaches rows) is reaches in h.0

pub recall_is_reached : (rows : RowsValue) (change : Change) → Reaches rows change → (i : ℕ) → change ≡ Recalled i → i < length rows.passed
recall_is_reached rows change reaches i is = subst (Reaches rows) is reaches

pub cancel_is_reached : (rows : RowsValue) (change : Change) → Reaches rows change → (i : ℕ) → change ≡ Cancelled i →
    (i < length rows.cancelled) × (passed_at rows i ≡ None)
cancel_is_reached rows change reaches i is = subst (Reaches rows) is reaches

pub restore_is_reached : (rows : RowsValue) (change : Change) → Reaches rows change → (i : ℕ) → change ≡ Restored i → i < length rows.cancelled
restore_is_reached rows change reaches i is = subst (Reaches rows) is reaches

pub pass_is_reached : (net : Net) (rows : RowsValue) (change : Change) → IsSized net rows → Reaches rows change → (i : ℕ) → MovesPass change i → i < length rows.passed
pass_is_reached net rows (EventDelay e d) sized h i moves = absurd moves
pass_is_reached net rows (ActDelay a d) sized h i moves = absurd moves
pass_is_reached net rows (Passed e t) sized h i moves = let below = h.0 in omega arith
pass_is_reached net rows (Recalled e) sized h i moves = omega arith
pass_is_reached net rows (Flipped flip) sized h i moves = absurd moves
pass_is_reached net rows (Adopted flips) sized h i moves = absurd moves
pass_is_reached net rows (Clock t) sized h i moves = absurd moves
pass_is_reached net rows (Cancelled e) sized h i moves = let below = h.0 in let size = sized.cancelled ∙ sym sized.passed in omega arith
pass_is_reached net rows (Restored e) sized h i moves = let size = sized.cancelled ∙ sym sized.passed in omega arith
pass_is_reached net rows (Locked spot) sized h i moves = absurd moves
pass_is_reached net rows (Unlocked spot) sized h i moves = absurd moves
