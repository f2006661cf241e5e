-- Where the events of an interval go, when those reached are moved behind the others.
use Rattle.std.specs.Prelude.{ℕ, zero, suc, ◌≡◌, ◌+◌, ◌<◌, ◌≤◌, ◌⊎◌, Bool, List, length, Option, slice_index, if◌then◌else◌}
use Rattle.dm_order.specs.Inside.Reaching.{is_reached}

-- how many of the numbers below m pass, and how many do not
abbrev pub passing : (ℕ → Bool) → ℕ → ℕ
passing p zero = 0
passing p (suc m) = passing p m + (if p m then 1 else 0)

abbrev pub failing : (ℕ → Bool) → ℕ → ℕ
failing p zero = 0
failing p (suc m) = failing p m + (if p m then 0 else 1)

-- where a number goes, when those that pass are moved behind the others, each kind in its order
abbrev pub moved : (ℕ → Bool) → ℕ → ℕ → ℕ
moved p count i = if p i then failing p count + passing p i else failing p i

-- whether the event at a place from the first of an interval on was reached
abbrev pub reached_from : List (Option ℕ) → ℕ → ℕ → Bool
reached_from causes low i = is_reached causes (low + i)

-- the places of the events of the first m places of an interval are given anew, and those of all others are as before
pub record AreRankedAnew (p : ℕ → Bool) (order : List ℕ) (low count m : ℕ) (before now : List ℕ) : Type 0 where
  pub as_many : length now ≡ length before
  pub anew : (i : ℕ) → i < m → slice_index now (slice_index order (low + i)) ≡ low + moved p count i
  pub others : (e : ℕ) → ((i : ℕ) → i < m → slice_index order (low + i) ≡ e → ⊥) → slice_index now e ≡ slice_index before e

-- the first m places of an interval are copied
pub record AreCopied (order : List ℕ) (low m : ℕ) (spare : List ℕ) : Type 0 where
  pub copied : (i : ℕ) → i < m → slice_index spare i ≡ slice_index order (low + i)

-- the copied events are events, and their places are different places of the interval
pub record MayBePut (low count n : ℕ) (ranks spare : List ℕ) : Type 0 where
  pub room : count ≤ length spare
  pub within : low + count ≤ n
  pub rank_count : length ranks ≡ n
  pub is_event : (i : ℕ) → i < count → slice_index spare i < n
  pub not_before : (i : ℕ) → i < count → low ≤ slice_index ranks (slice_index spare i)
  pub not_behind : (i : ℕ) → i < count → slice_index ranks (slice_index spare i) < low + count
  pub apart : (i j : ℕ) → i < j → j < count → slice_index ranks (slice_index spare i) ≡ slice_index ranks (slice_index spare j) → ⊥

-- the first m copied events stand at their places, and outside of the interval each place is as before
pub record ArePut (low count m : ℕ) (ranks spare before now : List ℕ) : Type 0 where
  pub as_many : length now ≡ length before
  pub put : (i : ℕ) → i < m → slice_index now (slice_index ranks (slice_index spare i)) ≡ slice_index spare i
  pub outside : (k : ℕ) → (k < low) ⊎ (low + count ≤ k) → slice_index now k ≡ slice_index before k

-- the events of the first m places of an interval are put where they go, and outside of it each place is as before
pub record ArePutAnew (p : ℕ → Bool) (low count m : ℕ) (before now : List ℕ) : Type 0 where
  pub as_many : length now ≡ length before
  pub put : (i : ℕ) → i < m → slice_index now (low + moved p count i) ≡ slice_index before (low + i)
  pub outside : (k : ℕ) → (k < low) ⊎ (low + count ≤ k) → slice_index now k ≡ slice_index before k
