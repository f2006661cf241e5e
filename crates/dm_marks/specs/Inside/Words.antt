-- Words of bits that stand for marks, and what a search passes over.
use Rattle.std.specs.Prelude.{ℕ, ◌≡◌, ◌≢◌, ◌*◌, ◌/◌, ◌%◌, ◌^◌, ◌<◌, ◌≤◌, Bool, true, List, length, slice_index}
use Rattle.std.specs.Int.{bit_at}
use Rattle.dm_marks.specs.declared.marks.TheConstants.{WORD}
use Rattle.dm_marks.specs.Marked.{is_marked}

-- the bit of a place
abbrev pub bit_of : List ℕ → ℕ → ℕ
bit_of words place = bit_at (slice_index words (place / WORD)) (place % WORD)

-- the bit of a place is set or taken back, and no other is
pub record Turns (before after : List ℕ) (place bit : ℕ) : Type 0 where
  pub as_many : length after ≡ length before
  pub here : bit_of after place ≡ bit
  pub others : (k : ℕ) → k ≢ place → bit_of after k ≡ bit_of before k

-- the number of each bit is a number of the machine
abbrev pub AreFew : List ℕ → Type 0
AreFew words = WORD * length words < 2 ^ 64

-- the bits of places are set just where these are marked
pub record AreBits (marks : List Bool) (words : List ℕ) : Type 0 where
  pub as_many : length marks ≤ WORD * length words
  pub few : WORD * length words < 2 ^ 64
  pub marked : (place : ℕ) → is_marked marks place ≡ true → bit_of words place ≡ 1
  pub set : (place : ℕ) → bit_of words place ≡ 1 → is_marked marks place ≡ true

-- each word that has a bit is one of which the group's bit is set
pub record AreCovered (words groups : List ℕ) : Type 0 where
  pub as_many : length words ≤ WORD * length groups
  pub few : WORD * length groups < 2 ^ 64
  pub covers : (place : ℕ) → bit_of words place ≡ 1 → bit_of groups (place / WORD) ≡ 1
  pub within : (word : ℕ) → bit_of groups word ≡ 1 → word < length words

-- no bit is set from one up to another
abbrev pub NoBitBetween : List ℕ → ℕ → ℕ → Type 0
NoBitBetween words from end = (k : ℕ) → from ≤ k → k < end → bit_of words k ≡ 0

-- no bit is set from one on
abbrev pub NoBitFrom : List ℕ → ℕ → Type 0
NoBitFrom words from = (k : ℕ) → from ≤ k → bit_of words k ≡ 0

-- a bit is the first that is set from one on
pub record IsFirstBit (words : List ℕ) (from place : ℕ) : Type 0 where
  pub not_before : from ≤ place
  pub within : place < WORD * length words
  pub set : bit_of words place ≡ 1
  pub none_between : NoBitBetween words from place
