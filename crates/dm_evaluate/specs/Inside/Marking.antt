-- What is marked where an event moves, and what is looked at and cleared where a violated choice is looked for.
use Rattle.std.specs.Prelude.{ℕ, ◌≡◌, ◌&&◌, ◌<◌, ◌≤◌, Bool, true, false, List, length, Option, Some, None}
use Rattle.dm_network.specs.Net.{Net, activity_at, is_change}
use Rattle.dm_marks.specs.Marked.{is_marked}
use Rattle.dm_priced.specs.Priced.{is_flagged, comes_too_early}
use Rattle.dm_paths.specs.RowsRead.{IsAmong}

-- beside the marks before, these places are marked
pub record MarksWhere (some : ℕ → Type 0) (before now : List Bool) : Type 0 where
  pub as_many : length now ≡ length before
  pub kept : (k : ℕ) → is_marked before k ≡ true → is_marked now k ≡ true
  pub marked : (k : ℕ) → some k → is_marked now k ≡ true

-- the activity is a change whose head comes too early
pub record IsEarlyChange (net : Net) (spans x : List ℕ) (a : ℕ) : Type 0 where
  pub change : is_change (activity_at net a).kind ≡ true
  pub early : comes_too_early net spans x a ≡ true

-- it is so, and is this one, or one of the first n of a row
pub record IsEarlyAt (net : Net) (spans x : List ℕ) (a b : ℕ) : Type 0 where
  pub here : b ≡ a
  pub early : IsEarlyChange net spans x b

pub record IsEarlyAmong (net : Net) (spans x row : List ℕ) (n b : ℕ) : Type 0 where
  pub among : IsAmong row n b
  pub early : IsEarlyChange net spans x b

-- the activity is a headway of the pair, and its head comes too early
pub record IsEarlyHeadway (net : Net) (spans x : List ℕ) (p a : ℕ) : Type 0 where
  pub of_pair : (activity_at net a).pair ≡ Some p
  pub early : comes_too_early net spans x a ≡ true

-- so is the activity, and one of the row into the event that it leaves
pub record IsEarlyBothWays (net : Net) (spans x into : List ℕ) (a p : ℕ) : Type 0 where
  pub there : IsEarlyHeadway net spans x p a
  pub back : ℕ
  pub among : IsAmong into (length into) back
  pub returns : IsEarlyHeadway net spans x p back

-- one of the first n activities of a row is so
pub record IsEarlyBothWaysAmong (net : Net) (spans x into row : List ℕ) (n p : ℕ) : Type 0 where
  pub out : ℕ
  pub among : IsAmong row n out
  pub both : IsEarlyBothWays net spans x into out p

-- there are n marks, and each flagged place that passes the test has its own
pub record AreMarksOf (flags : List Bool) (test : ℕ → Bool) (n : ℕ) (marks : List Bool) : Type 0 where
  pub as_many : length marks ≡ n
  pub each : (k : ℕ) → is_flagged flags k ≡ true → test k ≡ true → is_marked marks k ≡ true

-- marks are taken away, and none where a place passes the test
pub record Clears (test : ℕ → Bool) (before now : List Bool) : Type 0 where
  pub as_many : length now ≡ length before
  pub kept : (k : ℕ) → is_marked before k ≡ true → test k ≡ true → is_marked now k ≡ true

-- none of the places from one up to another is flagged and passes the test
abbrev pub NoneBetween : List Bool → (ℕ → Bool) → ℕ → ℕ → Type 0
NoneBetween flags test from end = (k : ℕ) → from ≤ k → k < end → (is_flagged flags k && test k) ≡ false

-- the first place from one on that is flagged and passes the test, or None where there is none
pub record IsFirst (flags : List Bool) (test : ℕ → Bool) (from n place : ℕ) : Type 0 where
  pub not_before : from ≤ place
  pub within : place < n
  pub flagged : is_flagged flags place ≡ true
  pub passes : test place ≡ true
  pub none : NoneBetween flags test from place

abbrev pub IsFirstOrNone : List Bool → (ℕ → Bool) → ℕ → ℕ → Option ℕ → Type 0
IsFirstOrNone flags test from n (Some place) = IsFirst flags test from n place
IsFirstOrNone flags test from n None = (k : ℕ) → from ≤ k → (is_flagged flags k && test k) ≡ false
