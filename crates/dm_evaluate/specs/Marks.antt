-- Marks of the choices that times do not keep, whether a path decides them or not.
use Rattle.std.specs.Prelude.{ℕ, ◌≡◌, ◌<◌, Bool, true, List, length, Some}
use Rattle.dm_network.specs.Net.{Net, activity_at, pair_at, is_change}
use Rattle.dm_marks.specs.Marked.{is_marked}
use Rattle.dm_priced.specs.Priced.{comes_too_early}

-- which activities that are changes, and which pairs, are marked
pub record MarksValue : Type 0 where
  pub changes : List Bool
  pub pairs : List Bool

-- the activity is a headway of the pair out of this event, and its head comes too early
pub record IsUnmetHeadway (net : Net) (spans x : List ℕ) (p tail a : ℕ) : Type 0 where
  pub is_activity : a < length net.activities
  pub of_pair : (activity_at net a).pair ≡ Some p
  pub leaves : (activity_at net a).tail ≡ tail
  pub early : comes_too_early net spans x a ≡ true

-- neither direction of the pair has all its headways met
pub record IsUnmetPair (net : Net) (spans x : List ℕ) (p : ℕ) : Type 0 where
  pub there : ℕ
  pub back : ℕ
  pub from_small : IsUnmetHeadway net spans x p (pair_at net p).small there
  pub from_large : IsUnmetHeadway net spans x p (pair_at net p).large back

-- Every change whose head comes too early is marked, and every pair of which neither direction has all its headways met.
-- There may be more marks.
pub record MarksUnkept (net : Net) (spans x : List ℕ) (marks : MarksValue) : Type 0 where
  pub as_many_changes : length marks.changes ≡ length net.activities
  pub as_many_pairs : length marks.pairs ≡ length net.pairs
  pub changes : (a : ℕ) → a < length net.activities → is_change (activity_at net a).kind ≡ true →
      comes_too_early net spans x a ≡ true → is_marked marks.changes a ≡ true
  pub pairs : (p : ℕ) → p < length net.pairs → IsUnmetPair net spans x p → is_marked marks.pairs p ≡ true
