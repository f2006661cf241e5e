-- What a free choice is: a change or a pair that is still ahead, runs and is not locked.
use Rattle.std.proofs.Common.{◌≡◌, ℕ, Bool, true, false, not, ◌&&◌}
use Rattle.std.proofs.lemmas.Bool.{and_parts, and_from, not-true, not_from_false, or_parts}
use Rattle.dm_network.specs.Net.{Net, activity_at, pair_at, is_change}
use Rattle.dm_rows.specs.Rows.{RowsValue, is_cancelled, is_locked_change, is_locked_pair}
use Rattle.dm_rows.specs.Active.{has_passed, has_cancelled_end}
use Rattle.dm_rows.specs.Decide.{is_ahead, is_free_change, is_free_pair}

-- the activity is a change whose head has not passed, whose ends are not cancelled, and that is not locked
pub record IsFreeChangeAt (net : Net) (rows : RowsValue) (a : ℕ) : Type 0 where
  pub change : is_change (activity_at net a).kind ≡ true
  pub ahead : has_passed rows (activity_at net a).head ≡ false
  pub runs : has_cancelled_end net rows a ≡ false
  pub unlocked : is_locked_change rows a ≡ false

four : (c p e l : Bool) → (c && not p && not e && not l) ≡ true → (c ≡ true) × (p ≡ false) × (e ≡ false) × (l ≡ false)
four c p e l h =
    let locks = and_parts (c && not p && not e) (not l) h in
    let ends = and_parts (c && not p) (not e) locks.0 in
    let head = and_parts c (not p) ends.0 in
    (head.0, not-true p head.1, not-true e ends.1, not-true l locks.1)

pub free_change_is : (net : Net) (rows : RowsValue) (a : ℕ) → is_free_change net rows a ≡ true → IsFreeChangeAt net rows a
free_change_is net rows a h =
    let parts = four (is_change (activity_at net a).kind) (has_passed rows (activity_at net a).head) (has_cancelled_end net rows a)
    (is_locked_change rows a) h in
    record { change = parts.0; ahead = parts.1; runs = parts.2; unlocked = parts.3 }

pub is_free_change_where : (net : Net) (rows : RowsValue) (a : ℕ) → IsFreeChangeAt net rows a → is_free_change net rows a ≡ true
is_free_change_where net rows a f =
    let change : Bool = is_change (activity_at net a).kind in
    let passed : Bool = has_passed rows (activity_at net a).head in
    let ends : Bool = has_cancelled_end net rows a in
    and_from (change && not passed && not ends) (not (is_locked_change rows a))
    (and_from (change && not passed) (not ends) (and_from change (not passed) f.change (not_from_false passed f.ahead))
    (not_from_false ends f.runs))
    (not_from_false (is_locked_change rows a) f.unlocked)

-- neither end of the activity is cancelled
pub ends_run : (net : Net) (rows : RowsValue) (a : ℕ) → has_cancelled_end net rows a ≡ false →
    (is_cancelled rows (activity_at net a).tail ≡ false) × (is_cancelled rows (activity_at net a).head ≡ false)
ends_run net rows a h = or_parts (is_cancelled rows (activity_at net a).tail) (is_cancelled rows (activity_at net a).head) h

-- neither event of the pair has passed or is cancelled, and it is not locked
pub record IsFreePairAt (net : Net) (rows : RowsValue) (p : ℕ) : Type 0 where
  pub small_ahead : has_passed rows (pair_at net p).small ≡ false
  pub small_runs : is_cancelled rows (pair_at net p).small ≡ false
  pub large_ahead : has_passed rows (pair_at net p).large ≡ false
  pub large_runs : is_cancelled rows (pair_at net p).large ≡ false
  pub unlocked : is_locked_pair rows p ≡ false

ahead_is : (rows : RowsValue) (i : ℕ) → is_ahead rows i ≡ true → (has_passed rows i ≡ false) × (is_cancelled rows i ≡ false)
ahead_is rows i h =
    let both = and_parts (not (has_passed rows i)) (not (is_cancelled rows i)) h in
    (not-true (has_passed rows i) both.0, not-true (is_cancelled rows i) both.1)

ahead_where : (rows : RowsValue) (i : ℕ) → has_passed rows i ≡ false → is_cancelled rows i ≡ false → is_ahead rows i ≡ true
ahead_where rows i ahead runs =
    and_from (not (has_passed rows i)) (not (is_cancelled rows i)) (not_from_false (has_passed rows i) ahead)
    (not_from_false (is_cancelled rows i) runs)

pub free_pair_is : (net : Net) (rows : RowsValue) (p : ℕ) → is_free_pair net rows p ≡ true → IsFreePairAt net rows p
free_pair_is net rows p h =
    let small : ℕ = (pair_at net p).small in
    let large : ℕ = (pair_at net p).large in
    let locks = and_parts (is_ahead rows small && is_ahead rows large) (not (is_locked_pair rows p)) h in
    let both = and_parts (is_ahead rows small) (is_ahead rows large) locks.0 in
    let one = ahead_is rows small both.0 in
    let other = ahead_is rows large both.1 in
    record {
      small_ahead = one.0;
      small_runs = one.1;
      large_ahead = other.0;
      large_runs = other.1;
      unlocked = not-true (is_locked_pair rows p) locks.1;
    }

pub is_free_pair_where : (net : Net) (rows : RowsValue) (p : ℕ) → IsFreePairAt net rows p → is_free_pair net rows p ≡ true
is_free_pair_where net rows p f =
    let small : ℕ = (pair_at net p).small in
    let large : ℕ = (pair_at net p).large in
    and_from (is_ahead rows small && is_ahead rows large) (not (is_locked_pair rows p))
    (and_from (is_ahead rows small) (is_ahead rows large) (ahead_where rows small f.small_ahead f.small_runs)
    (ahead_where rows large f.large_ahead f.large_runs))
    (not_from_false (is_locked_pair rows p) f.unlocked)
