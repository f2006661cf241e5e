-- The rows of a day, by place, and those at the start.
use Rattle.std.specs.Prelude.{ℕ, ◌≡◌, ◌==◌, ◌≤◌, Bool, true, false, List, length, map, fold, replicate, Option, Some, None, slice_index_or, if◌then◌else◌}
use Rattle.std.specs.List.{range_with_len, list_any}
use Rattle.std.specs.Option.{ForSome}
use Rattle.dm_base.specs.declared.rows.DelayRow.{DelayRow}
use Rattle.dm_base.specs.declared.limits.TheConstants.{DELAY, PASSED_TIME}
use Rattle.dm_network.specs.Net.{Net, event_at, activity_at}
use Rattle.dm_network.specs.Start.{starts_small_first}

-- a source delay for each event and each activity, the time at which an event has passed and whether it is cancelled, whether
-- an activity is kept and whether it is locked (which matters for changes alone), of each pair whether the event with the
-- smaller id is first and whether the pair is locked, and the clock: the time before which no event lies that has not passed
pub record RowsValue : Type 0 where
  pub event_delays : List ℕ
  pub act_delays : List ℕ
  pub passed : List (Option ℕ)
  pub cancelled : List Bool
  pub kept : List Bool
  pub locked_changes : List Bool
  pub small_first : List Bool
  pub locked_pairs : List Bool
  pub clock : ℕ

abbrev pub event_delay_at : RowsValue → ℕ → ℕ
event_delay_at rows i = slice_index_or rows.event_delays i 0

abbrev pub act_delay_at : RowsValue → ℕ → ℕ
act_delay_at rows a = slice_index_or rows.act_delays a 0

-- the time at which the event has passed, or None
abbrev pub passed_at : RowsValue → ℕ → Option ℕ
passed_at rows i = slice_index_or rows.passed i None

abbrev pub is_cancelled : RowsValue → ℕ → Bool
is_cancelled rows i = slice_index_or rows.cancelled i false

abbrev pub kept_at : RowsValue → ℕ → Bool
kept_at rows a = slice_index_or rows.kept a true

abbrev pub small_first_at : RowsValue → ℕ → Bool
small_first_at rows p = slice_index_or rows.small_first p true

-- nobody may change the decision on the change, on the pair
abbrev pub is_locked_change : RowsValue → ℕ → Bool
is_locked_change rows a = slice_index_or rows.locked_changes a false

abbrev pub is_locked_pair : RowsValue → ℕ → Bool
is_locked_pair rows p = slice_index_or rows.locked_pairs p false

-- the lists are as long as the network's
pub record IsSized (net : Net) (rows : RowsValue) : Type 0 where
  pub event_delays : length rows.event_delays ≡ length net.events
  pub act_delays : length rows.act_delays ≡ length net.activities
  pub passed : length rows.passed ≡ length net.events
  pub cancelled : length rows.cancelled ≡ length net.events
  pub kept : length rows.kept ≡ length net.activities
  pub locked_changes : length rows.locked_changes ≡ length net.activities
  pub small_first : length rows.small_first ≡ length net.pairs
  pub locked_pairs : length rows.locked_pairs ≡ length net.pairs

-- the lists of two rows are as long as each other, as where both are of one network
pub record AreAsLong (rows other : RowsValue) : Type 0 where
  pub event_delays : length rows.event_delays ≡ length other.event_delays
  pub act_delays : length rows.act_delays ≡ length other.act_delays
  pub passed : length rows.passed ≡ length other.passed
  pub cancelled : length rows.cancelled ≡ length other.cancelled
  pub kept : length rows.kept ≡ length other.kept
  pub locked_changes : length rows.locked_changes ≡ length other.locked_changes
  pub small_first : length rows.small_first ≡ length other.small_first
  pub locked_pairs : length rows.locked_pairs ≡ length other.locked_pairs

-- delays are at most DELAY, and passed times and the clock at most PASSED_TIME
pub record NumbersAreWithinLimits (event_delays act_delays : List ℕ) (passed : List (Option ℕ)) (clock : ℕ) : Type 0 where
  pub of_events : (i : ℕ) → slice_index_or event_delays i 0 ≤ DELAY
  pub of_activities : (a : ℕ) → slice_index_or act_delays a 0 ≤ DELAY
  pub of_passed : (i : ℕ) → ForSome (slice_index_or passed i None) (λ t. t ≤ PASSED_TIME)
  pub of_clock : clock ≤ PASSED_TIME

abbrev pub RowsAreWithinLimits : RowsValue → Type 0
RowsAreWithinLimits rows = NumbersAreWithinLimits rows.event_delays rows.act_delays rows.passed rows.clock

-- no event has both passed and is cancelled
abbrev pub NoneIsBoth : List (Option ℕ) → List Bool → Type 0
NoneIsBoth passed cancelled =
    (i t : ℕ) → slice_index_or passed i None ≡ Some t → slice_index_or cancelled i false ≡ false

-- the delay in the last record of this id, or 0 where there is none
abbrev pub last_delay : List DelayRow → ℕ → ℕ
last_delay records id = fold (λ delay row. if row.id == id then row.delay else delay) 0 records

-- At the start the delays are those of the records, no event has passed or is cancelled, every change is kept, of each pair
-- the event with the smaller scheduled time is first, the one with the smaller id on a tie, no choice is locked, and the clock
-- is 0.
abbrev pub start_rows_of : Net → List DelayRow → List DelayRow → RowsValue
start_rows_of net events activities =
    record {
      event_delays = map (λ i. last_delay events (event_at net i).id.0) (range_with_len 0 (length net.events));
      act_delays = map (λ a. last_delay activities (activity_at net a).id.0) (range_with_len 0 (length net.activities));
      passed = replicate (length net.events) None;
      cancelled = replicate (length net.events) false;
      kept = replicate (length net.activities) true;
      locked_changes = replicate (length net.activities) false;
      small_first = map (starts_small_first net) (range_with_len 0 (length net.pairs));
      locked_pairs = replicate (length net.pairs) false;
      clock = 0;
    }

-- the number is among the ids
abbrev pub is_listed : List ℕ → ℕ → Bool
is_listed ids number = list_any (λ id. id == number) ids

-- the same start rows, in which the events with these ids are cancelled
abbrev pub start_rows_without : Net → List DelayRow → List DelayRow → List ℕ → RowsValue
start_rows_without net events activities ids =
    record (start_rows_of net events activities) {
      cancelled = map (λ i. is_listed ids (event_at net i).id.0) (range_with_len 0 (length net.events));
    }
