-- What the standing of an event, as the code keeps it, says of it.
use Rattle.std.specs.Prelude.{ℕ, Bool, true, false, List, length, map, slice_set, Option, Some, None}
use Rattle.std.specs.List.{range_with_len}
use Rattle.dm_network.specs.Net.{Net}
use Rattle.dm_rows.specs.Rows.{RowsValue}
use Rattle.dm_network.specs.Start.{starts_small_first}
use Rattle.dm_rows.specs.declared.rows.Decided.{Decided}
use Rattle.dm_rows.specs.declared.rows.Standing.{Standing}
use Rattle.dm_rows.specs.declared.rows.Standing.TheVariants.{Ahead, Passed, Cancelled}

-- the time at which it has passed, or None
abbrev pub passed_of : Standing → Option ℕ
passed_of Ahead = None
passed_of (Passed t) = Some t
passed_of Cancelled = None

-- it is cancelled
abbrev pub is_cancelled_of : Standing → Bool
is_cancelled_of Ahead = false
is_cancelled_of (Passed t) = false
is_cancelled_of Cancelled = true

-- a choice at the start: this is the first of its decisions that holds or not, and it is not locked
abbrev pub decided_at_start : Bool → Decided
decided_at_start first = record { first = first; locked = false }

-- each pair at the start
abbrev pub pairs_at_start : Net → List Decided
pairs_at_start net = map (λ p. decided_at_start (starts_small_first net p)) (range_with_len 0 (length net.pairs))

-- the rows that these lists and this clock keep
abbrev pub rows_of : List ℕ → List ℕ → List Standing → List Decided → List Decided → ℕ → RowsValue
rows_of event_delays act_delays standings changes pairs clock =
    record {
      event_delays = event_delays;
      act_delays = act_delays;
      passed = map passed_of standings;
      cancelled = map is_cancelled_of standings;
      kept = map (λ d. d.first) changes;
      locked_changes = map (λ d. d.locked) changes;
      small_first = map (λ d. d.first) pairs;
      locked_pairs = map (λ d. d.locked) pairs;
      clock = clock;
    }

-- the rows where the event stands so, where the change, the pair is decided so
abbrev pub with_standing : RowsValue → ℕ → Standing → RowsValue
with_standing rows i s =
    record rows { passed = slice_set rows.passed i (passed_of s); cancelled = slice_set rows.cancelled i (is_cancelled_of s) }

abbrev pub with_change : RowsValue → ℕ → Bool → Bool → RowsValue
with_change rows a first locked =
    record rows { kept = slice_set rows.kept a first; locked_changes = slice_set rows.locked_changes a locked }

abbrev pub with_pair : RowsValue → ℕ → Bool → Bool → RowsValue
with_pair rows p first locked =
    record rows { small_first = slice_set rows.small_first p first; locked_pairs = slice_set rows.locked_pairs p locked }

-- and where one of both alone is set
abbrev pub with_kept : RowsValue → ℕ → Bool → RowsValue
with_kept rows a kept = record rows { kept = slice_set rows.kept a kept }

abbrev pub with_first : RowsValue → ℕ → Bool → RowsValue
with_first rows p small = record rows { small_first = slice_set rows.small_first p small }

abbrev pub with_locked_change : RowsValue → ℕ → Bool → RowsValue
with_locked_change rows a locked = record rows { locked_changes = slice_set rows.locked_changes a locked }

abbrev pub with_locked_pair : RowsValue → ℕ → Bool → RowsValue
with_locked_pair rows p locked = record rows { locked_pairs = slice_set rows.locked_pairs p locked }
