-- A timetable with its price: which events have passed or are cancelled, which activities are charged for, and what this costs.
use Rattle.std.specs.Prelude.{ℕ, ◌≡◌, ◌+◌, ◌*◌, ◌&&◌, ◌||◌, ◌<◌, not, nat_lt, Bool, true, false, List, length, slice_index, slice_index_or, sum_by, if◌then◌else◌}
use Rattle.std.specs.List.{range_with_len}
use Rattle.dm_live.specs.Live.{LiveValue, IsLive}
use Rattle.dm_network.specs.Net.{Net, event_at, activity_at, is_change}
use Rattle.dm_rows.specs.Active.{has_passed}
use Rattle.dm_rows.specs.Cost.{is_arrival, lateness, charged_weight}
use Rattle.dm_rows.specs.Rows.{RowsValue, is_cancelled}
use Rattle.dm_rows.specs.Timetable.{time_at, span_of}

abbrev pub is_flagged : List Bool → ℕ → Bool
is_flagged flags k = slice_index_or flags k false

-- the head of an activity comes before its tail and its span allow
abbrev pub comes_too_early : Net → List ℕ → List ℕ → ℕ → Bool
comes_too_early net spans x a =
    nat_lt (time_at x (activity_at net a).head) (time_at x (activity_at net a).tail + slice_index spans a)

-- the weight of a change that its passed head has missed: it came too early, or the tail is cancelled
abbrev pub missed_weight : Net → List Bool → List Bool → List ℕ → List ℕ → ℕ → ℕ
missed_weight net passed cancelled spans x a =
    if is_change (activity_at net a).kind && is_flagged passed (activity_at net a).head
    && (is_flagged cancelled (activity_at net a).tail || comes_too_early net spans x a)
    then (activity_at net a).weight else 0

-- the weight of an arrival that is not cancelled times its lateness, and that of one that is
abbrev pub late_weight : Net → List Bool → List ℕ → ℕ → ℕ
late_weight net cancelled x i =
    if is_arrival (event_at net i).kind && not (is_flagged cancelled i) then (event_at net i).weight * lateness net x i else 0

abbrev pub lost_weight : Net → List Bool → ℕ → ℕ
lost_weight net cancelled i =
    if is_arrival (event_at net i).kind && is_flagged cancelled i then (event_at net i).weight else 0

-- weight times lateness over the arrivals that are not cancelled, and the weights of the cancelled ones, of the activities that are
-- charged for and of the changes missed
abbrev pub lateness_of : Net → List Bool → List ℕ → ℕ
lateness_of net cancelled x = sum_by (late_weight net cancelled x) (range_with_len 0 (length net.events))

abbrev pub cancelled_of : Net → List Bool → ℕ
cancelled_of net cancelled = sum_by (lost_weight net cancelled) (range_with_len 0 (length net.events))

abbrev pub charged_of : Net → List Bool → ℕ
charged_of net charged = sum_by (charged_weight net (is_flagged charged)) (range_with_len 0 (length net.activities))

abbrev pub missed_of : Net → List Bool → List Bool → List ℕ → List ℕ → ℕ
missed_of net passed cancelled spans x =
    sum_by (missed_weight net passed cancelled spans x) (range_with_len 0 (length net.activities))

-- the three sums; the cancelled arrivals are among what is charged
pub record SumsValue : Type 0 where
  pub lateness : ℕ
  pub charged : ℕ
  pub missed : ℕ

-- The flags take in each event that has passed or is cancelled, and the tail of each change whose head has passed.
pub record FlagsBeside (net : Net) (passed cancelled beside : List Bool) : Type 0 where
  pub as_many : length beside ≡ length net.events
  pub events : (i : ℕ) → is_flagged passed i ≡ true → is_flagged beside i ≡ true
  pub of_cancelled : (i : ℕ) → is_flagged cancelled i ≡ true → is_flagged beside i ≡ true
  pub tails : (a : ℕ) → a < length net.activities → is_change (activity_at net a).kind ≡ true →
      is_flagged passed (activity_at net a).head ≡ true → is_flagged beside (activity_at net a).tail ≡ true

-- a timetable, the events that have passed, those that are cancelled, those that are flagged beside them, the activities that
-- are charged for, and the sums
pub record PricedValue : Type 0 where
  pub live : LiveValue
  pub passed : List Bool
  pub cancelled : List Bool
  pub beside : List Bool
  pub charged : List Bool
  pub sums : SumsValue

-- The timetable is the network's, so are the flags, and the sums are what its times cost.
pub record IsPriced (net : Net) (priced : PricedValue) : Type 0 where
  pub live : IsLive net priced.live
  pub as_many_passed : length priced.passed ≡ length net.events
  pub as_many_cancelled : length priced.cancelled ≡ length net.events
  pub flags_beside : FlagsBeside net priced.passed priced.cancelled priced.beside
  pub as_many_charged : length priced.charged ≡ length net.activities
  pub lateness : priced.sums.lateness ≡ lateness_of net priced.cancelled priced.live.times
  pub charged : priced.sums.charged ≡ cancelled_of net priced.cancelled + charged_of net priced.charged
  pub missed : priced.sums.missed ≡ missed_of net priced.passed priced.cancelled priced.live.given.spans priced.live.times

-- What it costs: weight times lateness over the arrivals that are not cancelled, and the penalty for each that is, for each
-- activity that is charged for and for each change that its passed head has missed.
abbrev pub priced_cost : Net → PricedValue → ℕ → ℕ
priced_cost net priced penalty =
    lateness_of net priced.cancelled priced.live.times
    + penalty * cancelled_of net priced.cancelled
    + penalty * charged_of net priced.charged
    + penalty * missed_of net priced.passed priced.cancelled priced.live.given.spans priced.live.times

-- the flags are those of rows, and of a charge, and the spans are those of the rows
pub record FollowsPrice (net : Net) (rows : RowsValue) (charges : ℕ → Bool) (priced : PricedValue) : Type 0 where
  pub passed : (i : ℕ) → i < length net.events → is_flagged priced.passed i ≡ has_passed rows i
  pub cancelled : (i : ℕ) → i < length net.events → is_flagged priced.cancelled i ≡ is_cancelled rows i
  pub charged : (a : ℕ) → a < length net.activities → is_flagged priced.charged a ≡ charges a
  pub spans : (a : ℕ) → a < length net.activities → slice_index priced.live.given.spans a ≡ span_of net rows a
