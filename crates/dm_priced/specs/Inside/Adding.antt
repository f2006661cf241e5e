-- What one event and one activity add to the sums, and the limits of these.
use Rattle.std.specs.Prelude.{ℕ, ◌≡◌, ◌+◌, ◌-◌, ◌*◌, ◌^◌, ◌&&◌, ◌||◌, ◌<◌, ◌≤◌, not, nat_lt, Bool, true, false, List, length, take, slice_index, sum_by, if◌then◌else◌}
use Rattle.std.specs.List.{range_with_len}
use Rattle.dm_base.specs.declared.limits.TheConstants.{EVENTS, ACTIVITIES, WEIGHT}
use Rattle.dm_network.specs.Net.{Net, event_at, activity_at, is_change}
use Rattle.dm_rows.specs.Cost.{is_arrival}
use Rattle.dm_settle.specs.Moving.{times_after}
use Rattle.dm_settle.specs.declared.moving.Move.{Move}
use Rattle.dm_priced.specs.Priced.{SumsValue, FlagsBeside, is_flagged, lateness_of, missed_of, missed_weight}
use Rattle.dm_priced.specs.declared.adding.EventFlags.{EventFlags}

-- what the lateness of an event costs at a time
abbrev pub cost_at : Net → ℕ → ℕ → ℕ
cost_at net i time = if is_arrival (event_at net i).kind then (event_at net i).weight * (time - (event_at net i).time) else 0

-- the same unless it is cancelled, and the weight of an arrival that is
abbrev pub late_at : Net → Bool → ℕ → ℕ → ℕ
late_at net cancelled i time =
    if is_arrival (event_at net i).kind && not cancelled then (event_at net i).weight * (time - (event_at net i).time) else 0

abbrev pub lost_at : Net → Bool → ℕ → ℕ
lost_at net cancelled i = if is_arrival (event_at net i).kind && cancelled then (event_at net i).weight else 0

-- the weight of a change, if its head has passed, and its tail is cancelled or the head comes before its tail and this span allow
abbrev pub missed_at : Net → List Bool → List Bool → ℕ → ℕ → ℕ → ℕ → ℕ
missed_at net passed cancelled a tail head span =
    if is_change (activity_at net a).kind && is_flagged passed (activity_at net a).head
    && (is_flagged cancelled (activity_at net a).tail || nat_lt head (tail + span))
    then (activity_at net a).weight else 0

-- there is a flag of each kind for each event
pub record AreAsMany (net : Net) (passed cancelled : List Bool) : Type 0 where
  pub of_passed : length passed ≡ length net.events
  pub of_cancelled : length cancelled ≡ length net.events

abbrev pub AreFlagsOf : Net → EventFlags → Type 0
AreFlagsOf net flags = AreAsMany net flags.passed.now flags.cancelled.now

-- what an activity adds to the weight of the changes missed, at these times, and before and after a move
abbrev pub misses_at : Net → EventFlags → List ℕ → List ℕ → ℕ → ℕ
misses_at net flags spans x a = missed_weight net flags.passed.now flags.cancelled.now spans x a

abbrev pub misses_before : Net → EventFlags → Move → ℕ → ℕ
misses_before net flags to a = misses_at net flags to.constraints.now.spans to.times.now a

abbrev pub misses_after : Net → EventFlags → Move → ℕ → ℕ
misses_after net flags to a = misses_at net flags to.constraints.now.spans (times_after to) a

-- the weight of an activity, missed if its tail and head have these times and it has this span
abbrev pub misses_with : Net → EventFlags → ℕ → ℕ → ℕ → ℕ → ℕ
misses_with net flags a tail head span = missed_at net flags.passed.now flags.cancelled.now a tail head span

-- the sums of the times are known
pub record AreKnown (net : Net) (passed cancelled beside : List Bool) (spans x : List ℕ) (lateness missed : ℕ) : Type 0 where
  pub as_many : AreAsMany net passed cancelled
  pub flags_beside : FlagsBeside net passed cancelled beside
  pub is_lateness : lateness ≡ lateness_of net cancelled x
  pub is_missed : missed ≡ missed_of net passed cancelled spans x

-- the places are those of activities
abbrev pub AreActivities : Net → List ℕ → Type 0
AreActivities net places = (k : ℕ) → k < length places → slice_index places k < length net.activities

-- no activity of a row is a change whose head has passed
abbrev pub LeadToNonePassed : Net → List Bool → List ℕ → Type 0
LeadToNonePassed net passed row =
    (k : ℕ) → k < length row →
    (is_change (activity_at net (slice_index row k)).kind && is_flagged passed (activity_at net (slice_index row k)).head) ≡ false

-- beside the flags before, the tails of the changes among the first n of the row are flagged
pub record HasFlaggedTails (net : Net) (row : List ℕ) (n : ℕ) (before now : List Bool) : Type 0 where
  pub as_many : length now ≡ length before
  pub kept : (i : ℕ) → is_flagged before i ≡ true → is_flagged now i ≡ true
  pub tails : (k : ℕ) → k < n → is_change (activity_at net (slice_index row k)).kind ≡ true →
      is_flagged now (activity_at net (slice_index row k)).tail ≡ true

-- the total of a function over the first n places of a row, where each adds at most so much
pub record IsTotalOf (f : ℕ → ℕ) (row : List ℕ) (n most total : ℕ) : Type 0 where
  pub sum : total ≡ sum_by f (take n row)
  pub bound : total ≤ n * most

-- the total of a function over the places before n, where each adds at most so much
pub record IsTotalBelow (f : ℕ → ℕ) (n most total : ℕ) : Type 0 where
  pub sum : total ≡ sum_by f (range_with_len 0 n)
  pub bound : total ≤ n * most

-- no sum is above what the limits of a network and of its times allow
pub record AreWithin (sums : SumsValue) : Type 0 where
  pub lateness : sums.lateness ≤ EVENTS * (WEIGHT * 2 ^ 38)
  pub charged : sums.charged ≤ (EVENTS + ACTIVITIES) * WEIGHT
  pub missed : sums.missed ≤ ACTIVITIES * WEIGHT
