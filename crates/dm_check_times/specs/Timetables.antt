-- The least timetable of rows, as these change.
use Rattle.std.specs.Prelude.{ℕ, ◌≡◌, ◌^◌, ◌<◌, ◌≤◌, Bool, true, List, length, slice_index, slice_set}
use Rattle.dm_graph.specs.Graph.{IsLeast as IsLeastOfGraph}
use Rattle.dm_network.specs.Net.{Net}
use Rattle.dm_rows.specs.Active.{is_active, HasNoCycle}
use Rattle.dm_rows.specs.Rows.{RowsValue}
use Rattle.dm_rows.specs.Timetable.{floor_of, span_of, IsLeast}
use Rattle.dm_rows.specs.declared.messages.Flip.{Flip}
use Rattle.dm_rows.specs.declared.messages.Flip.TheVariants.{Keep, Drop, First}
use Rattle.dm_rows.specs.declared.messages.Change.{Change}
use Rattle.dm_rows.specs.declared.messages.Change.TheVariants.{EventDelay, ActDelay, Passed, Recalled, Flipped, Adopted, Clock, Cancelled, Restored, Locked, Unlocked}
use Rattle.dm_check_times.specs.Binding.{graph_with, is_due, AreBindings, AreFlags, AreSpansOf, AreFloorsOf, AreBelowLimit}
use Rattle.dm_check_times.specs.Following.{Follows}
use Rattle.dm_marks.specs.Marked.{is_marked}

-- what is held, the spans, the floors, times, which events are stale and due, and the clock of the floors
pub record KeptTimetableValue : Type 0 where
  pub held : List Bool
  pub spans : List ℕ
  pub floors : List ℕ
  pub times : List ℕ
  pub stale : List Bool
  pub due : List Bool
  pub clock : ℕ

-- the lists are as long as the network's
pub record IsRoomOf (net : Net) (t : KeptTimetableValue) : Type 0 where
  pub held : length t.held ≡ length net.activities
  pub spans : length t.spans ≡ length net.activities
  pub floors : length t.floors ≡ length net.events
  pub times : length t.times ≡ length net.events
  pub stale : length t.stale ≡ length net.events
  pub due : length t.due ≡ length net.events

-- no time is later than this
abbrev pub AreAtMost : List ℕ → ℕ → Type 0
AreAtMost times most = (i : ℕ) → slice_index times i ≤ most

-- the times were least for what bound before, and what has changed since then is stale and due
pub record IsTimetableOf (net : Net) (t : KeptTimetableValue) : Type 0 where
  pub room : IsRoomOf net t
  pub bindings : AreBindings net t.held t.spans
  pub early : AreAtMost t.times (2 ^ 38)
  pub early_floors : AreAtMost t.floors (2 ^ 38)
  pub follows : Follows net t.held t.spans t.floors t.times t.stale
  pub all_due : (e : ℕ) → is_marked t.stale e ≡ true → is_due t.due e ≡ true

-- the times are least for what binds now
abbrev pub IsLeastNow : Net → KeptTimetableValue → Type 0
IsLeastNow net t = IsLeastOfGraph (graph_with net t.held t.spans (slice_index t.floors)) (slice_index t.times)

-- what binds, the spans, the floors and the clock are those of the rows
pub record AgreesWith (net : Net) (rows : RowsValue) (t : KeptTimetableValue) : Type 0 where
  pub held : AreFlags net (is_active net rows) t.held
  pub spans : AreSpansOf net rows t.spans
  pub floors : AreFloorsOf net rows t.floors
  pub clock : t.clock ≡ rows.clock

-- the timetable is kept with the rows, which have no cycle, and its times are their least ones
pub record IsSettledFor (net : Net) (rows : RowsValue) (t : KeptTimetableValue) : Type 0 where
  pub timetable : IsTimetableOf net t
  pub agrees : AgreesWith net rows t
  pub least : IsLeast net rows t.times
  pub early : AreBelowLimit t.times
  pub no_cycle : HasNoCycle net rows

-- the spans and the floors are those of the rows
pub record AreOfRows (net : Net) (rows : RowsValue) (t : KeptTimetableValue) : Type 0 where
  pub spans : AreSpansOf net rows t.spans
  pub floors : AreFloorsOf net rows t.floors

-- the times are the least where these activities are held, with these spans over these floors
pub record AreLeastFor (net : Net) (spans floors : List ℕ) (held : List Bool) (times : List ℕ) : Type 0 where
  pub flags : length held ≡ length net.activities
  pub as_many : length times ≡ length net.events
  pub least : IsLeastOfGraph (graph_with net held spans (slice_index floors)) (slice_index times)
  pub early : AreAtMost times (2 ^ 38)

-- the spans, the floors and the clock are those of before
pub record KeepsSpans (old new : KeptTimetableValue) : Type 0 where
  pub spans : new.spans ≡ old.spans
  pub floors : new.floors ≡ old.floors
  pub clock : new.clock ≡ old.clock

-- the floor of one event is that of the rows now, and nothing else that binds has changed, and no time
pub record RenewsEvent (net : Net) (rows : RowsValue) (event : ℕ) (old new : KeptTimetableValue) : Type 0 where
  pub floors : new.floors ≡ slice_set old.floors event (floor_of net rows event)
  pub held : new.held ≡ old.held
  pub spans : new.spans ≡ old.spans
  pub clock : new.clock ≡ old.clock
  pub times : new.times ≡ old.times

-- one activity is held or not, with this span, and nothing else that binds has changed, and no time
pub record BindsActivity (a : ℕ) (binds : Bool) (span : ℕ) (old new : KeptTimetableValue) : Type 0 where
  pub held : new.held ≡ slice_set old.held a binds
  pub spans : new.spans ≡ slice_set old.spans a span
  pub floors : new.floors ≡ old.floors
  pub clock : new.clock ≡ old.clock
  pub times : new.times ≡ old.times

-- one activity binds as under the rows now
abbrev pub RenewsActivity : Net → RowsValue → ℕ → KeptTimetableValue → KeptTimetableValue → Type 0
RenewsActivity net rows a old new = BindsActivity a (is_active net rows a) (span_of net rows a) old new

-- the clock is that of the rows now, and nothing else has changed
pub record TakesClock (rows : RowsValue) (old new : KeptTimetableValue) : Type 0 where
  pub clock : new.clock ≡ rows.clock
  pub held : new.held ≡ old.held
  pub spans : new.spans ≡ old.spans
  pub floors : new.floors ≡ old.floors
  pub times : new.times ≡ old.times

-- what the flip, the change is of is one of the network's
abbrev pub FlipsNet : Net → Flip → Type 0
FlipsNet net (Keep a) = a < length net.activities
FlipsNet net (Drop a) = a < length net.activities
FlipsNet net (First p small) = p < length net.pairs

abbrev pub ChangesNet : Net → Change → Type 0
ChangesNet net (EventDelay i d) = i < length net.events
ChangesNet net (ActDelay a d) = a < length net.activities
ChangesNet net (Passed i t) = i < length net.events
ChangesNet net (Recalled i) = i < length net.events
ChangesNet net (Flipped flip) = FlipsNet net flip
ChangesNet net (Adopted flips) = Unit {0}
ChangesNet net (Clock t) = Unit {0}
ChangesNet net (Cancelled i) = i < length net.events
ChangesNet net (Restored i) = i < length net.events
ChangesNet net (Locked spot) = Unit {0}
ChangesNet net (Unlocked spot) = Unit {0}
