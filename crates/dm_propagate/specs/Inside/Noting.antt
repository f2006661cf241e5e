-- Events that are noted while a change is made.
use Rattle.std.specs.Prelude.{ℕ, ◌≡◌, ◌⊎◌, Bool, true, false, List, length, slice_index}
use Rattle.dm_network.specs.Net.{Net}
use Rattle.dm_marks.specs.Marked.{is_marked}
use Rattle.dm_settle.specs.Constraints.{arcs_given, graph_given}
use Rattle.dm_settle.specs.Settling.{AreLeast}
use Rattle.dm_live.specs.Live.{IsAtRest, ReadsFew}
use Rattle.dm_priced.specs.Priced.{PricedValue, IsPriced}
use Rattle.dm_propagate.specs.Moved.{TakesInMoved}

-- each event, but for some of these, has the time that it had
pub record KeepsTimesBut (some : ℕ → Type 0) (before after : List ℕ) : Type 0 where
  pub each : (i : ℕ) → some i ⊎ (slice_index after i ≡ slice_index before i)

-- what was noted is so still, and each of these events is
pub record NotesEach (some : ℕ → Type 0) (noted noted_now : List Bool) : Type 0 where
  pub as_many : length noted_now ≡ length noted
  pub kept : (i : ℕ) → is_marked noted_now i ≡ false → is_marked noted i ≡ false
  pub each : (i : ℕ) → some i → is_marked noted_now i ≡ true

-- A timetable is settled: times, marks and sums are new, and few rows were read.
pub record IsSettled (net : Net) (before after : PricedValue) (first last : ℕ) : Type 0 where
  pub priced : IsPriced net after
  pub least : AreLeast (graph_given net after.live.given) after.live.times
  pub at_rest : IsAtRest after.live
  pub unchanged : after ≡ record before {
    live = record before.live { times = after.live.times; marks = after.live.marks };
    sums = after.sums;
  }
  pub few_reads : ReadsFew (arcs_given net before.live.given) before.live after.live first last

-- What is lent by this name are the notes of a sweep: since it began, with this noted and with these times, it notes each event
-- that moves.
pub record IsNotedSince (net : Net) (name : ℕ) (noted : List Bool) (before : List ℕ) (lent : ℕ) (noted_now : List Bool)
    (now : List ℕ) : Type 0 where
  pub same_name : lent ≡ name
  pub events : length noted ≡ length net.events
  pub takes_in : TakesInMoved noted noted_now before now
