-- Times, one behind the other.
use Rattle.std.proofs.Common.{◌≡◌, ℕ, ◌+◌, ◌<◌, ◌≤◌, List, [], ◌∷◌, ◌++◌, length, Ok, Err, refl, arith, length-append}
use Rattle.dm_text.specs.Places.{Place}
use Rattle.dm_text.specs.Judging.{Times}
use Rattle.dm_text.proofs.Counted.{HasRun, run_begins, run_goes, run_stops, run_ends}
use Rattle.dm_network.specs.Net.{Net}
use Rattle.dm_rows.specs.Rows.{RowsValue}
use Rattle.dm_check.specs.declared.faults.Fault.{Fault}
use Rattle.dm_check.specs.FalseRecords.{TellsTime}
use Rattle.dm_check.specs.Judged.{ToldTimetable}

-- so many times were told so far
pub record HasTimed (net : Net) (rows : RowsValue) (start here : Place) (i : ℕ) : Type 0 where
  pub held : List ℕ
  pub count : length held ≡ i
  pub run : HasRun {F = Fault} (TellsTime net rows) (length net.events) start held here

pub timed_none : (net : Net) (rows : RowsValue) (start : Place) → HasTimed net rows start start 0
timed_none net rows start = record { held = []; count = refl; run = run_begins (TellsTime net rows) (length net.events) start }

module _ (net : Net) (rows : RowsValue) (start here next : Place) (i : ℕ) (had : HasTimed net rows start here i) where
  pub timed_more : (t : ℕ) → i < length net.events → ((before : List ℕ) → length before ≡ i → TellsTime net rows before here (Ok (t, next))) → HasTimed net rows start next (i + 1)
  timed_more t less told = record {
    held = had.held ++ t ∷ [];
    count = let c = had.count in omega (arith, length-append had.held (t ∷ []));
    run = run_goes (TellsTime net rows) (length net.events) start here next had.held t had.run (let c = had.count in omega arith) (told had.held had.count);
  }

  pub timed_stop : (fault : Fault) → i < length net.events → ((before : List ℕ) → length before ≡ i → TellsTime net rows before here (Err fault)) → Times (length net.events) (TellsTime net rows) [] start (Err fault)
  timed_stop fault less told = run_stops (TellsTime net rows) (length net.events) start here had.held fault had.run (let c = had.count in omega arith) (told had.held had.count)

  pub timed_all : length net.events ≤ i → ToldTimetable net rows start here
  timed_all all = record { times = had.held; told = run_ends (TellsTime net rows) (length net.events) start here had.held had.run (let c = had.count in omega arith) }
