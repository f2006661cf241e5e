-- What each stage of reading leaves, and why it stops.
use Rattle.std.specs.Prelude.{ℕ, ◌≡◌, ◌≢◌, ◌≤◌, List, Option, Some, None, Result, Err, slice_get}
use Rattle.dm_base.specs.declared.limits.TheConstants.{TIME, BOUND, WEIGHT}
use Rattle.dm_base.specs.declared.rows.EventRow.{EventRow}
use Rattle.dm_base.specs.declared.rows.ActRow.{ActRow}
use Rattle.dm_lintim.specs.declared.fault.FileFault.{FileFault}
use Rattle.dm_lintim.specs.declared.fault.FileKind.TheVariants.{OutOfMemory as NoFileMemory}
use Rattle.dm_rows.specs.StartFaults.{DelaysAreWithin}
use Rattle.dm_input.specs.declared.flaws.File.{File}
use Rattle.dm_input.specs.declared.flaws.FileFlaw.TheVariants.{Record}
use Rattle.dm_input.specs.declared.flaws.InputFlaw.{InputFlaw}
use Rattle.dm_input.specs.declared.flaws.InputFlaw.TheVariants.{InFile}
use Rattle.dm_input.specs.declared.flaws.InputStop.{InputStop}
use Rattle.dm_input.specs.declared.flaws.InputStop.TheVariants.{Refused, ReadFault, NoMemory}
use Rattle.dm_input.specs.declared.reading.Files.{Files}
use Rattle.dm_input.specs.Input.{Told, NamedAnswers, FileRows, Raised}

-- why reading the file of a name stops: by what it answers, or because it could not be read
abbrev pub StopsAtName : {R : Type 0} → Told → (List ℕ → Type 0) → List ℕ → File →
    (List ℕ → Result (List R) FileFault → Type 0) → InputStop → Type 0
StopsAtName told is_sound name file Reads (Refused flaw) = Raised (InFile file) (NamedAnswers told name Reads) (Err flaw)
StopsAtName told is_sound name file Reads (ReadFault at) = (at ≡ file) × (is_sound name → ⊥)
StopsAtName told is_sound name file Reads NoMemory = Unit {0}

-- the same of a file that may have no name
abbrev pub StopsAtFile : {R : Type 0} → Told → (List ℕ → Type 0) → Option (List ℕ) → File →
    (List ℕ → Result (List R) FileFault → Type 0) → InputStop → Type 0
StopsAtFile told is_sound None file Reads stop = stop ≡ NoMemory
StopsAtFile told is_sound (Some name) file Reads stop = StopsAtName told is_sound name file Reads stop

-- why what is made of the rows stops the reading
abbrev pub StopsMaking : {X F : Type 0} → (F → InputFlaw) → (Result X F → Type 0) → InputStop → Type 0
StopsMaking up Answers (Refused flaw) = Raised up Answers (Err flaw)
StopsMaking up Answers (ReadFault file) = ⊥
StopsMaking up Answers NoMemory = Unit {0}

-- how a fault of a file's records stops the reading
abbrev pub IsStopBy : File → FileFault → InputStop → Type 0
IsStopBy file fault (Refused flaw) = (flaw ≡ InFile file (Record fault)) × (fault.kind ≢ NoFileMemory)
IsStopBy file fault (ReadFault at) = ⊥
IsStopBy file fault NoMemory = Unit {0}

-- the numbers of the records are within the limits
abbrev pub EventsFit : List EventRow → Type 0
EventsFit events = (k : ℕ) (row : EventRow) → slice_get events k ≡ Some row → (row.time ≤ TIME) × (row.weight ≤ WEIGHT)

abbrev pub ActivitiesFit : List ActRow → Type 0
ActivitiesFit activities = (k : ℕ) (row : ActRow) → slice_get activities k ≡ Some row → (row.lower ≤ BOUND) × (row.weight ≤ WEIGHT)

-- the rows of files that were read
abbrev pub rows_in : Files → FileRows
rows_in files =
    record {
      events = files.events.items;
      activities = files.activities.items;
      event_delays = files.event_delays.items;
      activity_delays = files.activity_delays.items;
      cancelled = files.cancelled.items;
    }

pub record AllFit (files : Files) : Type 0 where
  pub events : EventsFit files.events.items
  pub activities : ActivitiesFit files.activities.items
  pub event_delays : DelaysAreWithin files.event_delays.items
  pub activity_delays : DelaysAreWithin files.activity_delays.items
