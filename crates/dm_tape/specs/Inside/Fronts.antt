-- The first line of an item as it was read.
use Rattle.std.specs.Prelude.{◌≡◌, ◌⊎◌, Result, Ok, Err}
use Rattle.dm_text.specs.Places.{Place}
use Rattle.dm_text.specs.Judging.{Line, SpellsValue}
use Rattle.dm_cert.specs.declared.faults.CertFault.{CertFault}
use Rattle.dm_cert.specs.PlansRead.{cut_line, misshapen_line, want_of_memory}
use Rattle.dm_records.specs.RunLines.{ItemLine, lone, planned, solved}
use Rattle.dm_records.specs.Readings.{opening_of, solved_opening_of}
use Rattle.dm_records.specs.declared.items.LogLine.{LogLine}
use Rattle.dm_records.specs.declared.items.LogLine.TheVariants as log_line
use Rattle.dm_tape.specs.Told.{IsFirstLine}

-- the line at the old place is this first line, and the new place stands behind it
abbrev pub IsFront : Place → Place → ItemLine → Type 0
IsFront old new first = SpellsValue IsFirstLine old first new

-- no first line stands at the place
abbrev pub TellsNone : Place → CertFault → Type 0
TellsNone old fault = Line cut_line misshapen_line IsFirstLine old (Err fault)

-- What is read is the first line. One with a value that is too large for its type is none.
abbrev pub ReadsFront : Place → Place → Result LogLine CertFault → Type 0
ReadsFront old new (Ok (log_line.Item answered)) = IsFront old new (lone answered)
ReadsFront old new (Ok log_line.TooLarge) = TellsNone old (misshapen_line old.line)
ReadsFront old new (Ok (log_line.Planned opening)) = IsFront old new (planned (opening_of opening))
ReadsFront old new (Ok (log_line.Solved opening)) = IsFront old new (solved (solved_opening_of opening))
ReadsFront old new (Err fault) = (fault ≡ want_of_memory) ⊎ TellsNone old fault
