-- How the text of a store ends, at every status.
use Rattle.std.specs.Prelude.{ℕ, ◌≡◌, List, Option}
use Rattle.std.specs.Io.KnownBytes.{Keeps}
use Rattle.dm_restore.specs.declared.stops.RestoreStop.{RestoreStop}
use Rattle.dm_restore.specs.declared.stops.RestoreStop.TheVariants.{OutOfMemory as NoRoom}
use Rattle.dm_store_text.specs.Lines.{refusal_line}
use Rattle.dm_store_text.specs.Written.{EndsAs, FailsToWrite, Writes}
use Rattle.dm_store_text.specs.declared.status.Status.{Status}
use Rattle.dm_store_text.specs.declared.status.Status.TheVariants.{Refused, WriteFault, NoMemory}

-- A text that was due was written whole, or the sink failed on it, or nothing was written for want of memory.
abbrev pub EndsText : {K : Type 0} → (K → Option (List ℕ)) → (K → ℕ) → (Status → List ℕ → Type 0) → K → K → Status → Type 0
EndsText taken faults due before now WriteFault = FailsToWrite taken faults before now due
EndsText taken faults due before now NoMemory = Keeps (taken before) (taken now)
EndsText taken faults due before now status = Writes (taken before) (taken now) (due status)

-- the line of what is refused of a journal was written, or there was no memory
abbrev pub EndsStopped : {K : Type 0} → (K → Option (List ℕ)) → (K → ℕ) → RestoreStop → K → K → Status → Type 0
EndsStopped taken faults NoRoom before now result = (now ≡ before) × (result ≡ NoMemory)
EndsStopped taken faults why before now result = EndsAs taken faults before now (refusal_line why) Refused result
