-- What is written at an end, with its status.
use Rattle.std.specs.Prelude.{ℕ, ◌≡◌, ◌⊎◌, List, Option}
use Rattle.std.specs.Io.KnownBytes.{Appends}
use Rattle.dm_rows.specs.Cost.{cost_of}
use Rattle.dm_cert.specs.declared.notes.Note.{Note}
use Rattle.dm_cert.specs.declared.replies.FeedLog.{FeedLog}
use Rattle.dm_cert.specs.RunTexts.{Run}
use Rattle.dm_outside.specs.Printing.{TakesAll, TakesFront}
use Rattle.dm_table.specs.Value.{TableValue}
use Rattle.dm_input.specs.Lines.{refused_line, read_fault_line}
use Rattle.dm_input.specs.declared.flaws.InputStop.{InputStop}
use Rattle.dm_input.specs.declared.flaws.InputStop.TheVariants as stop
use Rattle.dm_words.specs.Words.{FilesAsked}
use Rattle.dm_store_text.specs.declared.status.Status.{Status}
use Rattle.dm_store_text.specs.declared.status.Status.TheVariants.{Refused, ReadFault, WriteFault, NoMemory}

-- the text was written whole, and the status is the one of that, or the sink failed
abbrev pub EndsAs : {K : Type 0} → (K → Option (List ℕ)) → (K → ℕ) → K → K → List ℕ → Status → Status → Type 0
EndsAs taken faults before now text status result =
    ((result ≡ status) × TakesAll taken faults before now text)
    ⊎ ((result ≡ WriteFault) × TakesFront taken faults before now text)

-- files stopped it
abbrev pub EndsFiles : {K : Type 0} → (K → Option (List ℕ)) → (K → ℕ) → FilesAsked → InputStop → K → K → Status → Type 0
EndsFiles taken faults files (stop.Refused flaw) before now result = EndsAs taken faults before now (refused_line files flaw) Refused result
EndsFiles taken faults files (stop.ReadFault file) before now result =
    EndsAs taken faults before now (read_fault_line files file) ReadFault result
EndsFiles taken faults files stop.NoMemory before now result = (now ≡ before) × (result ≡ NoMemory)

-- a text for which P holds was appended
pub record Writes (before now : Option (List ℕ)) (P : List ℕ → Type 0) : Type 0 where
  pub text : List ℕ
  pub holds : P text
  pub appended : Appends before now text

-- the sink failed, and took a proper front of a text that was due
pub record FailsToWrite {K : Type 0} (taken : K → Option (List ℕ)) (faults : K → ℕ) (before now : K)
    (due : Status → List ℕ → Type 0) : Type 0 where
  pub status : Status
  pub text : List ℕ
  pub is_due : due status text
  pub front : TakesFront taken faults before now text

-- what is printed of a table, logs and notes
abbrev pub run_in : TableValue → List FeedLog → List Note → Run
run_in table logs notes =
    record {
      net = table.network;
      penalty = table.penalty;
      history = table.history;
      logs = logs;
      notes = notes;
      times = table.times;
      cost = cost_of table.network table.rows table.times table.penalty;
    }
