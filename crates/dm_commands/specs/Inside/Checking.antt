-- Stages of a check.
use Rattle.std.specs.Prelude.{ℕ, ◌≡◌, ◌≤◌, ◌⊎◌, ◌↔◌, List, length, Option, Result, Ok, Err}
use Rattle.dm_base.specs.declared.limits.TheConstants.{TEXT}
use Rattle.dm_network.specs.Net.{Net}
use Rattle.dm_rows.specs.Rows.{RowsValue}
use Rattle.dm_outside.specs.declared.faults.TakeFault.{TakeFault}
use Rattle.dm_outside.specs.declared.faults.TakeFault.TheVariants.{ReadFault as NotRead, TooLong as TooMany, OutOfMemory}
use Rattle.dm_input.specs.Input.{Told, IsHeld, Opening, OpeningAnswer}
use Rattle.dm_input.specs.Stops.{IsLong, StopsOpening}
use Rattle.dm_input.specs.declared.flaws.InputStop.{InputStop}
use Rattle.dm_words.specs.Words.{CheckAsked, FilesAsked}
use Rattle.dm_cert.specs.Runs.{IsRunText}
use Rattle.dm_check.specs.declared.verdicts.Verdict.{Verdict}
use Rattle.dm_check.specs.FalseRecords.{IsVerdict}
use Rattle.dm_check.specs.Truth.{SaysGood}
use Rattle.dm_commands.specs.declared.status.Status.{Status}
use Rattle.dm_commands.specs.declared.status.Status.TheVariants.{Refused, ReadFault, NoMemory}
use Rattle.dm_commands.specs.Ends.{EndsAs}
use Rattle.dm_commands.specs.Verdicts.{verdict_line, verdict_status, long_text_line, unread_text_line}
use Rattle.dm_commands.specs.Inside.Stages.{EndsStopped}

-- the bytes under a name are short, and this is the verdict on them
pub record IsJudged (told : Told) (name : List ℕ) (net : Net) (rows : RowsValue) (penalty plans : ℕ) (verdict : Verdict) : Type 0 where
  pub bytes : List ℕ
  pub held : IsHeld told name bytes
  pub short : length bytes ≤ TEXT
  pub is_verdict : IsVerdict net rows penalty plans bytes verdict
  pub good : SaysGood verdict ↔ IsRunText net rows penalty plans bytes

-- the verdict on the text of a name, or why there is none
abbrev pub Judges : Told → (List ℕ → Type 0) → List ℕ → Net → RowsValue → ℕ → ℕ → Result Verdict TakeFault → Type 0
Judges told is_sound name net rows penalty plans (Ok verdict) = IsJudged told name net rows penalty plans verdict
Judges told is_sound name net rows penalty plans (Err NotRead) = is_sound name → ⊥
Judges told is_sound name net rows penalty plans (Err TooMany) = IsLong told name TEXT
Judges told is_sound name net rows penalty plans (Err OutOfMemory) = Unit {0}

-- what is written of this, and the status
abbrev pub EndsBy : {K : Type 0} → (K → Option (List ℕ)) → (K → ℕ) → List ℕ → Result Verdict TakeFault → K → K → Status → Type 0
EndsBy taken faults name (Ok verdict) before now result =
    EndsAs taken faults before now (verdict_line verdict) (verdict_status verdict) result
EndsBy taken faults name (Err NotRead) before now result = EndsAs taken faults before now (unread_text_line name) ReadFault result
EndsBy taken faults name (Err TooMany) before now result = EndsAs taken faults before now (long_text_line name) Refused result
EndsBy taken faults name (Err OutOfMemory) before now result = (now ≡ before) × (result ≡ NoMemory)

-- how a check ends whose files make this network with these rows
pub record EndsJudged {K : Type 0} (taken : K → Option (List ℕ)) (faults : K → ℕ) (told : Told) (is_sound : List ℕ → Type 0)
    (name : List ℕ) (net : Net) (rows : RowsValue) (penalty plans : ℕ) (before now : K) (result : Status) : Type 0 where
  pub judgement : Result Verdict TakeFault
  pub judges : Judges told is_sound name net rows penalty plans judgement
  pub ends : EndsBy taken faults name judgement before now result

-- its files stopped a command
pub record EndsAtFiles {K : Type 0} (taken : K → Option (List ℕ)) (faults : K → ℕ) (told : Told) (is_sound : List ℕ → Type 0)
    (files : FilesAsked) (before now : K) (result : Status) : Type 0 where
  pub stop : InputStop
  pub stops : StopsOpening told is_sound files stop
  pub ends : EndsStopped taken faults files stop before now result

-- its files made a network with rows
pub record EndsAtText {K : Type 0} (taken : K → Option (List ℕ)) (faults : K → ℕ) (told : Told) (is_sound : List ℕ → Type 0)
    (asked : CheckAsked) (before now : K) (result : Status) : Type 0 where
  pub opening : Opening
  pub opens : OpeningAnswer told asked.files (Ok opening)
  pub ends : EndsJudged taken faults told is_sound asked.text opening.net opening.rows asked.files.penalty asked.files.plans before now result

-- how a check ends
abbrev pub EndsChecked : {K : Type 0} → (K → Option (List ℕ)) → (K → ℕ) → Told → (List ℕ → Type 0) → CheckAsked → K → K → Status → Type 0
EndsChecked taken faults told is_sound asked before now result =
    EndsAtFiles taken faults told is_sound asked.files before now result ⊎ EndsAtText taken faults told is_sound asked before now result
