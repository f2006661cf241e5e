-- How a call ends: what is due to be written for each status, and why. What becomes of the boards is told of a run, or of
-- none where there is no run.
use Rattle.std.specs.Prelude.{ℕ, ◌≡◌, ◌≤◌, ◌⊎◌, List, length, slice_get, Option, None, Some, Err}
use Rattle.std.specs.Io.KnownBytes.{Appends, Keeps}
use Rattle.dm_base.specs.declared.limits.TheConstants.{FEED}
use Rattle.dm_input.specs.Input.{Told, IsHeld, OpeningAnswer, IsUnread, file_name}
use Rattle.dm_input.specs.Lines.{usage_line, refused_line, read_fault_line}
use Rattle.dm_input.specs.Order.{SameFlaw, IsReadBy}
use Rattle.dm_words.specs.Words.{Command, FilesAsked, RunAsked, RunOf, Asks, AsksNothing}
use Rattle.dm_commands.specs.Boards.{Ended}
use Rattle.dm_input.specs.declared.flaws.File.{File}
use Rattle.dm_input.specs.declared.flaws.InputFlaw.{InputFlaw}
use Rattle.dm_outside.specs.Printing.{TakesAll, TakesFront}
use Rattle.dm_commands.specs.declared.status.Status.{Status}
use Rattle.dm_commands.specs.declared.status.Status.TheVariants.{Ok, Bad, Usage, Refused, ReadFault, WriteFault, NoMemory}
use Rattle.dm_commands.specs.Commands.{AsksOver}
use Rattle.dm_commands.specs.Headline.{IsRunOf}
use Rattle.dm_commands.specs.Generated.{IsSummaryFor}
use Rattle.dm_commands.specs.Checked.{IsVerdictFor, IsLongText, IsUnreadText}
use Rattle.dm_commands.specs.Answers.{IsAnswerFor}

-- the words ask for nothing
pub record IsUsage (end_boards : Option Ended → Type 0) (words : List (List ℕ)) (text : List ℕ) : Type 0 where
  pub outside : AsksNothing words
  pub line : text ≡ usage_line
  pub boards : end_boards None

-- what is refused first, of bytes that are those that the shelf tells
pub record IsRefusal (told : Told) (end_boards : Option Ended → Type 0) (words : List (List ℕ)) (text : List ℕ) : Type 0 where
  pub files : FilesAsked
  pub over : AsksOver words files
  pub flaw : InputFlaw
  pub refusal : OpeningAnswer told files (Err flaw)
  pub line : text ≡ refused_line files flaw
  pub boards : end_boards None

-- a file that the shelf does not tell sound, where nothing is refused before it
pub record IsReadFault (told : Told) (is_sound : List ℕ → Type 0) (end_boards : Option Ended → Type 0) (words : List (List ℕ))
    (text : List ℕ) : Type 0 where
  pub files : FilesAsked
  pub over : AsksOver words files
  pub file : File
  pub unread : IsUnread told is_sound files file
  pub line : text ≡ read_fault_line files file
  pub boards : end_boards None

-- The text that is due at a status, of a run, of a generated day, of a checked text or of what is asked of a journal; a write fault
-- and want of memory have none of their own. A run whose feeds did not all end well has its whole text.
abbrev pub IsDue : Told → (List ℕ → Type 0) → (Option Ended → Type 0) → List (List ℕ) → Status → List ℕ → Type 0
IsDue told is_sound end_boards words Ok text =
    IsRunOf told is_sound end_boards words Ok text
    ⊎ (IsSummaryFor end_boards words text ⊎ (IsVerdictFor told end_boards words Ok text ⊎ IsAnswerFor told end_boards words Ok text))
IsDue told is_sound end_boards words Bad text = IsVerdictFor told end_boards words Bad text ⊎ IsAnswerFor told end_boards words Bad text
IsDue told is_sound end_boards words Usage text = IsUsage end_boards words text
IsDue told is_sound end_boards words Refused text =
    IsRefusal told end_boards words text
    ⊎ (IsLongText told end_boards words text ⊎ (IsRunOf told is_sound end_boards words Refused text
    ⊎ IsAnswerFor told end_boards words Refused text))
IsDue told is_sound end_boards words ReadFault text =
    IsReadFault told is_sound end_boards words text
    ⊎ (IsUnreadText told is_sound end_boards words text ⊎ IsRunOf told is_sound end_boards words ReadFault text)
IsDue told is_sound end_boards words WriteFault text = ⊥
IsDue told is_sound end_boards words NoMemory text = ⊥

-- a text for which P holds was appended
pub record Writes (before now : Option (List ℕ)) (P : List ℕ → Type 0) : Type 0 where
  pub text : List ℕ
  pub holds : P text
  pub appended : Appends before now text

-- the sink failed, and took a proper front of a text that was due
pub record FailsToWrite {K : Type 0} (taken : K → Option (List ℕ)) (faults : K → ℕ) (before now : K)
    (due : Status → List ℕ → Type 0) : Type 0 where
  pub status : Status
  pub text : List ℕ
  pub is_due : due status text
  pub front : TakesFront taken faults before now text

-- the words ask for something, for which there was not enough memory, and nothing was written
pub record WantsMemory (before now : Option (List ℕ)) (words : List (List ℕ)) : Type 0 where
  pub asked : Command
  pub is_asked : Asks words asked
  pub kept : Keeps before now

-- how a call ends, by its status
abbrev pub Ends : {K : Type 0} → (K → Option (List ℕ)) → (K → ℕ) → Told → (List ℕ → Type 0) → (Option Ended → Type 0) →
    List (List ℕ) → K → K → Status → Type 0
Ends taken faults told is_sound end_boards words before now WriteFault =
    FailsToWrite taken faults before now (IsDue told is_sound end_boards words)
Ends taken faults told is_sound end_boards words before now NoMemory = WantsMemory (taken before) (taken now) words
Ends taken faults told is_sound end_boards words before now status =
    Writes (taken before) (taken now) (IsDue told is_sound end_boards words status)

-- the text was written whole, and the status is the one of that, or the sink failed
abbrev pub EndsAs : {K : Type 0} → (K → Option (List ℕ)) → (K → ℕ) → K → K → List ℕ → Status → Status → Type 0
EndsAs taken faults before now text status result =
    ((result ≡ status) × TakesAll taken faults before now text)
    ⊎ ((result ≡ WriteFault) × TakesFront taken faults before now text)

-- How a call ends of which this is the first refusal: with its line, in which another cycle may be shown, or with a read
-- fault at its file or an earlier one, or with a write fault or want of memory.
abbrev pub EndsAt : FilesAsked → InputFlaw → Option (List ℕ) → Option (List ℕ) → Status → Type 0
EndsAt files flaw before now Refused =
    Writes before now (λ text. (shown : InputFlaw) × SameFlaw shown flaw × (text ≡ refused_line files shown))
EndsAt files flaw before now ReadFault =
    Writes before now (λ text. (file : File) × IsReadBy file flaw × (text ≡ read_fault_line files file))
EndsAt files flaw before now WriteFault = Unit {0}
EndsAt files flaw before now NoMemory = Unit {0}
EndsAt files flaw before now Ok = ⊥
EndsAt files flaw before now Bad = ⊥
EndsAt files flaw before now Usage = ⊥

-- How a call ends to which this line is due at this status: so, but for a read fault, a write fault and want of memory.
abbrev pub EndsTold : Status → List ℕ → Option (List ℕ) → Option (List ℕ) → Status → Type 0
EndsTold status line before now result =
    ((result ≡ status) × Writes before now (λ text. text ≡ line)) ⊎ ((result ≡ ReadFault) ⊎ ((result ≡ WriteFault) ⊎ (result ≡ NoMemory)))

-- How a call ends to which one of these texts is due, each at its status: so, but for a read fault, a write fault and want of memory.
abbrev pub EndsAnswered : (Status → List ℕ → Type 0) → Option (List ℕ) → Option (List ℕ) → Status → Type 0
EndsAnswered answers before now result =
    Writes before now (answers result) ⊎ ((result ≡ ReadFault) ⊎ ((result ≡ WriteFault) ⊎ (result ≡ NoMemory)))

-- the words ask for no run
abbrev pub AsksNoRun : List (List ℕ) → Type 0
AsksNoRun words = (asked : RunAsked) → Asks words (RunOf asked) → ⊥

-- the shelf tells each of the files, and the text of this name, sound
pub record IsSoundFor (is_sound : List ℕ → Type 0) (files : FilesAsked) (text : List ℕ) : Type 0 where
  pub of_files : (file : File) (name : List ℕ) → file_name files file ≡ Some name → is_sound name
  pub of_text : is_sound text

-- the shelf tells each name of the run sound
pub record AreSound (is_sound : List ℕ → Type 0) (asked : RunAsked) : Type 0 where
  pub files : (file : File) (name : List ℕ) → file_name asked.files file ≡ Some name → is_sound name
  pub feeds : (place : ℕ) (name : List ℕ) → slice_get asked.feeds place ≡ Some name → is_sound name

-- the shelf has each feed, with at most as many bytes as a feed may have
abbrev pub AreShort : Told → RunAsked → Type 0
AreShort told asked =
    (place : ℕ) (name : List ℕ) → slice_get asked.feeds place ≡ Some name → (bytes : List ℕ) × IsHeld told name bytes
    × (length bytes ≤ FEED)
