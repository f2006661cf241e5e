-- What words and files determine: a network and start rows, or the first refusal.
use Rattle.std.specs.Prelude.{ℕ, ◌≡◌, ◌≢◌, ◌<◌, ◌≤◌, ◌⊎◌, List, [], length, Option, Some, None, Result, Ok, Err, ⊤, codes}
use Rattle.std.specs.Option.{option_map}
use Rattle.dm_base.specs.declared.limits.TheConstants.{FILE}
use Rattle.dm_base.specs.declared.rows.EventRow.{EventRow}
use Rattle.dm_base.specs.declared.rows.ActRow.{ActRow}
use Rattle.dm_base.specs.declared.rows.DelayRow.{DelayRow}
use Rattle.dm_lintim.specs.declared.fault.FileFault.{FileFault}
use Rattle.dm_lintim.specs.Files.{ReadsEvents, ReadsActivities, ReadsDelays, ReadsIds}
use Rattle.dm_network.specs.declared.parts.NetFault.{NetFault}
use Rattle.dm_network.specs.declared.parts.NetFault.TheVariants.{OutOfMemory as NoNetworkMemory}
use Rattle.dm_network.specs.Net.{Net}
use Rattle.dm_network.specs.Build.{RefusesRecords, IsBuiltFrom}
use Rattle.dm_rows.specs.declared.messages.StartFault.{StartFault}
use Rattle.dm_rows.specs.declared.messages.StartFault.TheVariants.{OutOfMemory as NoStartMemory}
use Rattle.dm_rows.specs.Rows.{RowsValue, start_rows_without}
use Rattle.dm_rows.specs.StartFaults.{RefusesStart, AllAreKnown, AllIdsAreKnown, event_numbered, activity_numbered}
use Rattle.dm_input.specs.declared.flaws.File.{File}
use Rattle.dm_input.specs.declared.flaws.File.TheVariants.{Events, Activities, EventDelays, ActivityDelays, CancelledEvents}
use Rattle.dm_input.specs.declared.flaws.FileFlaw.{FileFlaw}
use Rattle.dm_input.specs.declared.flaws.FileFlaw.TheVariants.{Record, TooLong}
use Rattle.dm_input.specs.declared.flaws.InputFlaw.{InputFlaw}
use Rattle.dm_input.specs.declared.flaws.InputFlaw.TheVariants.{InFile, Network, Start}
use Rattle.dm_words.specs.Words.{FilesAsked, in_folder}

-- the name of a file as it is opened; the files of delays and of cancelled events have one where the words name them
abbrev pub file_name : FilesAsked → File → Option (List ℕ)
file_name asked Events = Some (in_folder asked (codes "Events-expanded.giv"))
file_name asked Activities = Some (in_folder asked (codes "Activities-expanded.giv"))
file_name asked EventDelays = option_map (in_folder asked) asked.event_delays
file_name asked ActivityDelays = option_map (in_folder asked) asked.activity_delays
file_name asked CancelledEvents = option_map (in_folder asked) asked.cancelled

-- what a shelf tells of its names
abbrev pub Told : Type 0
Told = Option (List ℕ → Option (List ℕ))

-- where the shelf tells its map, the name is on it with these bytes
abbrev pub IsHeld : Told → List ℕ → List ℕ → Type 0
IsHeld None name bytes = ⊤
IsHeld (Some files) name bytes = files name ≡ Some bytes

-- ---- what each stage answers

-- the bytes of a file: its rows, or that it is too long, or that a record breaks a rule
abbrev pub AnswersRows : {R : Type 0} → (List ℕ → Result (List R) FileFault → Type 0) → List ℕ → Result (List R) FileFlaw → Type 0
AnswersRows Reads bytes (Ok rows) = (length bytes ≤ FILE) × Reads bytes (Ok rows)
AnswersRows Reads bytes (Err TooLong) = FILE < length bytes
AnswersRows Reads bytes (Err (Record fault)) = (length bytes ≤ FILE) × Reads bytes (Err fault)

-- the file of a name
pub record NamedAnswers {R : Type 0} (told : Told) (name : List ℕ) (Reads : List ℕ → Result (List R) FileFault → Type 0)
    (answer : Result (List R) FileFlaw) : Type 0 where
  pub bytes : List ℕ
  pub held : IsHeld told name bytes
  pub answers : AnswersRows Reads bytes answer

-- a file that the words may name; one with no name has no rows
abbrev pub FileAnswers : {R : Type 0} → Told → Option (List ℕ) → (List ℕ → Result (List R) FileFault → Type 0) →
    Result (List R) FileFlaw → Type 0
FileAnswers told None Reads answer = answer ≡ Ok []
FileAnswers told (Some name) Reads answer = NamedAnswers told name Reads answer

-- the records of the two files: the network that they make
abbrev pub NetworkAnswers : List EventRow → List ActRow → Result Net NetFault → Type 0
NetworkAnswers events activities (Ok net) = IsBuiltFrom events activities net
NetworkAnswers events activities (Err fault) = (fault ≢ NoNetworkMemory) × RefusesRecords events activities fault

-- the delays and the ids of the cancelled events: the start rows
pub record AreStartRows (net : Net) (events activities : List DelayRow) (ids : List ℕ) (rows : RowsValue) : Type 0 where
  pub events_known : AllAreKnown (event_numbered net) events
  pub activities_known : AllAreKnown (activity_numbered net) activities
  pub ids_known : AllIdsAreKnown net ids
  pub are : rows ≡ start_rows_without net events activities ids

abbrev pub StartAnswers : Net → List DelayRow → List DelayRow → List ℕ → Result RowsValue StartFault → Type 0
StartAnswers net events activities ids (Ok rows) = AreStartRows net events activities ids rows
StartAnswers net events activities ids (Err fault) = (fault ≢ NoStartMemory) × RefusesStart net events activities ids fault

-- ---- one stage after the other

-- a stage's answer, with its refusal as one of the input
abbrev pub Raised : {X F : Type 0} → (F → InputFlaw) → (Result X F → Type 0) → Result X InputFlaw → Type 0
Raised {X} {F} up Answers (Ok x) = Answers (Ok x)
Raised {X} {F} up Answers (Err flaw) = (why : F) × Answers (Err why) × (flaw ≡ up why)

-- first one answer, and then the next, where the first is no refusal
abbrev pub Then : {X Y : Type 0} → (Result X InputFlaw → Type 0) → (X → Result Y InputFlaw → Type 0) → Result Y InputFlaw → Type 0
Then {X} First Next (Ok y) = (x : X) × First (Ok x) × Next x (Ok y)
Then {X} First Next (Err flaw) = First (Err flaw) ⊎ ((x : X) × First (Ok x) × Next x (Err flaw))

-- the answer is this value
abbrev pub IsAnswer : {X : Type 0} → X → Result X InputFlaw → Type 0
IsAnswer x answer = answer ≡ Ok x

-- a file among the stages
abbrev pub FileStage : {R : Type 0} → Told → Option (List ℕ) → File → (List ℕ → Result (List R) FileFault → Type 0) →
    Result (List R) InputFlaw → Type 0
FileStage told name file Reads answer = Raised (InFile file) (FileAnswers told name Reads) answer

abbrev pub EventsAnswer : Told → FilesAsked → Result (List EventRow) InputFlaw → Type 0
EventsAnswer told asked answer = FileStage told (file_name asked Events) Events (ReadsEvents asked.columns.events) answer

abbrev pub ActivitiesAnswer : Told → FilesAsked → Result (List ActRow) InputFlaw → Type 0
ActivitiesAnswer told asked answer = FileStage told (file_name asked Activities) Activities
    (ReadsActivities asked.columns.activities) answer

abbrev pub EventDelaysAnswer : Told → FilesAsked → Result (List DelayRow) InputFlaw → Type 0
EventDelaysAnswer told asked answer = FileStage told (file_name asked EventDelays) EventDelays ReadsDelays answer

abbrev pub ActivityDelaysAnswer : Told → FilesAsked → Result (List DelayRow) InputFlaw → Type 0
ActivityDelaysAnswer told asked answer = FileStage told (file_name asked ActivityDelays) ActivityDelays ReadsDelays answer

abbrev pub CancelledEventsAnswer : Told → FilesAsked → Result (List ℕ) InputFlaw → Type 0
CancelledEventsAnswer told asked answer = FileStage told (file_name asked CancelledEvents) CancelledEvents ReadsIds answer

-- the rows of the files
pub record FileRows : Type 0 where
  pub events : List EventRow
  pub activities : List ActRow
  pub event_delays : List DelayRow
  pub activity_delays : List DelayRow
  pub cancelled : List ℕ

-- what the files answer, read in their order
abbrev pub FilesAnswer : Told → FilesAsked → Result FileRows InputFlaw → Type 0
FilesAnswer told asked =
    Then (EventsAnswer told asked) (λ events.
    Then (ActivitiesAnswer told asked) (λ activities.
    Then (EventDelaysAnswer told asked) (λ event_delays.
    Then (ActivityDelaysAnswer told asked) (λ activity_delays.
    Then (CancelledEventsAnswer told asked) (λ cancelled.
    IsAnswer (record {
      events = events;
      activities = activities;
      event_delays = event_delays;
      activity_delays = activity_delays;
      cancelled = cancelled;
    }))))))

-- a network and its rows before any message
pub record Opening : Type 0 where
  pub net : Net
  pub rows : RowsValue

-- the network comes after all files, and then the start rows
abbrev pub OpeningAnswer : Told → FilesAsked → Result Opening InputFlaw → Type 0
OpeningAnswer told asked =
    Then (FilesAnswer told asked) (λ files.
    Then (Raised Network (NetworkAnswers files.events files.activities)) (λ net.
    Then (Raised Start (StartAnswers net files.event_delays files.activity_delays files.cancelled)) (λ rows.
    IsAnswer (record { net = net; rows = rows }))))

-- nothing is refused before the file is read
abbrev pub PassesBefore : Told → FilesAsked → File → Type 0
PassesBefore told asked Events = ⊤
PassesBefore told asked Activities = (events : List EventRow) × EventsAnswer told asked (Ok events)
PassesBefore told asked EventDelays =
    (events : List EventRow) × EventsAnswer told asked (Ok events) × (activities : List ActRow)
    × ActivitiesAnswer told asked (Ok activities)
PassesBefore told asked ActivityDelays =
    (events : List EventRow) × EventsAnswer told asked (Ok events) × (activities : List ActRow)
    × ActivitiesAnswer told asked (Ok activities)
    × (delays : List DelayRow) × EventDelaysAnswer told asked (Ok delays)
PassesBefore told asked CancelledEvents =
    (events : List EventRow) × EventsAnswer told asked (Ok events) × (activities : List ActRow)
    × ActivitiesAnswer told asked (Ok activities)
    × (delays : List DelayRow) × EventDelaysAnswer told asked (Ok delays)
    × (others : List DelayRow) × ActivityDelaysAnswer told asked (Ok others)

-- a file that the words name could not be read, where nothing is refused before it
pub record IsUnread (told : Told) (is_sound : List ℕ → Type 0) (asked : FilesAsked) (file : File) : Type 0 where
  pub name : List ℕ
  pub named : file_name asked file ≡ Some name
  pub passes : PassesBefore told asked file
  pub unsound : is_sound name → ⊥
