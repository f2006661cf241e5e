-- How the stages of reading make the whole.
use Rattle.std.proofs.Common.{◌≡◌, ℕ, List, Option, Some, None, Result, Ok, Err, refl, subst, ◌∙◌, inl, inr}
use Rattle.dm_base.specs.declared.rows.EventRow.{EventRow}
use Rattle.dm_base.specs.declared.rows.ActRow.{ActRow}
use Rattle.dm_base.specs.declared.rows.DelayRow.{DelayRow}
use Rattle.dm_lintim.specs.declared.fault.FileFault.{FileFault}
use Rattle.dm_lintim.specs.Files.{ReadsActivities, ReadsDelays, ReadsIds}
use Rattle.dm_network.specs.Net.{Net}
use Rattle.dm_rows.specs.Rows.{RowsValue}
use Rattle.dm_input.specs.declared.flaws.File.{File}
use Rattle.dm_input.specs.declared.flaws.File.TheVariants.{Activities, EventDelays, ActivityDelays, CancelledEvents}
use Rattle.dm_input.specs.declared.flaws.InputFlaw.{InputFlaw}
use Rattle.dm_input.specs.declared.flaws.InputFlaw.TheVariants.{InFile, Network, Start}
use Rattle.dm_input.specs.declared.flaws.InputStop.{InputStop}
use Rattle.dm_input.specs.declared.flaws.InputStop.TheVariants.{Refused, ReadFault, NoMemory}
use Rattle.dm_words.specs.Words.{FilesAsked}
use Rattle.dm_input.specs.Input.{Told, NamedAnswers, FileStage, EventsAnswer, ActivitiesAnswer, EventDelaysAnswer, ActivityDelaysAnswer, CancelledEventsAnswer, FilesAnswer, FileRows, NetworkAnswers, StartAnswers, OpeningAnswer, PassesBefore, Raised, file_name}
use Rattle.dm_input.specs.Stops.{IsKept, StopsOpening}
use Rattle.dm_input.specs.Inside.Stages.{StopsAtFile, StopsAtName, StopsMaking}

-- what a kept shelf tells, it told before
pub kept_then : {H : Type 0} {files : H → Told} {is_sound : H → List ℕ → Type 0} {a b c : H} → IsKept files is_sound a b → IsKept files is_sound b c → IsKept files is_sound a c
kept_then p q = record { same = q.same ∙ p.same; sound = λ name s. q.sound name (p.sound name s) }

pub answers_back : {R : Type 0} {H : Type 0} {files : H → Told} {is_sound : H → List ℕ → Type 0} {a b : H} (name : Option (List ℕ)) (file : File) (Reads : List ℕ → Result (List R) FileFault → Type 0) (answer : Result (List R) InputFlaw)
    → IsKept files is_sound a b → FileStage (files b) name file Reads answer → FileStage (files a) name file Reads answer
answers_back {R} name file Reads answer kept h = subst (λ told. FileStage told name file Reads answer) kept.same h

-- what was read of the first three files, each told by the shelf behind the one before, the shelf told at first
pub record ThreeRead {H : Type 0} (files : H → Told) (is_sound : H → List ℕ → Type 0) (before now : H) (asked : FilesAsked) (act_rows : List ActRow) (delay_rows : List DelayRow) : Type 0 where
  pub kept : IsKept files is_sound before now
  pub activities : ActivitiesAnswer (files before) asked (Ok act_rows)
  pub delays : EventDelaysAnswer (files before) asked (Ok delay_rows)

pub three_read : {H : Type 0} {files : H → Told} {is_sound : H → List ℕ → Type 0} {a b c d : H} (asked : FilesAsked) (act_rows : List ActRow) (delay_rows : List DelayRow)
    → IsKept files is_sound a b → IsKept files is_sound b c → IsKept files is_sound c d
    → ActivitiesAnswer (files b) asked (Ok act_rows) → EventDelaysAnswer (files c) asked (Ok delay_rows) → ThreeRead files is_sound a d asked act_rows delay_rows
three_read asked act_rows delay_rows first second third activities delays = record {
  kept = kept_then (kept_then first second) third;
  activities = answers_back (file_name asked Activities) Activities (ReadsActivities asked.columns.activities) (Ok act_rows) first activities;
  delays = answers_back (file_name asked EventDelays) EventDelays ReadsDelays (Ok delay_rows) (kept_then first second) delays;
}

-- the same of the first four files
pub record FourRead {H : Type 0} (files : H → Told) (is_sound : H → List ℕ → Type 0) (before now : H) (asked : FilesAsked) (act_rows : List ActRow) (delay_rows act_delay_rows : List DelayRow) : Type 0 where
  pub kept : IsKept files is_sound before now
  pub activities : ActivitiesAnswer (files before) asked (Ok act_rows)
  pub delays : EventDelaysAnswer (files before) asked (Ok delay_rows)
  pub act_delays : ActivityDelaysAnswer (files before) asked (Ok act_delay_rows)

pub four_read : {H : Type 0} {files : H → Told} {is_sound : H → List ℕ → Type 0} {a d e : H} (asked : FilesAsked) (act_rows : List ActRow) (delay_rows act_delay_rows : List DelayRow)
    → ThreeRead files is_sound a d asked act_rows delay_rows → IsKept files is_sound d e → ActivityDelaysAnswer (files d) asked (Ok act_delay_rows)
    → FourRead files is_sound a e asked act_rows delay_rows act_delay_rows
four_read asked act_rows delay_rows act_delay_rows three fourth act_delays = record {
  kept = kept_then three.kept fourth;
  activities = three.activities;
  delays = three.delays;
  act_delays = answers_back (file_name asked ActivityDelays) ActivityDelays ReadsDelays (Ok act_delay_rows) three.kept act_delays;
}

stops_back_name : {R : Type 0} {H : Type 0} {files : H → Told} {is_sound : H → List ℕ → Type 0} {a b : H} (name : List ℕ) (file : File) (Reads : List ℕ → Result (List R) FileFault → Type 0) (stop : InputStop)
    → IsKept files is_sound a b → StopsAtName (files b) (is_sound b) name file Reads stop → StopsAtName (files a) (is_sound a) name file Reads stop
stops_back_name {R} name file Reads (Refused flaw) kept h = subst (λ told. Raised (InFile file) (NamedAnswers told name Reads) (Err flaw)) kept.same h
stops_back_name name file Reads (ReadFault at) kept h = (h.0, λ s. h.1 (kept.sound name s))
stops_back_name name file Reads NoMemory kept h = h

pub stops_back : {R : Type 0} {H : Type 0} {files : H → Told} {is_sound : H → List ℕ → Type 0} {a b : H} (name : Option (List ℕ)) (file : File) (Reads : List ℕ → Result (List R) FileFault → Type 0) (stop : InputStop)
    → IsKept files is_sound a b → StopsAtFile (files b) (is_sound b) name file Reads stop → StopsAtFile (files a) (is_sound a) name file Reads stop
stops_back None file Reads stop kept h = h
stops_back (Some name) file Reads stop kept h = stops_back_name name file Reads stop kept h

-- a file at which the reading stops, where what comes before it passes, and where its refusal is the first
stops_at : {R : Type 0} (told : Told) (is_sound : List ℕ → Type 0) (asked : FilesAsked) (file : File) (name : Option (List ℕ)) (Reads : List ℕ → Result (List R) FileFault → Type 0) (stop : InputStop)
    → file_name asked file ≡ name → PassesBefore told asked file
    → ((flaw : InputFlaw) → FileStage told name file Reads (Err flaw) → OpeningAnswer told asked (Err flaw))
    → StopsAtFile told is_sound name file Reads stop → StopsOpening told is_sound asked stop
stops_at told is_sound asked file None Reads stop named passes refuses h = rw h tt
stops_at told is_sound asked file (Some name) Reads (Refused flaw) named passes refuses h = refuses flaw h
stops_at told is_sound asked file (Some name) Reads (ReadFault at) named passes refuses h =
    rw h.0 (record { name = name; named = named; passes = passes; unsound = h.1 })
stops_at told is_sound asked file (Some name) Reads NoMemory named passes refuses h = tt

module _ (told : Told) (is_sound : List ℕ → Type 0) (asked : FilesAsked) where
  pub stops_event_delays : (events : List EventRow) (activities : List ActRow) (stop : InputStop) → EventsAnswer told asked (Ok events) → ActivitiesAnswer told asked (Ok activities)
      → StopsAtFile told is_sound (file_name asked EventDelays) EventDelays ReadsDelays stop → StopsOpening told is_sound asked stop
  stops_event_delays events activities stop e a h =
      stops_at told is_sound asked EventDelays (file_name asked EventDelays) ReadsDelays stop refl (events, e, activities, a)
      (λ flaw d. inl (inr (events, e, inr (activities, a, inl d)))) h

  pub stops_activity_delays : (events : List EventRow) (activities : List ActRow) (delays : List DelayRow) (stop : InputStop)
      → EventsAnswer told asked (Ok events) → ActivitiesAnswer told asked (Ok activities) → EventDelaysAnswer told asked (Ok delays)
      → StopsAtFile told is_sound (file_name asked ActivityDelays) ActivityDelays ReadsDelays stop → StopsOpening told is_sound asked stop
  stops_activity_delays events activities delays stop e a d h =
      stops_at told is_sound asked ActivityDelays (file_name asked ActivityDelays) ReadsDelays stop refl (events, e, activities, a, delays, d)
      (λ flaw x. inl (inr (events, e, inr (activities, a, inr (delays, d, inl x))))) h

  pub stops_cancelled : (events : List EventRow) (activities : List ActRow) (delays others : List DelayRow) (stop : InputStop)
      → EventsAnswer told asked (Ok events) → ActivitiesAnswer told asked (Ok activities) → EventDelaysAnswer told asked (Ok delays) → ActivityDelaysAnswer told asked (Ok others)
      → StopsAtFile told is_sound (file_name asked CancelledEvents) CancelledEvents ReadsIds stop → StopsOpening told is_sound asked stop
  stops_cancelled events activities delays others stop e a d x h =
      stops_at told is_sound asked CancelledEvents (file_name asked CancelledEvents) ReadsIds stop refl (events, e, activities, a, delays, d, others, x)
      (λ flaw c. inl (inr (events, e, inr (activities, a, inr (delays, d, inr (others, x, inl c)))))) h

  -- the files are read, and what they make is refused
  pub stops_network : (files : FileRows) (stop : InputStop) → FilesAnswer told asked (Ok files) → StopsMaking Network (NetworkAnswers files.events files.activities) stop → StopsOpening told is_sound asked stop
  stops_network files (Refused flaw) f h = inr (files, f, inl h)
  stops_network files (ReadFault file) f h = absurd h
  stops_network files NoMemory f h = tt

  pub stops_start : (files : FileRows) (net : Net) (stop : InputStop) → FilesAnswer told asked (Ok files) → NetworkAnswers files.events files.activities (Ok net)
      → StopsMaking Start (StartAnswers net files.event_delays files.activity_delays files.cancelled) stop → StopsOpening told is_sound asked stop
  stops_start files net (Refused flaw) f n h = inr (files, f, inr (net, n, inl h))
  stops_start files net (ReadFault file) f n h = absurd h
  stops_start files net NoMemory f n h = tt

pub files_answer : (told : Told) (asked : FilesAsked) (events : List EventRow) (activities : List ActRow) (event_delays activity_delays : List DelayRow) (cancelled : List ℕ)
    → EventsAnswer told asked (Ok events) → ActivitiesAnswer told asked (Ok activities) → EventDelaysAnswer told asked (Ok event_delays) → ActivityDelaysAnswer told asked (Ok activity_delays)
    → CancelledEventsAnswer told asked (Ok cancelled)
    → FilesAnswer told asked (Ok (record { events = events; activities = activities; event_delays = event_delays; activity_delays = activity_delays; cancelled = cancelled }))
files_answer told asked events activities event_delays activity_delays cancelled e a d x c =
    (events, e, (activities, a, (event_delays, d, (activity_delays, x, (cancelled, c, refl)))))

pub opening_answer : (told : Told) (asked : FilesAsked) (files : FileRows) (net : Net) (rows : RowsValue) → FilesAnswer told asked (Ok files)
    → NetworkAnswers files.events files.activities (Ok net) → StartAnswers net files.event_delays files.activity_delays files.cancelled (Ok rows)
    → OpeningAnswer told asked (Ok (record { net = net; rows = rows }))
opening_answer told asked files net rows f n s = (files, f, (net, n, (rows, s, refl)))
