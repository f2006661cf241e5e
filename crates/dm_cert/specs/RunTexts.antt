-- The texts of runs in print, in both versions, and which runs have one.
use Rattle.std.specs.Prelude.{ℕ, ◌≡◌, ◌+◌, ◌≤◌, List, [], ◌∷◌, ◌++◌, length, codes, All}
use Rattle.std.specs.List.{flat_map, range_with_len}
use Rattle.std.specs.Fmt.{decimal}
use Rattle.dm_base.specs.declared.ids.ActId.{ActId}
use Rattle.dm_base.specs.declared.limits.TheConstants.{ENTRIES}
use Rattle.dm_outside.specs.Printing.{joined}
use Rattle.dm_network.specs.Net.{Net, event_at}
use Rattle.dm_rows.specs.declared.messages.Entry.{Entry}
use Rattle.dm_rows.specs.declared.messages.Refusal.{Refusal}
use Rattle.dm_rows.specs.declared.messages.Refusal.TheVariants as refusal
use Rattle.dm_rows.specs.Sides.{IsSorted}
use Rattle.dm_rows.specs.Timetable.{time_at}
use Rattle.dm_feed.specs.declared.grammar.Line.{Line}
use Rattle.dm_feed.specs.declared.grammar.Line.TheVariants as line
use Rattle.dm_feed.specs.declared.feed.FeedStop.{FeedStop}
use Rattle.dm_feed.specs.declared.feed.FeedStop.TheVariants.{End, Fault, Long}
use Rattle.dm_feed.specs.Parts.{Fits, largest_id, largest_value}
use Rattle.dm_feed.specs.Lines.{parts_of_choice, parts_of_line, parts_of_message, HasSortedChoice, IsSpelledLine, spelling_of_choice, spelling_of_line, spelling_of_message}
use Rattle.dm_cert.specs.declared.notes.Note.{Note}
use Rattle.dm_cert.specs.declared.replies.Reply.{Reply}
use Rattle.dm_cert.specs.declared.replies.Reply.TheVariants as reply
use Rattle.dm_cert.specs.declared.replies.LogItem.{LogItem}
use Rattle.dm_cert.specs.declared.replies.LogItem.TheVariants.{Malformed, Answered}
use Rattle.dm_cert.specs.declared.replies.FeedLog.{FeedLog}
use Rattle.dm_cert.specs.PlanTexts.{line_end, spelling_of_plan, FitsPlan, largest_cost}
use Rattle.dm_cert.specs.SolvedTexts.{spelling_of_solved, IsSpelledSolved, FitsSolved}

-- ---- log items

-- an id with a space in front
abbrev pub spaced_id : ActId → List ℕ
spaced_id a = 32 ∷ decimal a.0

-- why something is refused; want of memory has no spelling
abbrev pub reason_text : Refusal → List ℕ
reason_text (refusal.Range v) = joined (codes "range " ∷ decimal v ∷ [])
reason_text (refusal.UnknownEvent e) = joined (codes "unknown-event " ∷ decimal e.0 ∷ [])
reason_text (refusal.UnknownActivity a) = joined (codes "unknown-activity " ∷ decimal a.0 ∷ [])
reason_text (refusal.UnknownChange a) = joined (codes "unknown-change " ∷ decimal a.0 ∷ [])
reason_text (refusal.UnknownPair i j) = joined (codes "unknown-pair " ∷ decimal i.0 ∷ codes " " ∷ decimal j.0 ∷ [])
reason_text (refusal.Passed e t) = joined (codes "passed " ∷ decimal e.0 ∷ codes " " ∷ decimal t ∷ [])
reason_text (refusal.NotPassed e) = joined (codes "not-passed " ∷ decimal e.0 ∷ [])
reason_text (refusal.Cancelled e) = joined (codes "cancelled " ∷ decimal e.0 ∷ [])
reason_text (refusal.NotCancelled e) = joined (codes "not-cancelled " ∷ decimal e.0 ∷ [])
reason_text (refusal.Locked c) = joined (codes "locked " ∷ spelling_of_choice c ∷ [])
reason_text (refusal.NotLocked c) = joined (codes "not-locked " ∷ spelling_of_choice c ∷ [])
reason_text (refusal.Back c) = joined (codes "back " ∷ decimal c ∷ [])
reason_text (refusal.Cycle ids) = joined (codes "cycle" ∷ flat_map spaced_id ids ∷ [])
reason_text (refusal.Full n) = codes "full"
reason_text refusal.OutOfMemory = []

-- the answer to a line and its line end, and of a plan of either kind all its lines
unfoldable pub reply_text : ℕ → Reply → List ℕ
reply_text version (reply.Ok n) = joined (decimal n ∷ codes " ok" ∷ line_end ∷ [])
reply_text version (reply.Refused at) = joined (decimal at.entry ∷ codes " refused " ∷ reason_text at.why ∷ line_end ∷ [])
reply_text version (reply.Time n x) = joined (decimal n ∷ codes " time " ∷ decimal x ∷ line_end ∷ [])
reply_text version (reply.Cost n c) = joined (decimal n ∷ codes " cost " ∷ decimal c ∷ line_end ∷ [])
reply_text version (reply.Read n) = joined (decimal n ∷ codes " read" ∷ line_end ∷ [])
reply_text version (reply.Planned plan) = joined (decimal plan.entry ∷ codes " " ∷ spelling_of_plan version plan ∷ [])
reply_text version (reply.Solved plan) = joined (decimal plan.entry ∷ codes " " ∷ spelling_of_solved plan ∷ [])
reply_text version (reply.Old n) = joined (decimal n ∷ codes " old" ∷ line_end ∷ [])
reply_text version reply.NoPlan = joined (codes "noplan" ∷ line_end ∷ [])
reply_text version reply.Plans = joined (codes "plans" ∷ line_end ∷ [])
reply_text version (reply.Range b) = joined (codes "range " ∷ decimal b ∷ line_end ∷ [])

unfoldable pub item_text : ℕ → LogItem → List ℕ
item_text version (Malformed line) = joined (decimal line ∷ codes " malformed" ∷ line_end ∷ [])
item_text version (Answered line said answer) =
    joined (decimal line ∷ codes " " ∷ spelling_of_line said ∷ codes " -> " ∷ reply_text version answer ∷ [])

-- ---- logs, entries, notes and times

unfoldable pub feed_text : ℕ → ℕ → List ℕ
feed_text number items = joined (codes "feed " ∷ decimal number ∷ codes " " ∷ decimal items ∷ line_end ∷ [])

unfoldable pub stop_text : FeedStop → List ℕ
stop_text End = codes "end" ++ line_end
stop_text Fault = codes "fault" ++ line_end
stop_text Long = codes "long" ++ line_end

-- the log of the feed of this number
unfoldable pub log_text : ℕ → ℕ → FeedLog → List ℕ
log_text version number log =
    joined (feed_text number (length log.items) ∷ flat_map (item_text version) log.items ∷ stop_text log.stop ∷ [])

-- logs, of the feeds from this number on
abbrev pub logs_text : ℕ → ℕ → List FeedLog → List ℕ
logs_text version number [] = []
logs_text version number (log ∷ logs) = log_text version number log ++ logs_text version (number + 1) logs

unfoldable pub entry_text : ℕ → Entry → List ℕ
entry_text n entry =
    joined (codes "entry " ∷ decimal n ∷ codes " feed " ∷ decimal entry.feed ∷ codes " line " ∷ decimal entry.line ∷ codes " "
    ∷ spelling_of_message entry.message ∷ line_end ∷ [])

-- entries, from this number on
abbrev pub entries_text : ℕ → List Entry → List ℕ
entries_text n [] = []
entries_text n (entry ∷ entries) = entry_text n entry ++ entries_text (n + 1) entries

-- a board that was dropped
unfoldable pub note_text : Note → List ℕ
note_text note =
    joined (codes "board " ∷ decimal note.board ∷ codes " stop " ∷ decimal note.stop ∷ codes " dropped " ∷ decimal note.entry
    ∷ line_end ∷ [])

-- an event's id and time
unfoldable pub time_text : Net → List ℕ → ℕ → List ℕ
time_text net times i = joined (decimal (event_at net i).id.0 ∷ codes "; " ∷ decimal (time_at times i) ∷ line_end ∷ [])

-- the times of all events, in their order
unfoldable pub timetable_text : Net → List ℕ → List ℕ
timetable_text net times = flat_map (time_text net times) (range_with_len 0 (length net.events))

-- ---- the whole

unfoldable pub header_text : ℕ → ℕ → ℕ → ℕ → List ℕ
header_text version penalty feeds entries =
    joined (codes "dm-run " ∷ decimal version ∷ line_end ∷ codes "penalty " ∷ decimal penalty ∷ line_end
    ∷ codes "feeds " ∷ decimal feeds ∷ line_end ∷ codes "entries " ∷ decimal entries ∷ line_end ∷ [])

-- so many notes of boards follow
unfoldable pub boards_text : ℕ → List ℕ
boards_text notes = joined (codes "boards " ∷ decimal notes ∷ line_end ∷ [])

-- the times after so many entries follow
unfoldable pub heading_text : ℕ → List ℕ
heading_text entries = joined (codes "times " ∷ decimal entries ∷ line_end ∷ [])

unfoldable pub ending_text : ℕ → List ℕ
ending_text cost = joined (codes "cost " ∷ decimal cost ∷ line_end ∷ codes "done" ∷ line_end ∷ [])

-- What a run text shows: the penalty, the accepted messages, what each feed was answered, the boards that were dropped, and
-- the times of the network's events and their cost after all messages.
pub record Run : Type 0 where
  pub net : Net
  pub penalty : ℕ
  pub history : List Entry
  pub logs : List FeedLog
  pub notes : List Note
  pub times : List ℕ
  pub cost : ℕ

-- a run's one spelling in a version
unfoldable pub run_text : ℕ → Run → List ℕ
run_text version run =
    joined (header_text version run.penalty (length run.logs) (length run.history)
    ∷ entries_text 1 run.history
    ∷ logs_text version 1 run.logs
    ∷ boards_text (length run.notes)
    ∷ flat_map note_text run.notes
    ∷ heading_text (length run.history)
    ∷ timetable_text run.net run.times
    ∷ ending_text run.cost
    ∷ [])

-- ---- what has a spelling

-- of a locked pair the smaller id stands first, a history is full at so many entries alone, and want of memory is not told
abbrev pub IsSpelledReason : Refusal → Type 0
IsSpelledReason (refusal.Range v) = Unit {0}
IsSpelledReason (refusal.UnknownEvent e) = Unit {0}
IsSpelledReason (refusal.UnknownActivity a) = Unit {0}
IsSpelledReason (refusal.UnknownChange a) = Unit {0}
IsSpelledReason (refusal.UnknownPair i j) = Unit {0}
IsSpelledReason (refusal.Passed e t) = Unit {0}
IsSpelledReason (refusal.NotPassed e) = Unit {0}
IsSpelledReason (refusal.Cancelled e) = Unit {0}
IsSpelledReason (refusal.NotCancelled e) = Unit {0}
IsSpelledReason (refusal.Locked c) = IsSorted c
IsSpelledReason (refusal.NotLocked c) = IsSorted c
IsSpelledReason (refusal.Back c) = Unit {0}
IsSpelledReason (refusal.Cycle ids) = Unit {0}
IsSpelledReason (refusal.Full n) = n ≡ ENTRIES
IsSpelledReason refusal.OutOfMemory = ⊥

abbrev pub IsSpelledReply : Reply → Type 0
IsSpelledReply (reply.Ok n) = Unit {0}
IsSpelledReply (reply.Refused at) = IsSpelledReason at.why
IsSpelledReply (reply.Time n x) = Unit {0}
IsSpelledReply (reply.Cost n c) = Unit {0}
IsSpelledReply (reply.Read n) = Unit {0}
IsSpelledReply (reply.Planned plan) = Unit {0}
IsSpelledReply (reply.Solved plan) = IsSpelledSolved plan
IsSpelledReply (reply.Old n) = Unit {0}
IsSpelledReply reply.NoPlan = Unit {0}
IsSpelledReply reply.Plans = Unit {0}
IsSpelledReply (reply.Range b) = Unit {0}

-- an item's line says no adopted list
abbrev pub IsSpelledItem : LogItem → Type 0
IsSpelledItem (Malformed line) = Unit {0}
IsSpelledItem (Answered line said answer) = IsSpelledLine said × IsSpelledReply answer

abbrev pub IsSpelledLog : FeedLog → Type 0
IsSpelledLog log = All IsSpelledItem log.items

-- Version 1 has no words for plans by parts: neither the line that asks for one nor the answer.
abbrev pub KnowsLine : ℕ → Line → Type 0
KnowsLine version (line.Solve budget) = version ≡ 2
KnowsLine version _ = Unit {0}

abbrev pub KnowsReply : ℕ → Reply → Type 0
KnowsReply version (reply.Solved plan) = version ≡ 2
KnowsReply version _ = Unit {0}

abbrev pub KnowsItem : ℕ → LogItem → Type 0
KnowsItem version (Malformed line) = Unit {0}
KnowsItem version (Answered line said answer) = KnowsLine version said × KnowsReply version answer

abbrev pub KnowsLog : ℕ → FeedLog → Type 0
KnowsLog version log = All (KnowsItem version) log.items

-- every entry and every item has a spelling, and there is a time for each event
pub record IsSpelledRun (run : Run) : Type 0 where
  pub history : All (λ entry. HasSortedChoice entry.message) run.history
  pub logs : All IsSpelledLog run.logs
  pub times : length run.times ≡ length run.net.events

-- ---- what runs may hold

-- the numbers are not too large
abbrev pub FitsReason : Refusal → Type 0
FitsReason (refusal.Range v) = v ≤ largest_value
FitsReason (refusal.UnknownEvent e) = e.0 ≤ largest_id
FitsReason (refusal.UnknownActivity a) = a.0 ≤ largest_id
FitsReason (refusal.UnknownChange a) = a.0 ≤ largest_id
FitsReason (refusal.UnknownPair i j) = (i.0 ≤ largest_id) × (j.0 ≤ largest_id)
FitsReason (refusal.Passed e t) = (e.0 ≤ largest_id) × (t ≤ largest_value)
FitsReason (refusal.NotPassed e) = e.0 ≤ largest_id
FitsReason (refusal.Cancelled e) = e.0 ≤ largest_id
FitsReason (refusal.NotCancelled e) = e.0 ≤ largest_id
FitsReason (refusal.Locked c) = All Fits (parts_of_choice c)
FitsReason (refusal.NotLocked c) = All Fits (parts_of_choice c)
FitsReason (refusal.Back c) = c ≤ largest_value
FitsReason (refusal.Cycle ids) = All (λ a. a.0 ≤ largest_id) ids
FitsReason (refusal.Full n) = n ≤ largest_id
FitsReason refusal.OutOfMemory = Unit {0}

-- a plan's nodes are one whole tree besides
abbrev pub FitsReply : Reply → Type 0
FitsReply (reply.Ok n) = n ≤ largest_id
FitsReply (reply.Refused at) = (at.entry ≤ largest_id) × FitsReason at.why
FitsReply (reply.Time n x) = (n ≤ largest_id) × (x ≤ largest_value)
FitsReply (reply.Cost n c) = (n ≤ largest_id) × (c ≤ largest_cost)
FitsReply (reply.Read n) = n ≤ largest_id
FitsReply (reply.Planned plan) = (plan.entry ≤ largest_id) × FitsPlan plan
FitsReply (reply.Solved plan) = (plan.entry ≤ largest_id) × FitsSolved plan
FitsReply (reply.Old n) = n ≤ largest_id
FitsReply reply.NoPlan = Unit {0}
FitsReply reply.Plans = Unit {0}
FitsReply (reply.Range b) = b ≤ largest_value

abbrev pub FitsItem : LogItem → Type 0
FitsItem (Malformed line) = line ≤ largest_id
FitsItem (Answered line said answer) = (line ≤ largest_id) × All Fits (parts_of_line said) × FitsReply answer

abbrev pub FitsLog : FeedLog → Type 0
FitsLog log = All FitsItem log.items

abbrev pub FitsEntry : Entry → Type 0
FitsEntry entry =
    (entry.feed ≤ largest_id) × (entry.line ≤ largest_id) × All Fits (parts_of_message entry.message)

abbrev pub FitsNote : Note → Type 0
FitsNote note = (note.board ≤ largest_id) × (note.stop ≤ largest_id) × (note.entry ≤ largest_id)

-- Every number is one that its type holds: an id, a line and an entry are below 2^32, a value and a time below 2^64, and a
-- cost below 2^128.
pub record FitsRun (run : Run) : Type 0 where
  pub penalty : run.penalty ≤ largest_value
  pub history : All FitsEntry run.history
  pub logs : All FitsLog run.logs
  pub notes : All FitsNote run.notes
  pub times : All (λ x. x ≤ largest_value) run.times
  pub cost : run.cost ≤ largest_cost
