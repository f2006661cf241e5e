-- What a function that judges a part of a text answers.
use Rattle.std.specs.Prelude.{ℕ, ◌≡◌, ◌+◌, ◌-◌, ◌*◌, ◌<◌, ◌≤◌, nat_lt, Bool, true, false, List, [], ◌∷◌, ◌++◌, length, map, count_by, slice_index_or, Option, Some, None, Result, Ok, Err}
use Rattle.dm_network.specs.Net.{Net}
use Rattle.dm_rows.specs.Rows.{RowsValue, IsSized}
use Rattle.dm_rows.specs.declared.messages.Entry.{Entry}
use Rattle.dm_cert.specs.Answers.{Setting, rows_after}
use Rattle.dm_records.specs.RunLines.{Numbered, PlanOpening, ItemLine}
use Rattle.dm_cert.specs.declared.notes.Note.{Note}
use Rattle.dm_cert.specs.declared.replies.LogItem.{LogItem}
use Rattle.dm_cert.specs.declared.replies.LogItem.TheVariants.{Answered}
use Rattle.dm_cert.specs.declared.replies.Reply.TheVariants.{Planned}
use Rattle.dm_cert.specs.declared.replies.FeedLog.{FeedLog}
use Rattle.dm_cert.specs.Answers.{is_plan}
use Rattle.dm_cert.specs.Logs.{names, all_items}
use Rattle.dm_base.specs.declared.limits.TheConstants.{FEEDS, ENTRIES}
use Rattle.dm_cert.specs.declared.limits.TheConstants.{PLANS}
use Rattle.dm_cert.specs.RunTexts.{Run}
use Rattle.dm_check.specs.declared.checking.Counts.{Counts}
use Rattle.dm_check.specs.declared.checking.Header.{Header}
use Rattle.dm_tree.specs.declared.plans.Plan.{Plan}
use Rattle.dm_check_answers.specs.declared.past.Past.{Past}
use Rattle.dm_check_answers.specs.Judging.{IsPast}
use Rattle.dm_check.specs.declared.told_notes.Notes.{Notes}
use Rattle.dm_check.specs.declared.verdicts.BadKind.TheVariants.{Plan as PlanKind}
use Rattle.dm_check.specs.FalseRecords.{bad, TellsEntry, TellsTime, TellsNote, TellsBehind, TellsItem, TellsLog, TellsEnding, TellsRest, TellsBody, TellsRun, TellsPlanBehind, IsNextItem, entry_before}
use Rattle.dm_text.specs.Places.{Place}
use Rattle.dm_text.specs.Judging.{Then, Times}
use Rattle.dm_check.specs.declared.faults.Fault.{Fault}
use Rattle.dm_check.specs.declared.faults.Stop.{Stop}
use Rattle.dm_check.specs.declared.faults.Stop.TheVariants.{Fault as Found, OutOfMemory}

-- what is told at the place, which then lies behind what was read
abbrev pub Judges : {V X : Type 0} → (Place → Result (V × Place) Fault → Type 0) → (X → V) → Place → Place → Result X Fault → Type 0
Judges tells seen old new (Ok x) = tells old (Ok (seen x, new))
Judges tells seen old new (Err fault) = tells old (Err fault)

-- the same, but that want of memory may be answered at any time
abbrev pub Judged : {V X : Type 0} → (Place → Result (V × Place) Fault → Type 0) → (X → V) → Place → Place → Result X Stop → Type 0
Judged tells seen old new (Ok x) = tells old (Ok (seen x, new))
Judged tells seen old new (Err (Found fault)) = tells old (Err fault)
Judged tells seen old new (Err OutOfMemory) = Unit {0}

-- something is told at the place of which this holds; the place then lies behind what was read
pub record ToldThat {V : Type 0} (tells : Place → Result (V × Place) Fault → Type 0) (holds : V → Type 0) (old new : Place) : Type 0 where
  pub value : V
  pub told : tells old (Ok (value, new))
  pub holds_of : holds value

-- The same as `Judged` where the code does not make the value that is told, but knows something of it.
abbrev pub JudgedThat : {V X : Type 0} → (Place → Result (V × Place) Fault → Type 0) → (X → V → Type 0) → Place → Place →
    Result X Stop → Type 0
JudgedThat tells holds old new (Ok x) = ToldThat tells (holds x) old new
JudgedThat tells holds old new (Err (Found fault)) = tells old (Err fault)
JudgedThat tells holds old new (Err OutOfMemory) = Unit {0}

-- ---- entries

-- so many entries stand before, and these are the rows after them
pub record IsAfter (s : Setting) (net : Net) (before : List Entry) (n : ℕ) (rows : RowsValue) : Type 0 where
  pub net_is : s.net ≡ net
  pub count : length before ≡ n
  pub rows_are : rows ≡ rows_after s before n

-- the entry's number is the next, its feed is one of so many, and its line is one
pub record IsInTurn (feeds entries : ℕ) (said : Numbered) : Type 0 where
  pub number : said.number ≡ entries + 1
  pub feed : said.entry.feed ≤ feeds
  pub line : 1 ≤ said.entry.line

-- the next entry is told, and the rows are those after it
pub record EntersNext (s : Setting) (feeds : ℕ) (before : List Entry) (n : ℕ) (old new : Place) (rows : RowsValue)
    (entry : Entry) : Type 0 where
  pub told : TellsEntry s feeds before old (Ok (entry, new))
  pub rows_are : rows ≡ rows_after s (before ++ entry ∷ []) (n + 1)
  pub sized : IsSized s.net rows

abbrev pub TellsNextEntry : Setting → ℕ → List Entry → ℕ → Place → Place → RowsValue → Result Entry Stop → Type 0
TellsNextEntry s feeds before n old new rows (Ok entry) = EntersNext s feeds before n old new rows entry
TellsNextEntry s feeds before n old new rows (Err (Found fault)) = TellsEntry s feeds before old (Err fault)
TellsNextEntry s feeds before n old new rows (Err OutOfMemory) = Unit {0}

-- all entries are told, and the rows are those after them
pub record EntersAll (s : Setting) (feeds count : ℕ) (old new : Place) (rows : RowsValue) (history : List Entry) : Type 0 where
  pub told : Times count (TellsEntry s feeds) [] old (Ok (history, new))
  pub rows_are : rows ≡ rows_after s history (length history)
  pub sized : IsSized s.net rows

abbrev pub TellsEntries : {X : Type 0} → (X → List Entry) → Setting → ℕ → ℕ → Place → Place → RowsValue → Result X Stop → Type 0
TellsEntries seen s feeds count old new rows (Ok entries) = EntersAll s feeds count old new rows (seen entries)
TellsEntries seen s feeds count old new rows (Err (Found fault)) = Times count (TellsEntry s feeds) [] old (Err fault)
TellsEntries seen s feeds count old new rows (Err OutOfMemory) = Unit {0}

-- ---- times

-- the times of all events are told
pub record ToldTimetable (net : Net) (rows : RowsValue) (old new : Place) : Type 0 where
  pub times : List ℕ
  pub told : Times (length net.events) (TellsTime net rows) [] old (Ok (times, new))

abbrev pub TellsTimetable : Net → RowsValue → Place → Place → Result (Unit {0}) Fault → Type 0
TellsTimetable net rows old new (Ok said) = ToldTimetable net rows old new
TellsTimetable net rows old new (Err fault) = Times (length net.events) (TellsTime net rows) [] old (Err fault)

-- ---- plans

-- The lines of a plan's block are read, and this is its plan. So what is told goes by whether the plan is the next item.
pub record ShowsPlan (version : ℕ) (opening : PlanOpening) (old new : Place) (plan : Plan) : Type 0 where
  pub is_next : (s : Setting) (history : List Entry) (feed : ℕ) (before : List LogItem) (first : ℕ) → s.version ≡ version →
      IsNextItem s history feed before (Answered opening.line opening.said (Planned plan)) →
      TellsPlanBehind s history feed before opening first old (Ok (Answered opening.line opening.said (Planned plan), new))
  pub is_none : (s : Setting) (history : List Entry) (feed : ℕ) (before : List LogItem) (first : ℕ) → s.version ≡ version →
      (IsNextItem s history feed before (Answered opening.line opening.said (Planned plan)) → ⊥) →
      TellsPlanBehind s history feed before opening first old (Err (bad PlanKind first))

-- a plan's block in a version: its plan, or that it shows none, or a line of it that is cut or misshapen
abbrev pub TellsBlock : ℕ → PlanOpening → Place → Place → Result (Option Plan) Stop → Type 0
TellsBlock version opening old new (Ok (Some plan)) = ShowsPlan version opening old new plan
TellsBlock version opening old new (Ok None) =
    (s : Setting) (history : List Entry) (feed : ℕ) (before : List LogItem) (first : ℕ) → s.version ≡ version →
    TellsPlanBehind s history feed before opening first old (Err (bad PlanKind first))
TellsBlock version opening old new (Err (Found fault)) =
    (s : Setting) (history : List Entry) (feed : ℕ) (before : List LogItem) (first : ℕ) → s.version ≡ version →
    TellsPlanBehind s history feed before opening first old (Err fault)
TellsBlock version opening old new (Err OutOfMemory) = Unit {0}

-- ---- log items

-- a flag for each entry: whether some item names it as accepted
abbrev pub AreFlagged : List LogItem → List Bool → Type 0
AreFlagged items named = (n : ℕ) → n < length named → slice_index_or named n false ≡ nat_lt 0 (count_by (names (n + 1)) items)

-- the entry of this number, from 1, is flagged besides
pub record IsFlaggedAt (number : ℕ) (old new : List Bool) : Type 0 where
  pub size : length new ≡ length old
  pub here : 0 < number → number ≤ length old → slice_index_or new (number - 1) false ≡ true
  pub elsewhere : (n : ℕ) → n < length old → (n + 1 ≡ number → ⊥) → slice_index_or new n false ≡ slice_index_or old n false

-- what is kept of the items before one goes on with it
pub record KeepsItem (before : List LogItem) (past : Past) (flags named : List Bool) (answered : LogItem) : Type 0 where
  pub past_is : IsPast (before ++ answered ∷ []) past
  pub size : length named ≡ length flags
  pub flagged : (items : List LogItem) → AreFlagged items flags → AreFlagged (items ++ answered ∷ []) named

-- there are so many plans among the items, and the entries are flagged that they name
pub record KeepsItems (plans : ℕ) (flags named : List Bool) (answered : List LogItem) : Type 0 where
  pub plans_are : plans ≡ count_by is_plan answered
  pub few : plans ≤ PLANS
  pub size : length named ≡ length flags
  pub flagged : (items : List LogItem) → AreFlagged items flags → AreFlagged (items ++ answered) named

-- what stands behind the first line of an item
abbrev pub BehindOn : Setting → List Entry → ℕ → List LogItem → ℕ → ItemLine → Place → Place → Past → List Bool → List Bool →
    Result (Unit {0}) Stop → Type 0
BehindOn s history feed before first said old new past flags named =
    JudgedThat (TellsBehind s history feed before first said) (λ done answered. KeepsItem before past flags named answered) old new

abbrev pub ItemOn : Setting → List Entry → ℕ → List LogItem → Place → Place → Past → List Bool → List Bool → Result (Unit {0}) Stop → Type 0
ItemOn s history feed before old new past flags named =
    JudgedThat (TellsItem s history feed before) (λ done answered. KeepsItem before past flags named answered) old new

abbrev pub ItemsOn : Setting → List Entry → ℕ → ℕ → Place → Place → List Bool → List Bool → Result ℕ Stop → Type 0
ItemsOn s history feed count old new flags named =
    JudgedThat (Times count (TellsItem s history feed) []) (λ plans answered. KeepsItems plans flags named answered) old new

-- ---- logs

abbrev pub LogOn : Setting → List Entry → List FeedLog → Place → Place → List Bool → List Bool → Result ℕ Stop → Type 0
LogOn s history before old new flags named =
    JudgedThat (TellsLog s history before) (λ plans log. KeepsItems plans flags named log.items) old new

-- there are so many plans in the logs, and the entries are flagged that they name
pub record KeepsLogs (plans : ℕ) (flags named : List Bool) (logs : List FeedLog) : Type 0 where
  pub plans_are : plans ≡ count_by is_plan (all_items logs)
  pub few : plans ≤ PLANS * length logs
  pub size : length named ≡ length flags
  pub flagged : AreFlagged (all_items logs) named

abbrev pub LogsOn : Setting → List Entry → ℕ → Place → Place → List Bool → List Bool → Result ℕ Stop → Type 0
LogsOn s history feeds old new flags named =
    JudgedThat (Times feeds (TellsLog s history) []) (λ plans logs. KeepsLogs plans flags named logs) old new

-- ---- notes

-- these are the boards of the notes, and the entry of the last
pub record AreBefore (before : List Note) (notes : Notes) : Type 0 where
  pub boards : notes.boards.items ≡ map (λ (n : Note). n.board) before
  pub entry : notes.entry ≡ entry_before before

abbrev pub NotesOn : List Entry → List Note → Place → Place → Notes → Result (Unit {0}) Stop → Type 0
NotesOn history before old new notes = JudgedThat (TellsNote history before) (λ done note. AreBefore (before ++ note ∷ []) notes) old new

abbrev pub TellsNotes : List Entry → ℕ → Place → Place → Result (Unit {0}) Stop → Type 0
TellsNotes history count old new = JudgedThat (Times count (TellsNote history) []) (λ done notes. Unit {0}) old new

-- ---- the whole

-- the run has these entries and logs
pub record HasLogs (history : List Entry) (logs : List FeedLog) (run : Run) : Type 0 where
  pub history_is : run.history ≡ history
  pub logs_are : run.logs ≡ logs

abbrev pub EndingOn : Setting → List Entry → List FeedLog → List Note → RowsValue → Place → Place → Result (Unit {0}) Stop → Type 0
EndingOn s history logs notes rows old new =
    JudgedThat (TellsEnding s history logs notes rows) (λ done run. HasLogs history logs run) old new

abbrev pub RestOn : Setting → List Entry → List FeedLog → Place → Place → Result (Unit {0}) Stop → Type 0
RestOn s history logs old new = JudgedThat (TellsRest s history logs) (λ done run. HasLogs history logs run) old new

-- there are no more feeds and no more entries than a run may have
pub record IsHeader (h : Header) : Type 0 where
  pub few : h.feeds ≤ FEEDS
  pub few_entries : h.entries ≤ ENTRIES

-- the run has these entries, and so many plans
pub record HasPlans (history : List Entry) (plans : ℕ) (run : Run) : Type 0 where
  pub history_is : run.history ≡ history
  pub plans_are : plans ≡ count_by is_plan (all_items run.logs)
  pub few : plans ≤ PLANS * FEEDS

abbrev pub LogsAndRestOn : Setting → List Entry → ℕ → Place → Place → Result ℕ Stop → Type 0
LogsAndRestOn s history feeds old new =
    JudgedThat (Then (Times feeds (TellsLog s history) []) (λ logs. TellsRest s history logs))
    (λ plans run. HasPlans history plans run) old new

-- the run has so many entries and plans
pub record IsCounted (counts : Counts) (run : Run) : Type 0 where
  pub entries_are : counts.entries ≡ length run.history
  pub plans_are : counts.plans ≡ count_by is_plan (all_items run.logs)

abbrev pub HistoryOn : Setting → ℕ → ℕ → Place → Place → Result Counts Stop → Type 0
HistoryOn s feeds entries old new =
    JudgedThat (Then (Times entries (TellsEntry s feeds) [])
    (λ history. Then (Times feeds (TellsLog s history) []) (λ logs. TellsRest s history logs)))
    (λ counts run. IsCounted counts run) old new

abbrev pub BodyOn : Setting → Place → Place → Result Counts Stop → Type 0
BodyOn s old new = JudgedThat (TellsBody s) (λ counts run. IsCounted counts run) old new

abbrev pub RunOn : Net → RowsValue → ℕ → ℕ → Place → Place → Result Counts Stop → Type 0
RunOn net start penalty most_plans old new = JudgedThat (TellsRun net start penalty most_plans) (λ counts run. IsCounted counts run) old new
