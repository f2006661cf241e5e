-- What is told of the text of a run: the run, or the first record that breaks its rule.
--
-- Each record has a judge: its form comes before its truth, and what it must say goes by the records before it. The judges
-- stand one behind the other in the order of the records, and the first fault is that of all.
use Rattle.std.specs.Prelude.{ℕ, ◌≡◌, ◌==◌, ◌+◌, ◌<◌, ◌≤◌, List, [], length, fold, count_by, codes, All, Result, Ok, Err, MatchBool}
use Rattle.dm_base.specs.declared.limits.TheConstants.{FEEDS, BOARDS, ENTRIES}
use Rattle.dm_text.specs.Places.{Place, at_start}
use Rattle.dm_text.specs.Judging.{Line, Then, Times, Demands, Finds, Gives}
use Rattle.dm_network.specs.Net.{Net, event_at}
use Rattle.dm_rows.specs.declared.messages.Decision.{Decision}
use Rattle.dm_rows.specs.declared.messages.Entry.{Entry}
use Rattle.dm_rows.specs.declared.messages.Refusal.{Refusal}
use Rattle.dm_rows.specs.Rows.{RowsValue}
use Rattle.dm_rows.specs.Timetable.{time_at, IsLeast}
use Rattle.dm_rows.specs.Cost.{Costs}
use Rattle.dm_rows.specs.Refuse.{Refuses}
use Rattle.dm_tree.specs.declared.forms.Node.{Node}
use Rattle.dm_tree.specs.declared.plans.Plan.{Plan}
use Rattle.dm_cert.specs.declared.notes.Note.{Note}
use Rattle.dm_cert.specs.declared.replies.LogItem.{LogItem}
use Rattle.dm_cert.specs.declared.replies.LogItem.TheVariants.{Answered}
use Rattle.dm_cert.specs.declared.replies.Reply.TheVariants.{Planned}
use Rattle.dm_cert.specs.declared.replies.FeedLog.{FeedLog}
use Rattle.dm_cert.specs.Answers.{Setting, rows_after, is_plan, IsTrueAnswer}
use Rattle.dm_cert.specs.Logs.{kind_of, line_of, Follows, names, all_items}
use Rattle.dm_cert.specs.PlansRead.{IsChoiceLine, IsLeafLine, IsNodeLine, ShowsLeaves, ShowsNodes}
use Rattle.dm_cert.specs.RunTexts.{Run}
use Rattle.dm_cert.specs.SolvedRead.{TellsSolvedBehind}
use Rattle.dm_cert.specs.declared.faults.CertFault.{CertFault}
use Rattle.dm_cert.specs.declared.faults.CertKind.{CertKind}
use Rattle.dm_cert.specs.declared.faults.CertKind.TheVariants as cert
use Rattle.dm_cert.specs.Runs.{IsTrueNote}
use Rattle.dm_check_answers.specs.Judging.{line_before, number_before}
use Rattle.dm_records.specs.RunLines.{Numbered, PlanOpening, SolvedOpening, ItemLine, lone, planned, solved, Timed, heading_of, solved_item, IsNumberLine, IsVersionLine, IsEntryLine, IsOpeningLine, IsItemLine, IsStopLine, IsNoteLine, IsTimeLine, IsWordLine}
use Rattle.dm_check.specs.declared.faults.Fault.{Fault}
use Rattle.dm_check.specs.declared.verdicts.BadKind.{BadKind}
use Rattle.dm_check.specs.declared.verdicts.BadKind.TheVariants as kind
use Rattle.dm_check.specs.declared.verdicts.Verdict.{Verdict}
use Rattle.dm_check.specs.declared.verdicts.Verdict.TheVariants.{Good, Bad}

-- ---- faults, each told by its line and its kind

abbrev pub bad : BadKind → ℕ → Fault
bad k line = record { line = line; kind = k }

-- the next line, cut or misshapen where it is not one of these
abbrev pub Reads : {V : Type 0} → (V → List ℕ → Type 0) → Place → Result (V × Place) Fault → Type 0
Reads spells = Line (bad kind.Truncated) (bad kind.Form) spells

-- The next line, and a rule for what it says. Where the rule is broken the fault is of this kind, at this line.
abbrev pub Rules : {V W : Type 0} → (V → List ℕ → Type 0) → (V → Type 0) → BadKind → (V → W) → Place → Result (W × Place) Fault → Type 0
Rules spells rule k gives place = Then (Reads spells) (λ v. Demands (rule v) (bad k place.line) (gives v)) place

-- ---- entries

-- The next entry in turn: its number, a feed that there is, some line, and a message that nothing refuses in the rows after
-- the entries before it.
pub record IsNextEntry (s : Setting) (feeds : ℕ) (before : List Entry) (said : Numbered) : Type 0 where
  pub number : said.number ≡ length before + 1
  pub feed : said.entry.feed ≤ feeds
  pub line : 1 ≤ said.entry.line
  pub accepted : (r : Refusal) → Refuses s.net (rows_after s before (length before)) (length before) said.entry.message r → ⊥

abbrev pub TellsEntry : Setting → ℕ → List Entry → Place → Result (Entry × Place) Fault → Type 0
TellsEntry s feeds before = Rules IsEntryLine (IsNextEntry s feeds before) kind.Entry (λ said. said.entry)

-- ---- logs

-- the next item of the log of the feed of this number: its line and its entry number are in order, and it is true
pub record IsNextItem (s : Setting) (history : List Entry) (feed : ℕ) (before : List LogItem) (answered : LogItem) : Type 0 where
  pub line : line_before before < line_of answered
  pub number : Follows (number_before before) (kind_of answered)
  pub is_true : IsTrueAnswer s history feed before answered

-- the plan of an item's first line, these choices and these nodes
abbrev pub plan_opened : PlanOpening → List Decision → List Node → Plan
plan_opened opening choices nodes =
    record {
      entry = opening.entry;
      choices = choices;
      cost = opening.cost;
      bound = opening.bound;
      mark = opening.mark;
      tree = nodes;
    }

-- the plan behind an item's first line is this one's, of which the tree shows as was read, and the item is the next one
pub record IsNextPlan (s : Setting) (history : List Entry) (feed : ℕ) (before : List LogItem) (opening : PlanOpening)
    (choices : List Decision)
    (Shows : List Node → Type 0) (answered : LogItem) : Type 0 where
  pub nodes : List Node
  pub shown : Shows nodes
  pub is : answered ≡ Answered opening.line opening.said (Planned (plan_opened opening choices nodes))
  pub next : IsNextItem s history feed before answered

-- the lines of a plan behind its first line, all read before any rule is asked; a broken rule is told of the first line
abbrev pub TellsPlanBehind : Setting → List Entry → ℕ → List LogItem → PlanOpening → ℕ → Place → Result (LogItem × Place) Fault → Type 0
TellsPlanBehind s history feed before opening first =
    Then (Times opening.choices (λ read. Reads IsChoiceLine) []) (λ choices place answer.
    MatchBool (s.version == 1)
    (Then (Times opening.size (λ read. Reads IsLeafLine) [])
    (λ leaves. Finds (IsNextPlan s history feed before opening choices (ShowsLeaves leaves)) (bad kind.Plan first)) place answer)
    (Then (Times opening.size (λ read. Reads IsNodeLine) [])
    (λ nodes. Finds (IsNextPlan s history feed before opening choices (ShowsNodes nodes)) (bad kind.Plan first)) place answer))

-- a fault in the lines of a plan by parts, as one in the text of a run; that nodes are no tree is never told of it
abbrev pub IsSameKind : CertKind → BadKind → Type 0
IsSameKind cert.Form k = k ≡ kind.Form
IsSameKind cert.Truncated k = k ≡ kind.Truncated
IsSameKind cert.NotATree k = k ≡ kind.Plan
IsSameKind cert.OutOfMemory k = ⊥

pub record TellsFault {V : Type 0} (tells : Place → Result (V × Place) CertFault → Type 0) (place : Place) (fault : Fault) : Type 0 where
  pub cert : CertFault
  pub told : tells place (Err cert)
  pub line : fault.line ≡ cert.line
  pub kind : IsSameKind cert.kind fault.kind

-- what is told of the lines of a plan by parts, with its faults as those of the text of a run
abbrev pub InRun : {V : Type 0} → (Place → Result (V × Place) CertFault → Type 0) → Place → Result (V × Place) Fault → Type 0
InRun tells place (Ok read) = tells place (Ok read)
InRun tells place (Err fault) = TellsFault tells place fault

-- the lines of a plan by parts behind its first line, all read before any rule is asked; a broken rule is told of the first line
abbrev pub TellsSolvedPlan : Setting → List Entry → ℕ → List LogItem → SolvedOpening → ℕ → Place → Result (LogItem × Place) Fault → Type 0
TellsSolvedPlan s history feed before opening first =
    Then (InRun (TellsSolvedBehind opening.entry (heading_of opening)))
    (λ plan. Demands (IsNextItem s history feed before (solved_item opening plan)) (bad kind.Plan first) (solved_item opening plan))

-- what stands behind the first line of an item
abbrev pub TellsBehind : Setting → List Entry → ℕ → List LogItem → ℕ → ItemLine → Place → Result (LogItem × Place) Fault → Type 0
TellsBehind s history feed before first (lone answered) =
    Demands (IsNextItem s history feed before answered) (bad kind.Reply first) answered
TellsBehind s history feed before first (planned opening) = TellsPlanBehind s history feed before opening first
TellsBehind s history feed before first (solved opening) = TellsSolvedPlan s history feed before opening first

abbrev pub TellsItem : Setting → List Entry → ℕ → List LogItem → Place → Result (LogItem × Place) Fault → Type 0
TellsItem s history feed before place =
    Then (Reads (IsItemLine s.version)) (TellsBehind s history feed before place.line) place

-- a log: its first line, its items, and how it ends
abbrev pub TellsLog : Setting → List Entry → List FeedLog → Place → Result (FeedLog × Place) Fault → Type 0
TellsLog s history before =
    Then (Rules IsOpeningLine (λ opening. opening.feed ≡ length before + 1) kind.Form (λ opening. opening.items)) (λ items.
    Then (Times items (TellsItem s history (length before + 1)) []) (λ answered.
    Then (Reads IsStopLine) (λ stop. Gives (record { items = answered; stop = stop }))))

-- ---- boards

-- every entry is named as accepted by some item
abbrev pub AreNamed : List Entry → List FeedLog → Type 0
AreNamed history logs = (n : ℕ) → 0 < n → n ≤ length history → 1 ≤ count_by (names n) (all_items logs)

-- the number of notes; too many is a fault before an entry that is not named
abbrev pub TellsBoards : List Entry → List FeedLog → Place → Result (ℕ × Place) Fault → Type 0
TellsBoards history logs place =
    Then (Rules (IsNumberLine (codes "boards ")) (λ notes. notes ≤ BOARDS) kind.Form (λ notes. notes))
    (λ notes. Demands (AreNamed history logs) (bad kind.Unnamed place.line) notes) place

-- the entry of the last note, or 0
abbrev pub entry_before : List Note → ℕ
entry_before before = fold (λ last note. note.entry) 0 before

-- the note is true, of a board that no note before it names, and not of an earlier entry
pub record IsNextNote (history : List Entry) (before : List Note) (note : Note) : Type 0 where
  pub is_true : IsTrueNote (length history) note
  pub once : All (λ other. other.board ≡ note.board → ⊥) before
  pub in_order : entry_before before ≤ note.entry

abbrev pub TellsNote : List Entry → List Note → Place → Result (Note × Place) Fault → Type 0
TellsNote history before = Rules IsNoteLine (IsNextNote history before) kind.Board (λ note. note)

-- ---- times and the cost

-- the next event, with its time in the least timetable
pub record IsNextTime (net : Net) (rows : RowsValue) (before : List ℕ) (said : Timed) : Type 0 where
  pub event : said.event ≡ (event_at net (length before)).id.0
  pub times : List ℕ
  pub least : IsLeast net rows times
  pub time : said.time ≡ time_at times (length before)

abbrev pub TellsTime : Net → RowsValue → List ℕ → Place → Result (ℕ × Place) Fault → Type 0
TellsTime net rows before = Rules IsTimeLine (IsNextTime net rows before) kind.Time (λ said. said.time)

abbrev pub TellsCost : Net → RowsValue → ℕ → Place → Result (ℕ × Place) Fault → Type 0
TellsCost net rows penalty = Rules (IsNumberLine (codes "cost ")) (Costs net rows penalty) kind.Cost (λ cost. cost)

-- the last line, and nothing behind it
abbrev pub TellsEnd : Run → Place → Result (Run × Place) Fault → Type 0
TellsEnd run =
    Then (Reads (IsWordLine (codes "done"))) (λ said place. Demands (place.left ≡ []) (bad kind.Form place.line) run place)

-- ---- the whole text

-- a header line with a number, of which this must hold
abbrev pub TellsNumber : List ℕ → (ℕ → Type 0) → Place → Result (ℕ × Place) Fault → Type 0
TellsNumber words rule = Rules (IsNumberLine words) rule kind.Form (λ n. n)

-- the times, the cost and the last line, where these are the rows after all entries
abbrev pub TellsEnding : Setting → List Entry → List FeedLog → List Note → RowsValue → Place → Result (Run × Place) Fault → Type 0
TellsEnding s history logs notes rows =
    Then (Times (length s.net.events) (TellsTime s.net rows) []) (λ times.
    Then (TellsCost s.net rows s.penalty) (λ cost.
    TellsEnd (record {
      net = s.net;
      penalty = s.penalty;
      history = history;
      logs = logs;
      notes = notes;
      times = times;
      cost = cost;
    })))

-- the notes, and what stands behind them, after all logs
abbrev pub TellsRest : Setting → List Entry → List FeedLog → Place → Result (Run × Place) Fault → Type 0
TellsRest s history logs =
    Then (TellsBoards history logs) (λ count.
    Then (Times count (TellsNote history) []) (λ notes.
    Then (TellsNumber (codes "times ") (λ n. n ≡ length history)) (λ heading.
    TellsEnding s history logs notes (rows_after s history (length history)))))

-- what stands behind the version
abbrev pub TellsBody : Setting → Place → Result (Run × Place) Fault → Type 0
TellsBody s =
    Then (TellsNumber (codes "penalty ") (λ n. n ≡ s.penalty)) (λ penalty.
    Then (TellsNumber (codes "feeds ") (λ n. (1 ≤ n) × (n ≤ FEEDS))) (λ feeds.
    Then (TellsNumber (codes "entries ") (λ n. n ≤ ENTRIES)) (λ entries.
    Then (Times entries (TellsEntry s feeds) []) (λ history.
    Then (Times feeds (TellsLog s history) []) (λ logs. TellsRest s history logs)))))

abbrev pub TellsRun : Net → RowsValue → ℕ → ℕ → Place → Result (Run × Place) Fault → Type 0
TellsRun net start penalty most_plans =
    Then (Reads IsVersionLine) (λ version.
    TellsBody (record { net = net; start = start; penalty = penalty; plans = most_plans; version = version }))

-- the text is that of a run, where a feed may have `most_plans`, with so many entries and so many plans
pub record IsGood (net : Net) (start : RowsValue) (penalty most_plans : ℕ) (text : List ℕ) (entries plans : ℕ) : Type 0 where
  pub run : Run
  pub end : Place
  pub told : TellsRun net start penalty most_plans (at_start text) (Ok (run, end))
  pub entries_are : entries ≡ length run.history
  pub plans_are : plans ≡ count_by is_plan (all_items run.logs)

-- The verdict on a text: that it is good, or the first record that breaks its rule, by its line and its kind.
abbrev pub IsVerdict : Net → RowsValue → ℕ → ℕ → List ℕ → Verdict → Type 0
IsVerdict net start penalty most_plans text (Good entries plans) = IsGood net start penalty most_plans text entries plans
IsVerdict net start penalty most_plans text (Bad line k) = TellsRun net start penalty most_plans (at_start text) (Err (bad k line))
