-- What is read back from the file of a journal, and why it is refused.
use Rattle.std.specs.Prelude.{ℕ, ◌≡◌, ◌≢◌, ◌⊎◌, ◌+◌, ◌<◌, List, [], ◌∷◌, ◌++◌, length, map, slice_get, Some, None, All}
use Rattle.dm_base.specs.declared.limits.TheConstants.{TEXT}
use Rattle.dm_rows.specs.declared.messages.Entry.{Entry}
use Rattle.dm_rows.specs.Rows.{RowsValue}
use Rattle.dm_rows.specs.Timetable.{IsLeast}
use Rattle.dm_rows.specs.Cost.{cost_of}
use Rattle.dm_rows.specs.History.{rows_at, IsLegal}
use Rattle.dm_cert.specs.declared.replies.LogItem.{LogItem}
use Rattle.dm_cert.specs.Answers.{Setting}
use Rattle.dm_cert.specs.RunTexts.{Run, run_text}
use Rattle.dm_check.specs.declared.verdicts.BadKind.{BadKind}
use Rattle.dm_check.specs.declared.verdicts.Verdict.TheVariants.{Bad}
use Rattle.dm_check.specs.FalseRecords.{IsVerdict}
use Rattle.dm_store.specs.Blocks.{refusal}
use Rattle.dm_store.specs.Journals.{largest_journal}
use Rattle.dm_tape.specs.Rounds.{round_text, IsTapeRound}
use Rattle.dm_book.specs.Books.{AreNone, AreRecorded, Book, IsBookIn, IsTrueBook, head_text, log_of}
use Rattle.dm_restore.specs.Heads.{IsNoHead, IsOtherHead}
use Rattle.dm_restore.specs.declared.stops.RestoreStop.{RestoreStop}
use Rattle.dm_restore.specs.declared.stops.RestoreStop.TheVariants.{OutOfMemory, Full, Head, Form, Bad as IsBad}

-- ---- misshapen blocks

-- the content is the text of no round of so many feeds
abbrev pub IsNoRound : ℕ → List ℕ → Type 0
IsNoRound feeds content = (round : List (List LogItem)) → length round ≡ feeds → IsTapeRound round → content ≡ round_text round → ⊥

-- there is no block, or they are the head and rounds, each for all feeds
pub record AreHeadAndRounds (s : Setting) (feeds : ℕ) (contents : List (List ℕ)) : Type 0 where
  pub rounds : List (List (List LogItem))
  pub are : contents ≡ head_text s.penalty s.plans feeds ∷ map round_text rounds
  pub whole : All (λ round. length round ≡ feeds) rounds
  pub in_print : All IsTapeRound rounds

abbrev pub AreInForm : Setting → ℕ → List (List ℕ) → Type 0
AreInForm s feeds [] = Unit {0}
AreInForm s feeds (first ∷ contents) = AreHeadAndRounds s feeds (first ∷ contents)

-- behind these blocks the content has not the form that must stand there
abbrev pub IsMisshapenBehind : ℕ → List (List ℕ) → List ℕ → Type 0
IsMisshapenBehind feeds [] content = IsNoHead content
IsMisshapenBehind feeds (first ∷ contents) content = IsNoRound feeds content

-- The block of this number, from 1, has not its form, and all before it have theirs.
pub record IsMisshapen (s : Setting) (feeds : ℕ) (contents : List (List ℕ)) (number : ℕ) : Type 0 where
  pub before : List (List ℕ)
  pub content : List ℕ
  pub behind : List (List ℕ)
  pub stands : contents ≡ before ++ content ∷ behind
  pub number_is : number ≡ length before + 1
  pub in_form : AreInForm s feeds before
  pub misshapen : IsMisshapenBehind feeds before content

-- All blocks have their form, and behind them stands what no crash leaves there: it counts as the block of the next number.
pub record HasBrokenEnd (s : Setting) (feeds : ℕ) (contents : List (List ℕ)) (end : List ℕ) (number : ℕ) : Type 0 where
  pub in_form : AreInForm s feeds contents
  pub number_is : number ≡ length contents + 1
  pub refused : refusal contents end ≢ None

-- ---- heads

-- there is a first block, and it is the head of another journal
pub record HasOtherHead (s : Setting) (feeds : ℕ) (contents : List (List ℕ)) : Type 0 where
  pub content : List ℕ
  pub stands : slice_get contents 0 ≡ Some content
  pub other : IsOtherHead s feeds content

-- ---- books that are false

-- The rows after all entries of a run.
abbrev pub last_rows : Setting → Run → RowsValue
last_rows s run = rows_at s.net s.start run.history (length run.history)

-- The blocks record these logs, or there is none yet. A run with them, without notes, over a legal history: where some history makes
-- a true book of the logs, it is that history.
pub record IsRunIn (s : Setting) (feeds : ℕ) (contents : List (List ℕ)) (run : Run) (logs : List (List LogItem)) : Type 0 where
  pub as_many : length logs ≡ feeds
  pub is_in : AreNone contents logs ⊎ AreRecorded s contents logs
  pub net : run.net ≡ s.net
  pub penalty : run.penalty ≡ s.penalty
  pub logs_are : run.logs ≡ map log_of logs
  pub notes : run.notes ≡ []
  pub legal : IsLegal s.net s.start run.history
  pub least : IsLeast s.net (last_rows s run) run.times
  pub cost : run.cost ≡ cost_of s.net (last_rows s run) run.times s.penalty
  pub entered : (history : List Entry) → IsTrueBook s (record { history = history; logs = logs }) → run.history ≡ history

-- The text of that run is told bad at this line, for this; and no history makes a true book of the logs.
pub record IsFalseBook (s : Setting) (feeds : ℕ) (contents : List (List ℕ)) (line : ℕ) (kind : BadKind) : Type 0 where
  pub run : Run
  pub logs : List (List LogItem)
  pub is_run : IsRunIn s feeds contents run logs
  pub verdict : IsVerdict s.net s.start s.penalty s.plans (run_text 2 run) (Bad line kind)
  pub is_false : (history : List Entry) → IsTrueBook s (record { history = history; logs = logs }) → ⊥

-- the text of that run has more bytes than are judged
pub record IsLongRun (s : Setting) (feeds : ℕ) (contents : List (List ℕ)) : Type 0 where
  pub run : Run
  pub logs : List (List LogItem)
  pub is_run : IsRunIn s feeds contents run logs
  pub long : TEXT < length (run_text 2 run)

-- Why the file of a journal of so many feeds is refused, in which these blocks stand, and this end behind them. Want of memory may
-- come at any time.
abbrev pub RefusesBook : Setting → ℕ → List ℕ → List (List ℕ) → List ℕ → RestoreStop → Type 0
RefusesBook s feeds file contents end OutOfMemory = Unit {0}
RefusesBook s feeds file contents end Full = (largest_journal < length file) ⊎ IsLongRun s feeds contents
RefusesBook s feeds file contents end Head = HasOtherHead s feeds contents
RefusesBook s feeds file contents end (Form number) = IsMisshapen s feeds contents number ⊎ HasBrokenEnd s feeds contents end number
RefusesBook s feeds file contents end (IsBad line kind) = IsFalseBook s feeds contents line kind

-- ---- what is read back

-- The book is true, of so many feeds, and stands in the blocks.
pub record IsRestored (s : Setting) (feeds : ℕ) (contents : List (List ℕ)) (book : Book) : Type 0 where
  pub as_many : length book.logs ≡ feeds
  pub is_in : IsBookIn s contents book
  pub is_true : IsTrueBook s book
