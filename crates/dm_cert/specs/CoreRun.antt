-- One dispatcher that answers the due items of feeds one after another.
use Rattle.std.specs.Prelude.{ℕ, ◌≡◌, ◌↔◌, ◌+◌, ◌<◌, List, [], ◌∷◌, ◌++◌, length, map, Some, slice_get, slice_set, All}
use Rattle.std.specs.Option.{IsSomeAnd}
use Rattle.dm_base.specs.declared.limits.TheConstants.{ENTRIES}
use Rattle.dm_network.specs.Start.{IsNetwork}
use Rattle.dm_rows.specs.declared.messages.Entry.{Entry}
use Rattle.dm_rows.specs.declared.messages.Message.{Message}
use Rattle.dm_rows.specs.declared.messages.Message.TheVariants.{Adopt as AdoptAll}
use Rattle.dm_rows.specs.Refuse.{Refuses, RefusesNothing}
use Rattle.dm_rows.specs.History.{IsLegal}
use Rattle.dm_feed.specs.declared.grammar.Line.{Line}
use Rattle.dm_feed.specs.declared.grammar.Line.TheVariants.{Say, Adopt as AskAdopt, Carry as AskCarry}
use Rattle.dm_feed.specs.DueItems.{DueItem, item}
use Rattle.dm_tree.specs.declared.adopting.Chosen.{Chosen}
use Rattle.dm_cert.specs.declared.replies.LogItem.{LogItem}
use Rattle.dm_cert.specs.declared.replies.LogItem.TheVariants.{Malformed, Answered}
use Rattle.dm_cert.specs.declared.replies.FeedLog.{FeedLog}
use Rattle.dm_cert.specs.Answers.{Setting, rows_after, latest_plan, carried, IsTrueAnswer}
use Rattle.dm_cert.specs.Logs.{Kind, free, told, entered, kind_of, line_of, due_of, AreTrueLogs}

-- ---- due items

abbrev pub line_due : DueItem → ℕ
line_due (item line heard) = line

-- the lines rise, from above this one
abbrev pub LinesRise : ℕ → List DueItem → Type 0
LinesRise line [] = Unit {0}
LinesRise line (due ∷ items) = (line < line_due due) × LinesRise (line_due due) items

-- the items answer the first of the due items, in order
pub record AnswerFirst (due : List DueItem) (items : List LogItem) : Type 0 where
  pub others : List DueItem
  pub in_order : due ≡ map due_of items ++ others

-- ---- a step

-- the plan is for the present rows, the history is not full, and its choices are the message
pub record IsPresent (history : List Entry) (message : Message) (plan : Chosen) : Type 0 where
  pub present : plan.entry ≡ length history
  pub room : length history < ENTRIES
  pub choices : AdoptAll plan.choices ≡ message

-- nothing refuses the message at the present rows
abbrev pub IsAccepted : Setting → List Entry → Message → Type 0
IsAccepted s history message =
    RefusesNothing (Refuses s.net (rows_after s history (length history)) (length history) message)

-- The message that a line enters at the present rows: its own, where nothing refuses it; the latest plan's choices, where the
-- plan is for these rows and the history is not full; or those of them that are free, where nothing refuses that.
abbrev pub IsToEnter : Setting → List Entry → List LogItem → Line → Message → Type 0
IsToEnter s history before (Say own) message = (own ≡ message) × IsAccepted s history own
IsToEnter s history before AskAdopt message =
    IsSomeAnd (latest_plan before) (λ plan. IsPresent history message plan)
IsToEnter s history before AskCarry message =
    IsSomeAnd (latest_plan before) (λ plan. carried s history (length history) plan.choices ≡ message) × IsAccepted s history message
IsToEnter s history before _ message = ⊥

abbrev pub IsItemToEnter : Setting → List Entry → List LogItem → LogItem → Message → Type 0
IsItemToEnter s history before (Malformed line) message = ⊥
IsItemToEnter s history before (Answered line said reply) message = IsToEnter s history before said message

-- the item's line enters this message behind the history, as entry n
pub record EntersNext (s : Setting) (history later : List Entry) (feed : ℕ) (before : List LogItem) (answered : LogItem)
    (n : ℕ) : Type 0 where
  pub message : Message
  pub to_enter : IsItemToEnter s history before answered message
  pub number : n ≡ length history + 1
  pub grown : later ≡ history ++ record { feed = feed; line = line_of answered; message = message } ∷ []

-- The item is what a feed is answered at the present history, where these are its items before: it enters a message, or it
-- is a true answer at the present number of entries, and nothing is entered.
abbrev pub AnswersNow : Setting → List Entry → List Entry → ℕ → List LogItem → LogItem → Kind → Type 0
AnswersNow s history later feed before answered free = IsTrueAnswer s history feed before answered × (later ≡ history)
AnswersNow s history later feed before answered (told n) =
    IsTrueAnswer s history feed before answered × (n ≡ length history) × (later ≡ history)
AnswersNow s history later feed before answered (entered n) = EntersNext s history later feed before answered n

-- the entries and the items of each feed's log so far
pub record CoreState : Type 0 where
  pub history : List Entry
  pub logs : List (List LogItem)

-- A step answers the next due item of the feed at this place, which is number place + 1. Which true plan it answers, and
-- which cycle it shows, is free.
pub record CoreStep (s : Setting) (dues : List (List DueItem)) (place : ℕ) (now later : CoreState) : Type 0 where
  pub due : List DueItem
  pub of_feed : slice_get dues place ≡ Some due
  pub before : List LogItem
  pub so_far : slice_get now.logs place ≡ Some before
  pub answered : LogItem
  pub next : slice_get due (length before) ≡ Some (due_of answered)
  pub answers : AnswersNow s now.history later.history (place + 1) before answered (kind_of answered)
  pub goes_on : later.logs ≡ slice_set now.logs place (before ++ answered ∷ [])

-- ---- a run

-- the feeds of a schedule, by place, are answered in turn
abbrev pub CoreRun : Setting → List (List DueItem) → List ℕ → CoreState → CoreState → Type 0
CoreRun s dues [] now later = now ≡ later
CoreRun s dues (place ∷ schedule) now later =
    (mid : CoreState) × CoreStep s dues place now mid × CoreRun s dues schedule mid later

-- at the start there is no entry, and nothing was answered
abbrev pub nothing_yet : List (List DueItem) → CoreState
nothing_yet dues = record { history = []; logs = map (λ due. []) dues }

-- some schedule, from the start, ends in this state
pub record IsReached (s : Setting) (dues : List (List DueItem)) (state : CoreState) : Type 0 where
  pub schedule : List ℕ
  pub run : CoreRun s dues schedule (nothing_yet dues) state

-- the state of an end: the entries and logs of a journal
abbrev pub state_of : List Entry → List FeedLog → CoreState
state_of history logs = record { history = history; logs = map (λ log. log.items) logs }

-- each feed's log answers the first of its due items
pub record AreLogsOfDue (dues : List (List DueItem)) (logs : List FeedLog) : Type 0 where
  pub as_many : length logs ≡ length dues
  pub each : (place : ℕ) (due : List DueItem) (log : FeedLog) → slice_get dues place ≡ Some due →
      slice_get logs place ≡ Some log → AnswerFirst due log.items

-- A legal history with true logs, of the first due items of each feed.
pub record IsTrueJournal (s : Setting) (dues : List (List DueItem)) (history : List Entry) (logs : List FeedLog) :
    Type 0 where
  pub legal : IsLegal s.net s.start history
  pub logs_are_true : AreTrueLogs s history logs
  pub of_due : AreLogsOfDue dues logs

-- Over any network, and for any number of feeds whose due lines rise, a legal history with true logs of first due
-- items is exactly what one dispatcher reaches that answers them in some order.
abbrev pub TrueLogsAreOneDispatchers : Type 0
TrueLogsAreOneDispatchers =
    (s : Setting) (dues : List (List DueItem)) (history : List Entry) (logs : List FeedLog) → IsNetwork s.net →
    All (LinesRise 0) dues → IsTrueJournal s dues history logs ↔ IsReached s dues (state_of history logs)
