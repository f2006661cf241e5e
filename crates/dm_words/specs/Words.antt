-- What the words of a command line ask for: `run DIR FEED..`, `check DIR TEXT`, `gen NUMBER TRAINS`, or a question to the journal of
-- a text, with options among them.
use Rattle.std.specs.Prelude.{ℕ, ◌≡◌, ◌≤◌, true, ◌||◌, List, [], ◌∷◌, ◌++◌, length, filter, Option, unwrap_or, Ok, codes}
use Rattle.std.specs.List.{list_all}
use Rattle.dm_base.specs.declared.limits.TheConstants.{BOARDS, PENALTY, FEEDS}
use Rattle.dm_lintim.specs.Columns.{FileColumns, ReadsFileColumns}
use Rattle.dm_words.specs.Options.{GivesOption, activity_columns_option, activity_delays_option, batch_option, boards_option, cancelled_option, event_columns_option, event_delays_option, is_name, is_option, options_of, penalty_option, plans_option}
use Rattle.dm_words.specs.Ids.{AreIdsOrNone}
use Rattle.dm_words.specs.Values.{IsNumber, IsNumberOr}
use Rattle.dm_words.specs.Queries.{AsksOwn, HasNumber, HasWorkers, kind_of, word_of}
use Rattle.dm_words.specs.declared.files.TheConstants.{PLANS, STANDARD_PENALTY, STANDARD_PLANS}
use Rattle.dm_words.specs.declared.command.TheConstants.{BATCH, STANDARD_BATCH, TRAINS, LARGEST_NUMBER}
use Rattle.dm_words.specs.declared.options.Kind.{Kind}
use Rattle.dm_words.specs.declared.options.Kind.TheVariants.{Run, Check, Gen, Query as Asking}
use Rattle.dm_words.specs.declared.queries.Query.{Query}

-- the files of a folder, and the options that go with them; the files of delays, and the one of the events that are cancelled at the
-- start, are named where there are any
pub record FilesAsked : Type 0 where
  pub folder : List ℕ
  pub penalty : ℕ
  pub plans : ℕ
  pub columns : FileColumns
  pub event_delays : Option (List ℕ)
  pub activity_delays : Option (List ℕ)
  pub cancelled : Option (List ℕ)

-- a run over these files: its feeds, how many lines of each are answered in a round, how many workers search for a plan, and the
-- stops of its boards
pub record RunAsked : Type 0 where
  pub files : FilesAsked
  pub feeds : List (List ℕ)
  pub batch : ℕ
  pub workers : ℕ
  pub boards : List ℕ

-- the check of a text against these files
pub record CheckAsked : Type 0 where
  pub files : FilesAsked
  pub text : List ℕ

-- a generated day
pub record GenAsked : Type 0 where
  pub number : ℕ
  pub trains : ℕ
  pub penalty : ℕ

-- something asked of the journal of a text, over these files
pub record QueryAsked : Type 0 where
  pub files : FilesAsked
  pub text : List ℕ
  pub query : Query

-- what words may ask for
pub data Command : Type 0 where
  RunOf : RunAsked → Command
  CheckOf : CheckAsked → Command
  GenOf : GenAsked → Command
  QueryOf : QueryAsked → Command

-- the penalty in seconds for each passenger
pub record IsPenalty (words : List (List ℕ)) (penalty : ℕ) : Type 0 where
  pub value : Option (List ℕ)
  pub given : GivesOption penalty_option words value
  pub is : IsNumberOr value 0 PENALTY STANDARD_PENALTY penalty

-- how many plans a feed may have
abbrev pub HasPlans : List (List ℕ) → ℕ → Type 0
HasPlans words plans = HasNumber plans_option 1 PLANS STANDARD_PLANS words plans

-- how many lines of each feed are answered in a round
pub record IsBatch (words : List (List ℕ)) (batch : ℕ) : Type 0 where
  pub value : Option (List ℕ)
  pub given : GivesOption batch_option words value
  pub is : IsNumberOr value 1 BATCH STANDARD_BATCH batch

-- the stops of the boards
pub record HasBoards (words : List (List ℕ)) (boards : List ℕ) : Type 0 where
  pub value : Option (List ℕ)
  pub given : GivesOption boards_option words value
  pub are : AreIdsOrNone BOARDS value boards

-- the column words of a file, which stand in the standard order where none are given
abbrev pub standard_event_words : List ℕ
standard_event_words = codes "id,periodic-id,type,time,weight,stop"

abbrev pub standard_activity_words : List ℕ
standard_activity_words = codes "id,periodic-id,type,tail,head,lower,upper,weight"

abbrev pub event_words : Option (List ℕ) → List ℕ
event_words given = unwrap_or given standard_event_words

abbrev pub activity_words : Option (List ℕ) → List ℕ
activity_words given = unwrap_or given standard_activity_words

-- the options of the files of a folder have these values
pub record AsksFiles (words : List (List ℕ)) (asked : FilesAsked) : Type 0 where
  pub events : Option (List ℕ)
  pub activities : Option (List ℕ)
  pub penalty : IsPenalty words asked.penalty
  pub plans : HasPlans words asked.plans
  pub gives_events : GivesOption event_columns_option words events
  pub gives_activities : GivesOption activity_columns_option words activities
  pub gives_event_delays : GivesOption event_delays_option words asked.event_delays
  pub gives_activity_delays : GivesOption activity_delays_option words asked.activity_delays
  pub gives_cancelled : GivesOption cancelled_option words asked.cancelled
  pub are_columns : ReadsFileColumns (event_words events) (activity_words activities) (Ok asked.columns)

-- each word is a name or an option of the command
abbrev pub AreKnown : Kind → List (List ℕ) → Type 0
AreKnown kind words = list_all (λ word. is_name word || is_option (options_of kind) word) words ≡ true

-- What the words behind `run` ask for: the names are a folder and 1 to FEEDS feeds, and the options have these values.
pub record AsksRun (words : List (List ℕ)) (asked : RunAsked) : Type 0 where
  pub known : AreKnown Run words
  pub names : filter is_name words ≡ asked.files.folder ∷ asked.feeds
  pub some_feed : 1 ≤ length asked.feeds
  pub few_feeds : length asked.feeds ≤ FEEDS
  pub files : AsksFiles words asked.files
  pub batch : IsBatch words asked.batch
  pub workers : HasWorkers words asked.workers
  pub boards : HasBoards words asked.boards

-- What the words behind `check` ask for: the names are a folder and a text.
pub record AsksCheck (words : List (List ℕ)) (asked : CheckAsked) : Type 0 where
  pub known : AreKnown Check words
  pub names : filter is_name words ≡ asked.files.folder ∷ asked.text ∷ []
  pub files : AsksFiles words asked.files

-- What the words behind `gen` ask for: the names are a number of 64 bits and a count of 1 to TRAINS trains.
pub record AsksGen (words : List (List ℕ)) (asked : GenAsked) : Type 0 where
  pub number : List ℕ
  pub trains : List ℕ
  pub known : AreKnown Gen words
  pub names : filter is_name words ≡ number ∷ trains ∷ []
  pub is_number : IsNumber number 0 LARGEST_NUMBER asked.number
  pub are_trains : IsNumber trains 1 TRAINS asked.trains
  pub penalty : IsPenalty words asked.penalty

-- What the words behind a question's command word ask: the names are a folder, a text and those that the question has of its own,
-- which say it with its options.
pub record AsksQuery (words : List (List ℕ)) (asked : QueryAsked) : Type 0 where
  pub own : List (List ℕ)
  pub known : AreKnown (Asking (kind_of asked.query)) words
  pub names : filter is_name words ≡ asked.files.folder ∷ asked.text ∷ own
  pub files : AsksFiles words asked.files
  pub says : AsksOwn asked.query own words

-- the words, without the program's name, ask for this
abbrev pub Asks : List (List ℕ) → Command → Type 0
Asks [] command = ⊥
Asks (word ∷ words) (RunOf asked) = (word ≡ codes "run") × AsksRun words asked
Asks (word ∷ words) (CheckOf asked) = (word ≡ codes "check") × AsksCheck words asked
Asks (word ∷ words) (GenOf asked) = (word ≡ codes "gen") × AsksGen words asked
Asks (word ∷ words) (QueryOf asked) = (word ≡ word_of (kind_of asked.query)) × AsksQuery words asked

-- the words ask for nothing
abbrev pub AsksNothing : List (List ℕ) → Type 0
AsksNothing words = (command : Command) → Asks words command → ⊥

-- the name of a file of the folder, as it is opened
abbrev pub in_folder : FilesAsked → List ℕ → List ℕ
in_folder asked name = asked.folder ++ (codes "/" ++ name)

-- the stops of the boards of what words ask for
abbrev pub boards_of_command : Command → List ℕ
boards_of_command (RunOf asked) = asked.boards
boards_of_command (CheckOf asked) = []
boards_of_command (GenOf asked) = []
boards_of_command (QueryOf asked) = []

-- the stops are those that the words ask for, or none where they ask for nothing
pub record AreStopsOf (words : List (List ℕ)) (stops : List ℕ) : Type 0 where
  pub asked : (command : Command) → Asks words command → stops ≡ boards_of_command command
  pub nothing : AsksNothing words → stops ≡ []
