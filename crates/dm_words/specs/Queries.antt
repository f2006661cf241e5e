-- What words may ask of the journal of a text: `follow DIR TEXT`, `window DIR TEXT FROM TO BUDGET`,
-- `rules DIR TEXT RULE BUDGET` or `journey DIR TEXT FROM TO AFTER`.
use Rattle.std.specs.Prelude.{ℕ, ◌≡◌, List, [], ◌∷◌, Option, codes}
use Rattle.dm_base.specs.declared.limits.TheConstants.{BUDGET, PASSED_TIME, TIME, WORKERS}
use Rattle.dm_words.specs.Options.{GivesOption, HasFlag, at_option, changes_option, held_option, minimal_option, solve_option, workers_option}
use Rattle.dm_words.specs.Ids.{AreIdsOrNone}
use Rattle.dm_words.specs.Values.{IsNumber, IsNumberOr, IsNumberOrNone}
use Rattle.dm_words.specs.declared.options.QueryKind.{QueryKind}
use Rattle.dm_words.specs.declared.options.QueryKind.TheVariants as kind
use Rattle.dm_words.specs.declared.queries.JourneyWords.{JourneyWords}
use Rattle.dm_words.specs.declared.queries.WindowWords.{WindowWords}
use Rattle.dm_words.specs.declared.queries.Query.{Query}
use Rattle.dm_words.specs.declared.queries.RulesWords.{RulesWords}
use Rattle.dm_words.specs.declared.queries.RuleWord.{RuleWord}
use Rattle.dm_words.specs.declared.queries.RuleWord.TheVariants.{Never, Always, AtMost}
use Rattle.dm_words.specs.declared.queries.Query.TheVariants.{Follow, Window, Rules, Journey}
use Rattle.dm_words.specs.declared.queries.TheConstants.{CHANGES, HELD, LARGEST_ENTRY, LARGEST_STOP, LARGEST_WORTH, LONGEST_WAIT, STANDARD_CHANGES, STANDARD_WORKERS}

abbrev pub kind_of : Query → QueryKind
kind_of Follow = kind.Follow
kind_of (Window window) = kind.Window
kind_of (Rules rules) = kind.Rules
kind_of (Journey journey) = kind.Journey

-- the command word
abbrev pub word_of : QueryKind → List ℕ
word_of kind.Follow = codes "follow"
word_of kind.Window = codes "window"
word_of kind.Rules = codes "rules"
word_of kind.Journey = codes "journey"

-- the number that the words give an option, up to most, if they give it one
pub record MayHaveNumber (option : List ℕ) (most : ℕ) (words : List (List ℕ)) (number : Option ℕ) : Type 0 where
  pub value : Option (List ℕ)
  pub given : GivesOption option words value
  pub is : IsNumberOrNone value most number

-- the entry that the words name, if they name one
abbrev pub HasEntry : List (List ℕ) → Option ℕ → Type 0
HasEntry words at = MayHaveNumber at_option LARGEST_ENTRY words at

-- below which worth the choices of a plan are given back, if the words say it
abbrev pub HasMinimal : List (List ℕ) → Option ℕ → Type 0
HasMinimal words minimal = MayHaveNumber minimal_option LARGEST_WORTH words minimal

-- the ids of activities whose choices are held
pub record HasHeld (words : List (List ℕ)) (held : List ℕ) : Type 0 where
  pub value : Option (List ℕ)
  pub given : GivesOption held_option words value
  pub are : AreIdsOrNone HELD value held

-- the names are two times, the second no earlier than the first, and a budget; the words may name an entry and activities whose
-- choices are held, and say which choices are given back, and whether the plan is one by parts
pub record AsksWindow (window : WindowWords) (names words : List (List ℕ)) : Type 0 where
  pub from : List ℕ
  pub to : List ℕ
  pub budget : List ℕ
  pub are_names : names ≡ from ∷ to ∷ budget ∷ []
  pub is_from : IsNumber from 0 TIME window.from
  pub is_to : IsNumber to window.from TIME window.to
  pub is_budget : IsNumber budget 1 BUDGET window.budget
  pub at : HasEntry words window.at
  pub held : HasHeld words window.held
  pub minimal : HasMinimal words window.minimal
  pub solve : HasFlag solve_option words window.solve

-- the word of a waiting rule
abbrev pub IsRule : List ℕ → RuleWord → Type 0
IsRule word Never = word ≡ codes "never"
IsRule word Always = word ≡ codes "always"
IsRule word (AtMost seconds) = IsNumber word 0 LONGEST_WAIT seconds

-- the number that the words give an option, or the standard one where they do not give it
pub record HasNumber (option : List ℕ) (least most standard : ℕ) (words : List (List ℕ)) (number : ℕ) : Type 0 where
  pub value : Option (List ℕ)
  pub given : GivesOption option words value
  pub is : IsNumberOr value least most standard number

-- how many workers search
abbrev pub HasWorkers : List (List ℕ) → ℕ → Type 0
HasWorkers words workers = HasNumber workers_option 1 WORKERS STANDARD_WORKERS words workers

-- the names are a rule and a budget, and the words give the workers and say whether the plan is one by parts
pub record AsksRules (rules : RulesWords) (names words : List (List ℕ)) : Type 0 where
  pub rule : List ℕ
  pub budget : List ℕ
  pub are_names : names ≡ rule ∷ budget ∷ []
  pub is_rule : IsRule rule rules.rule
  pub is_budget : IsNumber budget 1 BUDGET rules.budget
  pub workers : HasWorkers words rules.workers
  pub solve : HasFlag solve_option words rules.solve

-- the most changes of a journey
abbrev pub HasChanges : List (List ℕ) → ℕ → Type 0
HasChanges words changes = HasNumber changes_option 0 CHANGES STANDARD_CHANGES words changes

-- the names are two stops and a time, and the words give the most changes
pub record AsksJourney (journey : JourneyWords) (names words : List (List ℕ)) : Type 0 where
  pub from : List ℕ
  pub to : List ℕ
  pub after : List ℕ
  pub are_names : names ≡ from ∷ to ∷ after ∷ []
  pub is_from : IsNumber from 0 LARGEST_STOP journey.from
  pub is_to : IsNumber to 0 LARGEST_STOP journey.to
  pub is_after : IsNumber after 0 PASSED_TIME journey.after
  pub changes : HasChanges words journey.changes

-- what the names behind the folder and the text, and the options among the words, ask of the journal
abbrev pub AsksOwn : Query → List (List ℕ) → List (List ℕ) → Type 0
AsksOwn Follow names words = names ≡ []
AsksOwn (Window window) names words = AsksWindow window names words
AsksOwn (Rules rules) names words = AsksRules rules names words
AsksOwn (Journey journey) names words = AsksJourney journey names words
