-- What words ask of the live server: `serve DIR STORE FEED..`, `serve --new DIR STORE FEED..` where a store is to be begun, or of its
-- store: `text DIR STORE FEED..`, with the options of a run among them.
use Rattle.std.specs.Prelude.{ℕ, ◌≡◌, ◌≤◌, List, [], ◌∷◌, length, filter, codes}
use Rattle.dm_base.specs.declared.limits.TheConstants.{FEEDS}
use Rattle.dm_words.specs.Options.{batch_option, is_name}
use Rattle.dm_words.specs.Queries.{HasNumber, HasWorkers}
use Rattle.dm_words.specs.Words.{AreKnown, AsksFiles, HasBoards, RunAsked}
use Rattle.dm_words.specs.declared.command.TheConstants.{BATCH}
use Rattle.dm_words.specs.declared.options.Kind.TheVariants.{Run}
use Rattle.dm_words.specs.declared.serve.TheConstants.{STANDARD_ROUND}

-- a run that goes on, and the folder of the store that keeps it
pub record ServerAsked : Type 0 where
  pub run : RunAsked
  pub store : List ℕ

-- what words may ask of a server: that it answers, that it begins a store and answers, or the text of what its store holds
pub data LiveAsked : Type 0 where
  ServeOf : ServerAsked → LiveAsked
  BeginOf : ServerAsked → LiveAsked
  TextOf : ServerAsked → LiveAsked

-- What the words behind `serve` or `text` ask for: the names are a folder, a store and 1 to FEEDS feeds, and the options are those of
-- a run and have these values; STANDARD_ROUND lines of each feed are answered in a round where the words do not say it.
pub record AsksServer (words : List (List ℕ)) (asked : ServerAsked) : Type 0 where
  pub known : AreKnown Run words
  pub names : filter is_name words ≡ asked.run.files.folder ∷ asked.store ∷ asked.run.feeds
  pub some_feed : 1 ≤ length asked.run.feeds
  pub few_feeds : length asked.run.feeds ≤ FEEDS
  pub files : AsksFiles words asked.run.files
  pub batch : HasNumber batch_option 1 BATCH STANDARD_ROUND words asked.run.batch
  pub workers : HasWorkers words asked.run.workers
  pub boards : HasBoards words asked.run.boards

-- what the words behind `serve` ask for where the first of them is `--new`
abbrev pub AsksNew : List (List ℕ) → ServerAsked → Type 0
AsksNew [] asked = ⊥
AsksNew (word ∷ words) asked = (word ≡ codes "--new") × AsksServer words asked

-- the words, without the program's name, ask this of a server
abbrev pub AsksLive : List (List ℕ) → LiveAsked → Type 0
AsksLive [] live = ⊥
AsksLive (word ∷ words) (ServeOf asked) = (word ≡ codes "serve") × AsksServer words asked
AsksLive (word ∷ words) (BeginOf asked) = (word ≡ codes "serve") × AsksNew words asked
AsksLive (word ∷ words) (TextOf asked) = (word ≡ codes "text") × AsksServer words asked

-- the words ask nothing of a server
abbrev pub AsksNoServer : List (List ℕ) → Type 0
AsksNoServer words = (live : LiveAsked) → AsksLive words live → ⊥
