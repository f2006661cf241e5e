-- What a command reads: the files that come before all else, and the text behind them.
use Rattle.std.specs.Prelude.{ℕ, ◌≡◌, List, Option, None, Some}
use Rattle.dm_words.specs.Words.{Command, FilesAsked, RunOf, CheckOf, GenOf, QueryOf, Asks}

-- the files that a command reads before all else
abbrev pub files_of_command : Command → Option FilesAsked
files_of_command (RunOf asked) = Some asked.files
files_of_command (CheckOf asked) = Some asked.files
files_of_command (GenOf asked) = None
files_of_command (QueryOf asked) = Some asked.files

-- the name of the text that it reads behind them
abbrev pub text_of_command : Command → Option (List ℕ)
text_of_command (RunOf asked) = None
text_of_command (CheckOf asked) = Some asked.text
text_of_command (GenOf asked) = None
text_of_command (QueryOf asked) = Some asked.text

-- the words ask for a run, for a check, or something of a journal, over these files
pub record AsksOver (words : List (List ℕ)) (files : FilesAsked) : Type 0 where
  pub asked : Command
  pub is_asked : Asks words asked
  pub reads : files_of_command asked ≡ Some files

-- the words ask for a check of the text of this name, or something of its journal, over these files
pub record AsksAbout (words : List (List ℕ)) (files : FilesAsked) (text : List ℕ) : Type 0 where
  pub asked : Command
  pub is_asked : Asks words asked
  pub reads : files_of_command asked ≡ Some files
  pub names : text_of_command asked ≡ Some text
