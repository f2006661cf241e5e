-- What is printed of what words ask of the journal of a text. Its bytes are those that the shelf tells under its name. It comes after
-- the files: nothing of them is refused, and they make the network and the rows at the start.
use Rattle.std.specs.Prelude.{ℕ, ◌≡◌, ◌≤◌, ◌⊎◌, List, length, Option, None, Ok, Err}
use Rattle.dm_base.specs.declared.limits.TheConstants.{TEXT}
use Rattle.dm_text.specs.Places.{at_start}
use Rattle.dm_network.specs.Net.{Net}
use Rattle.dm_rows.specs.Rows.{RowsValue}
use Rattle.dm_commands.specs.Boards.{Ended}
use Rattle.dm_check.specs.declared.verdicts.BadKind.{BadKind}
use Rattle.dm_check.specs.declared.verdicts.BadKind.TheVariants.{Form, Truncated, Entry}
use Rattle.dm_check.specs.declared.verdicts.Verdict.TheVariants.{Bad as BadVerdict}
use Rattle.dm_follow.specs.declared.faults.FollowKind.TheVariants as rule
use Rattle.dm_follow.specs.Journals.{TellsJournal, IsFrontFault, unended}
use Rattle.dm_input.specs.Input.{Told, IsHeld, Opening, OpeningAnswer}
use Rattle.dm_words.specs.declared.queries.Query.{Query}
use Rattle.dm_words.specs.declared.queries.Query.TheVariants.{Follow, Window, Rules, Journey}
use Rattle.dm_words.specs.Words.{QueryAsked, QueryOf, Asks}
use Rattle.dm_commands.specs.declared.status.Status.{Status}
use Rattle.dm_commands.specs.declared.status.Status.TheVariants.{Ok as Well, Bad, Refused}
use Rattle.dm_commands.specs.Followed.{IsStateOf}
use Rattle.dm_commands.specs.Ruled.{IsComparisonOf}
use Rattle.dm_commands.specs.Travelled.{AreJourneysOf}
use Rattle.dm_commands.specs.Verdicts.{verdict_line}
use Rattle.dm_commands.specs.Windowed.{HoldsNoChoice, IsUnknownEntry, IsWindowOf}

-- ---- journals that are not followed to their end

-- the question is of the last entry that the header tells: it wants all lines of the journal whole
abbrev pub WantsAll : Query → Type 0
WantsAll Follow = ⊥
WantsAll (Window asked) = Unit {0}
WantsAll (Rules asked) = Unit {0}
WantsAll (Journey asked) = Unit {0}

-- This line of the journal is the first that breaks its rule; or, where the question wants all lines, the first that is not whole,
-- and none before it breaks its rule.
abbrev pub IsBadFor : Query → Net → RowsValue → ℕ → List ℕ → ℕ → BadKind → Type 0
IsBadFor query net start penalty bytes line Form = IsFrontFault net start penalty bytes rule.Form line
IsBadFor query net start penalty bytes line Entry = IsFrontFault net start penalty bytes rule.Entry line
IsBadFor query net start penalty bytes line Truncated = WantsAll query
    × TellsJournal net start penalty (at_start bytes) (Err (unended line))
IsBadFor query net start penalty bytes line _ = ⊥

-- the text tells this line bad
pub record TellsBad (query : Query) (net : Net) (start : RowsValue) (penalty : ℕ) (bytes text : List ℕ) : Type 0 where
  pub line : ℕ
  pub kind : BadKind
  pub is_bad : IsBadFor query net start penalty bytes line kind
  pub is_text : text ≡ verdict_line (BadVerdict line kind)

-- ---- answers

-- the text answers the question
abbrev pub Answers : Query → Net → RowsValue → ℕ → List ℕ → List ℕ → Type 0
Answers Follow = IsStateOf
Answers (Window asked) = IsWindowOf asked
Answers (Rules asked) = IsComparisonOf asked
Answers (Journey asked) = AreJourneysOf asked

-- the text refuses the question, of a journal that is whole: a window at an entry that there is not, or an activity that makes no
-- choice which could be held; of others nothing is refused
abbrev pub Declines : Query → Net → RowsValue → ℕ → List ℕ → List ℕ → Type 0
Declines Follow net start penalty bytes text = ⊥
Declines (Window asked) net start penalty bytes text =
    IsUnknownEntry asked net start penalty bytes text ⊎ HoldsNoChoice asked net start penalty bytes text
Declines (Rules asked) net start penalty bytes text = ⊥
Declines (Journey asked) net start penalty bytes text = ⊥

-- the text that is due to a question, at a status
abbrev pub IsAnswerAt : Query → Net → RowsValue → ℕ → List ℕ → Status → List ℕ → Type 0
IsAnswerAt query net start penalty bytes Well text = Answers query net start penalty bytes text
IsAnswerAt query net start penalty bytes Bad text = TellsBad query net start penalty bytes text
IsAnswerAt query net start penalty bytes Refused text = Declines query net start penalty bytes text
IsAnswerAt query net start penalty bytes _ text = ⊥

-- The text is due to what the words ask of a journal, over the network and the rows at the start of the files and at the penalty of
-- the words.
pub record IsAnswerFor (told : Told) (end_boards : Option Ended → Type 0) (words : List (List ℕ)) (status : Status)
    (text : List ℕ) : Type 0 where
  pub asked : QueryAsked
  pub is_asked : Asks words (QueryOf asked)
  pub opening : Opening
  pub opens : OpeningAnswer told asked.files (Ok opening)
  pub bytes : List ℕ
  pub held : IsHeld told asked.text bytes
  pub short : length bytes ≤ TEXT
  pub answers : IsAnswerAt asked.query opening.net opening.rows asked.files.penalty bytes status text
  pub boards : end_boards None
