-- What is printed of a text that is checked, and of one that is not read. Its bytes are those that the shelf tells under its name. It
-- comes after the files: nothing of them is refused, and they make the network and the start rows by which it is judged.
use Rattle.std.specs.Prelude.{ℕ, ◌≡◌, ◌≤◌, ◌↔◌, List, length, Option, None, Ok}
use Rattle.dm_base.specs.declared.limits.TheConstants.{TEXT}
use Rattle.dm_input.specs.Input.{Told, IsHeld, Opening, OpeningAnswer}
use Rattle.dm_input.specs.Stops.{IsLong}
use Rattle.dm_words.specs.Words.{CheckAsked, CheckOf, FilesAsked, Asks}
use Rattle.dm_commands.specs.Boards.{Ended}
use Rattle.dm_cert.specs.Runs.{IsRunText}
use Rattle.dm_check.specs.declared.verdicts.Verdict.{Verdict}
use Rattle.dm_check.specs.FalseRecords.{IsVerdict}
use Rattle.dm_commands.specs.declared.status.Status.{Status}
use Rattle.dm_commands.specs.declared.status.Status.TheVariants.{Ok as Well}
use Rattle.dm_commands.specs.Commands.{AsksAbout}
use Rattle.dm_commands.specs.Verdicts.{verdict_line, verdict_status, long_text_line, unread_text_line}

-- The line is the verdict on the text, over the network and the start rows of the files, at the penalty of the words and for as
-- many plans of a feed as they say: that it is good, with so many entries and plans, or the first record that breaks its rule.
-- The status is the verdict's. The good texts are exactly the spellings, in one of the versions, of true runs.
pub record IsVerdictFor (told : Told) (end_boards : Option Ended → Type 0) (words : List (List ℕ)) (status : Status)
    (line : List ℕ) : Type 0 where
  pub asked : CheckAsked
  pub is_asked : Asks words (CheckOf asked)
  pub opening : Opening
  pub opens : OpeningAnswer told asked.files (Ok opening)
  pub bytes : List ℕ
  pub held : IsHeld told asked.text bytes
  pub short : length bytes ≤ TEXT
  pub verdict : Verdict
  pub is_verdict : IsVerdict opening.net opening.rows asked.files.penalty asked.files.plans bytes verdict
  pub has_status : status ≡ verdict_status verdict
  pub run_texts : (status ≡ Well) ↔ IsRunText opening.net opening.rows asked.files.penalty asked.files.plans bytes
  pub is_line : line ≡ verdict_line verdict
  pub boards : end_boards None

-- the text has more than TEXT bytes
pub record IsLongText (told : Told) (end_boards : Option Ended → Type 0) (words : List (List ℕ)) (line : List ℕ) : Type 0 where
  pub files : FilesAsked
  pub text : List ℕ
  pub about : AsksAbout words files text
  pub opening : Opening
  pub opens : OpeningAnswer told files (Ok opening)
  pub long : IsLong told text TEXT
  pub is_line : line ≡ long_text_line text
  pub boards : end_boards None

-- the text could not be opened or read: the shelf does not tell it sound
pub record IsUnreadText (told : Told) (is_sound : List ℕ → Type 0) (end_boards : Option Ended → Type 0) (words : List (List ℕ))
    (line : List ℕ) : Type 0 where
  pub files : FilesAsked
  pub text : List ℕ
  pub about : AsksAbout words files text
  pub opening : Opening
  pub opens : OpeningAnswer told files (Ok opening)
  pub unsound : is_sound text → ⊥
  pub is_line : line ≡ unread_text_line text
  pub boards : end_boards None
