-- What becomes of the files under the names of the words: they determine a network and start rows, or why there are none is due.
use Rattle.std.specs.Prelude.{ℕ, ◌≡◌, List, Ok, Err}
use Rattle.dm_cert.specs.Answers.{Setting}
use Rattle.dm_input.specs.Input.{IsUnread, Opening, OpeningAnswer, Told}
use Rattle.dm_input.specs.Lines.{refused_line, read_fault_line}
use Rattle.dm_input.specs.declared.flaws.File.{File}
use Rattle.dm_input.specs.declared.flaws.InputFlaw.{InputFlaw}
use Rattle.dm_words.specs.Serving.{ServerAsked}
use Rattle.dm_store_text.specs.Asked.{setting_for}
use Rattle.dm_store_text.specs.declared.status.Status.{Status}
use Rattle.dm_store_text.specs.declared.status.Status.TheVariants.{Refused, ReadFault}

-- a file is refused, or the network or the start rows that they make
pub record IsFileRefusal (told : Told) (asked : ServerAsked) (text : List ℕ) : Type 0 where
  pub flaw : InputFlaw
  pub refusal : OpeningAnswer told asked.run.files (Err flaw)
  pub line : text ≡ refused_line asked.run.files flaw

-- a file that the shelf does not tell sound, where nothing is refused before it
pub record IsFileFault (told : Told) (is_sound : List ℕ → Type 0) (asked : ServerAsked) (text : List ℕ) : Type 0 where
  pub file : File
  pub unread : IsUnread told is_sound asked.run.files file
  pub line : text ≡ read_fault_line asked.run.files file

-- where the files determine none, it is their refusal, or that one cannot be read
abbrev pub IsOfFiles : Told → (List ℕ → Type 0) → ServerAsked → Status → List ℕ → Type 0
IsOfFiles told is_sound asked Refused text = IsFileRefusal told asked text
IsOfFiles told is_sound asked ReadFault text = IsFileFault told is_sound asked text
IsOfFiles told is_sound asked status text = ⊥

-- the files under the names of the words determine a network and start rows, over which the text is due
pub record IsOver (told : Told) (asked : ServerAsked) (due : Setting → List ℕ → Type 0) (text : List ℕ) : Type 0 where
  pub opening : Opening
  pub opens : OpeningAnswer told asked.run.files (Ok opening)
  pub is_due : due (setting_for asked opening) text
