-- How the lines of a part are answered one by one.
use Rattle.std.specs.Prelude.{ℕ, ◌≡◌, ◌≢◌, ◌+◌, ◌≤◌, ◌++◌, ◌∷◌, ◌⊎◌, [], List, length}
use Rattle.dm_feed.specs.declared.grammar.Heard.{Heard}
use Rattle.dm_feed.specs.declared.grammar.Heard.TheVariants.{Blank, Line as Spoken, Malformed as Unheard}
use Rattle.dm_feed.specs.Lines.{IsSpelledLine}
use Rattle.dm_cert.specs.declared.replies.LogItem.{LogItem}
use Rattle.dm_desk.specs.Desks.{DeskValue}
use Rattle.dm_desk.specs.Fed.{AnswersLines}
use Rattle.dm_desk.specs.Inside.Replies.{AnswersLine}

-- what is heard in a line, whose messages are no adopted list
abbrev pub IsHeard : Heard → Type 0
IsHeard Blank = Unit {0}
IsHeard (Spoken said) = IsSpelledLine said
IsHeard Unheard = Unit {0}

-- a blank line or a comment was passed
pub record PassesQuiet (before now : DeskValue) (items_before items : List LogItem) (heard : Heard) (count : ℕ) : Type 0 where
  pub none : count ≡ 0
  pub quiet : heard ≡ Blank
  pub same : now ≡ before
  pub same_items : items ≡ items_before

-- a due line was answered, and its answer put behind the log
pub record KeepsAnswer (before now : DeskValue) (feed line : ℕ) (items_before items : List LogItem) (heard : Heard)
    (count : ℕ) : Type 0 where
  pub one : count ≡ 1
  pub is_due : heard ≢ Blank
  pub answered : LogItem
  pub behind : items ≡ items_before ++ answered ∷ []
  pub answers : AnswersLine before now feed line items_before heard answered

abbrev pub HandlesLine : DeskValue → DeskValue → ℕ → ℕ → List LogItem → List LogItem → Heard → ℕ → Type 0
HandlesLine before now feed line items_before items heard count =
    PassesQuiet before now items_before items heard count ⊎ KeepsAnswer before now feed line items_before items heard count

-- the part was answered up to what is left of it: so many due lines
pub record HasAnswered (part rest : List ℕ) (passed lines answered : ℕ) (before now : DeskValue) (feed : ℕ)
    (items_before items : List LogItem) : Type 0 where
  pub front : List ℕ
  pub cut : part ≡ front ++ rest
  pub fits : lines + length rest ≤ passed + length part
  pub answers : AnswersLines front passed lines before now feed items_before items
  pub size : length answers.more ≡ answered
