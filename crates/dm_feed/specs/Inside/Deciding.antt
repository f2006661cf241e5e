-- How the reader goes from words to the decisions of an adopted list, and to a message.
use Rattle.std.specs.Prelude.{ℕ, ◌≡◌, List, ◌++◌, Option, Some, None, Result, Ok, Err, Vec}
use Rattle.std.specs.List.{flat_map}
use Rattle.std.specs.declared.alloc.Global.{Global}
use Rattle.dm_rows.specs.declared.messages.Decision.{Decision}
use Rattle.dm_rows.specs.declared.messages.Message.{Message}
use Rattle.dm_feed.specs.declared.messages.MessageFault.{MessageFault}
use Rattle.dm_feed.specs.declared.messages.MessageFault.TheVariants.{Form, OutOfMemory}
use Rattle.dm_feed.specs.declared.grammar.Line.{Line}
use Rattle.dm_feed.specs.Parts.{StandForAll}
use Rattle.dm_feed.specs.Lines.{parts_of_decision, parts_of_message, parts_of_line, HasSortedChoice, IsSpelledLine}

-- the texts stand for the decisions
abbrev pub AreDecisions : List Decision → List (List ℕ) → Type 0
AreDecisions decisions texts = StandForAll (flat_map parts_of_decision decisions) texts

-- the decisions that the texts stand for, or none do
abbrev pub ReadsDecisions : List (List ℕ) → Result (Vec Decision Global) MessageFault → Type 0
ReadsDecisions texts (Ok decisions) = AreDecisions decisions.items texts
ReadsDecisions texts (Err Form) = (decisions : List Decision) → AreDecisions decisions texts → ⊥
ReadsDecisions texts (Err OutOfMemory) = Unit {0}

-- the texts stand for the message, and of a pair to lock or unlock the smaller id is first
pub record StandForMessage (texts : List (List ℕ)) (said : Message) : Type 0 where
  pub parts : StandForAll (parts_of_message said) texts
  pub sorted : HasSortedChoice said

-- the message that the texts stand for, or none does
abbrev pub ReadsParts : List (List ℕ) → Result Message MessageFault → Type 0
ReadsParts texts (Ok said) = StandForMessage texts said
ReadsParts texts (Err Form) = (said : Message) → StandForMessage texts said → ⊥
ReadsParts texts (Err OutOfMemory) = Unit {0}

-- the decisions go on behind those that are held
pub record GoOn (held decisions : List Decision) (rest : List (List ℕ)) : Type 0 where
  pub tail : List Decision
  pub are : decisions ≡ held ++ tail
  pub stand : AreDecisions tail rest

-- The decisions that are held were read: with those of the rest they are those of all.
pub record ReadSoFar (all rest : List (List ℕ)) (held : List Decision) : Type 0 where
  pub together : (tail : List Decision) → AreDecisions tail rest → AreDecisions (held ++ tail) all
  pub alone : (decisions : List Decision) → AreDecisions decisions all → GoOn held decisions rest

-- the texts stand for the line, and of a pair to lock or unlock the smaller id is first
pub record StandForLine (texts : List (List ℕ)) (said : Line) : Type 0 where
  pub parts : StandForAll (parts_of_line said) texts
  pub spelled : IsSpelledLine said

-- the line that the texts stand for, or none does
abbrev pub ReadsLine : List (List ℕ) → Option Line → Type 0
ReadsLine texts (Some said) = StandForLine texts said
ReadsLine texts None = (said : Line) → StandForLine texts said → ⊥
