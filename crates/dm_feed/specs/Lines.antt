-- What lines and messages say, by the parts that they have: a kind of line is a line of these tables.
use Rattle.std.specs.Prelude.{ℕ, ◌≡◌, ◌≤◌, ◌⊎◌, List, [], ◌∷◌, length, All, Option, Some, None}
use Rattle.std.specs.List.{flat_map}
use Rattle.dm_base.specs.declared.limits.TheConstants.{LINE}
use Rattle.dm_rows.specs.declared.messages.Decision.{Decision}
use Rattle.dm_rows.specs.declared.messages.Decision.TheVariants as decision
use Rattle.dm_rows.specs.declared.messages.Choice.{Choice}
use Rattle.dm_rows.specs.declared.messages.Choice.TheVariants as choice
use Rattle.dm_rows.specs.declared.messages.Message.{Message}
use Rattle.dm_rows.specs.declared.messages.Message.TheVariants as message
use Rattle.dm_feed.specs.declared.vocabulary.Word.TheVariants.{Delay, Event, Activity, Pass, Recall, Keep, Drop, First, Now, Cancel, Restore, Lock, Unlock, Time, Cost, Read, Plan, Solve, Adopt, Carry}
use Rattle.dm_rows.specs.Sides.{IsSorted}
use Rattle.dm_feed.specs.declared.grammar.Line.{Line}
use Rattle.dm_feed.specs.declared.grammar.Line.TheVariants as line
use Rattle.dm_feed.specs.declared.grammar.Heard.{Heard}
use Rattle.dm_feed.specs.declared.grammar.Heard.TheVariants as heard
use Rattle.dm_feed.specs.Words.{words_of}
use Rattle.dm_feed.specs.Parts.{Part, word, id, value, HasParts, Fits, spaced, spelling_of_parts}

abbrev pub parts_of_decision : Decision → List Part
parts_of_decision (decision.Keep a) = word Keep ∷ id a.0 ∷ []
parts_of_decision (decision.Drop a) = word Drop ∷ id a.0 ∷ []
parts_of_decision (decision.First e f) = word First ∷ id e.0 ∷ id f.0 ∷ []

-- a choice: the id of a change, or the two ids of a pair
abbrev pub parts_of_choice : Choice → List Part
parts_of_choice (choice.Change a) = id a.0 ∷ []
parts_of_choice (choice.Pair i j) = id i.0 ∷ id j.0 ∷ []

abbrev pub parts_of_message : Message → List Part
parts_of_message (message.DelayEvent e d) = word Delay ∷ word Event ∷ id e.0 ∷ value d ∷ []
parts_of_message (message.DelayActivity a d) = word Delay ∷ word Activity ∷ id a.0 ∷ value d ∷ []
parts_of_message (message.Pass e t) = word Pass ∷ id e.0 ∷ value t ∷ []
parts_of_message (message.Recall e) = word Recall ∷ id e.0 ∷ []
parts_of_message (message.Keep a) = word Keep ∷ id a.0 ∷ []
parts_of_message (message.Drop a) = word Drop ∷ id a.0 ∷ []
parts_of_message (message.First e f) = word First ∷ id e.0 ∷ id f.0 ∷ []
parts_of_message (message.Now t) = word Now ∷ value t ∷ []
parts_of_message (message.Cancel e) = word Cancel ∷ id e.0 ∷ []
parts_of_message (message.Restore e) = word Restore ∷ id e.0 ∷ []
parts_of_message (message.Lock c) = word Lock ∷ parts_of_choice c
parts_of_message (message.Unlock c) = word Unlock ∷ parts_of_choice c
parts_of_message (message.Adopt decisions) = word Adopt ∷ flat_map parts_of_decision decisions

abbrev pub parts_of_line : Line → List Part
parts_of_line (line.Say m) = parts_of_message m
parts_of_line (line.Time e) = word Time ∷ id e.0 ∷ []
parts_of_line line.CostNow = word Cost ∷ []
parts_of_line (line.Plan b) = word Plan ∷ value b ∷ []
parts_of_line (line.Solve b) = word Solve ∷ value b ∷ []
parts_of_line line.Adopt = word Adopt ∷ []
parts_of_line line.Carry = word Carry ∷ []
parts_of_line line.Read = word Read ∷ []

-- ---- pairs to lock and unlock

-- in a message that locks or unlocks a pair no larger id stands before a smaller one
abbrev pub HasSortedChoice : Message → Type 0
HasSortedChoice (message.Lock c) = IsSorted c
HasSortedChoice (message.Unlock c) = IsSorted c
HasSortedChoice _ = Unit {0}

-- A feed may name the two ids of a pair to lock or unlock the other way round.
abbrev pub turned_choice : Choice → List Part
turned_choice (choice.Change a) = id a.0 ∷ []
turned_choice (choice.Pair i j) = id j.0 ∷ id i.0 ∷ []

abbrev pub turned_parts_of_message : Message → List Part
turned_parts_of_message (message.Lock c) = word Lock ∷ turned_choice c
turned_parts_of_message (message.Unlock c) = word Unlock ∷ turned_choice c
turned_parts_of_message m = parts_of_message m

abbrev pub turned_parts_of_line : Line → List Part
turned_parts_of_line (line.Say m) = turned_parts_of_message m
turned_parts_of_line said = parts_of_line said

-- a line says any message but an adopted list; of a pair to lock or unlock it says the smaller id first
abbrev pub IsSaid : Message → Type 0
IsSaid (message.DelayEvent e d) = Unit {0}
IsSaid (message.DelayActivity a d) = Unit {0}
IsSaid (message.Pass e t) = Unit {0}
IsSaid (message.Recall e) = Unit {0}
IsSaid (message.Keep a) = Unit {0}
IsSaid (message.Drop a) = Unit {0}
IsSaid (message.First e f) = Unit {0}
IsSaid (message.Now t) = Unit {0}
IsSaid (message.Cancel e) = Unit {0}
IsSaid (message.Restore e) = Unit {0}
IsSaid (message.Lock c) = IsSorted c
IsSaid (message.Unlock c) = IsSorted c
IsSaid (message.Adopt decisions) = ⊥

abbrev pub IsSpelledLine : Line → Type 0
IsSpelledLine (line.Say m) = IsSaid m
IsSpelledLine (line.Time e) = Unit {0}
IsSpelledLine line.CostNow = Unit {0}
IsSpelledLine (line.Plan b) = Unit {0}
IsSpelledLine (line.Solve b) = Unit {0}
IsSpelledLine line.Adopt = Unit {0}
IsSpelledLine line.Carry = Unit {0}
IsSpelledLine line.Read = Unit {0}

-- ---- what is heard in bytes

-- the bytes are not too many, and stand for the line; the ids of a pair to lock or unlock may stand in either order
pub record IsLineOf (said : Line) (bytes : List ℕ) : Type 0 where
  pub short : length bytes ≤ LINE
  pub spelled : IsSpelledLine said
  pub parts : HasParts bytes (parts_of_line said) ⊎ HasParts bytes (turned_parts_of_line said)

-- no words, or words of which the first begins with the number sign
abbrev pub SayNothing : List (List ℕ) → Type 0
SayNothing [] = Unit {0}
SayNothing ([] ∷ texts) = ⊥
SayNothing ((c ∷ cs) ∷ texts) = c ≡ 35

-- a blank line or a comment
pub record IsQuiet (bytes : List ℕ) : Type 0 where
  pub short : length bytes ≤ LINE
  pub says_nothing : SayNothing (words_of bytes)

-- neither a blank line or a comment nor any line
pub record IsInNoForm (bytes : List ℕ) : Type 0 where
  pub not_quiet : IsQuiet bytes → ⊥
  pub no_line : (said : Line) → IsLineOf said bytes → ⊥

abbrev pub Hears : List ℕ → Heard → Type 0
Hears bytes heard.Blank = IsQuiet bytes
Hears bytes (heard.Line said) = IsLineOf said bytes
Hears bytes heard.Malformed = IsInNoForm bytes

-- ---- in print

-- a line's one spelling
unfoldable pub spelling_of_line : Line → List ℕ
spelling_of_line said = spelling_of_parts (parts_of_line said)

-- a decision as it stands in an adopted list, with a space in front of each part
abbrev pub spelling_of_decision : Decision → List ℕ
spelling_of_decision decision = flat_map spaced (parts_of_decision decision)

-- a choice: the id of a change, or the two ids of a pair
abbrev pub spelling_of_choice : Choice → List ℕ
spelling_of_choice c = spelling_of_parts (parts_of_choice c)

-- a message's one spelling
unfoldable pub spelling_of_message : Message → List ℕ
spelling_of_message said = spelling_of_parts (parts_of_message said)

-- the bytes are the message's spelling; its numbers are not too large, and of a pair to lock or unlock the smaller id stands first
pub record IsMessageOf (said : Message) (bytes : List ℕ) : Type 0 where
  pub fits : All Fits (parts_of_message said)
  pub sorted : HasSortedChoice said
  pub spelled : bytes ≡ spelling_of_message said

-- the bytes are no message's spelling
abbrev pub IsNoMessage : List ℕ → Type 0
IsNoMessage bytes = (said : Message) → IsMessageOf said bytes → ⊥

-- the bytes are the line's spelling; its numbers are not too large, and of a pair to lock or unlock the smaller id stands first
pub record IsPrintedLine (said : Line) (bytes : List ℕ) : Type 0 where
  pub fits : All Fits (parts_of_line said)
  pub said_so : IsSpelledLine said
  pub spelled : bytes ≡ spelling_of_line said

-- the line whose spelling the bytes are, or they are no line's
abbrev pub ReadsPrinted : List ℕ → Option Line → Type 0
ReadsPrinted bytes (Some said) = IsPrintedLine said bytes
ReadsPrinted bytes None = (said : Line) → IsPrintedLine said bytes → ⊥
