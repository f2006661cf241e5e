-- How the reader goes from words to a line: a function for each function of the code.
use Rattle.std.specs.Prelude.{ℕ, ◌==◌, Bool, true, false, ◌&&◌, not, if◌then◌else◌, nat_eq, nat_le, List, [], ◌∷◌, length, Option, Some, None}
use Rattle.std.specs.List.{find, list_all, slice_split}
use Rattle.std.specs.Option.{option_map}
use Rattle.std.specs.Char.{is_ascii_digit}
use Rattle.std.specs.Cmp.Lexicographic.{pointwise}
use Rattle.dm_base.specs.Numbers.{whole_value}
use Rattle.dm_base.specs.declared.limits.TheConstants.{LINE}
use Rattle.dm_base.specs.declared.ids.EventId.{EventId}
use Rattle.dm_base.specs.declared.ids.ActId.{ActId}
use Rattle.dm_rows.specs.declared.messages.Decision.{Decision}
use Rattle.dm_rows.specs.declared.messages.Decision.TheVariants as decision
use Rattle.dm_rows.specs.declared.messages.Choice.{Choice}
use Rattle.dm_rows.specs.declared.messages.Choice.TheVariants as choice
use Rattle.dm_rows.specs.Sides.{sorted_choice}
use Rattle.dm_rows.specs.declared.messages.Message.{Message}
use Rattle.dm_rows.specs.declared.messages.Message.TheVariants as message
use Rattle.dm_feed.specs.declared.vocabulary.Word.{Word}
use Rattle.dm_feed.specs.declared.vocabulary.Word.TheVariants.{Delay, Event, Activity, Pass, Recall, Keep, Drop, First, Now, Cancel, Restore, Lock, Unlock, Time, Cost, Read, Plan, Solve, Adopt, Carry}
use Rattle.dm_feed.specs.declared.grammar.Line.{Line}
use Rattle.dm_feed.specs.declared.grammar.Line.TheVariants as line
use Rattle.dm_feed.specs.declared.grammar.Heard.{Heard}
use Rattle.dm_feed.specs.declared.grammar.Heard.TheVariants as heard
use Rattle.dm_feed.specs.Words.{spelling_of_word, words_of}
use Rattle.dm_feed.specs.Parts.{largest_id, largest_value}

-- the words that lines are made of
abbrev pub every_word : List Word
every_word =
    Delay ∷ Event ∷ Activity ∷ Pass ∷ Recall ∷ Keep ∷ Drop ∷ First ∷ Now ∷ Cancel ∷ Restore ∷ Lock ∷ Unlock ∷ Time ∷ Cost ∷ Read
    ∷ Plan ∷ Solve ∷ Adopt ∷ Carry ∷ []

-- the word that is spelled so
abbrev pub word_named : List ℕ → Option Word
word_named text = find (λ w. pointwise nat_eq (spelling_of_word w) text) every_word

-- one or more decimal digits
abbrev pub is_number : List ℕ → Bool
is_number text = not (length text == 0) && list_all is_ascii_digit text

-- the number that digits spell, where it is not above the largest
abbrev pub number_up_to : ℕ → List ℕ → Option ℕ
number_up_to largest text =
    if is_number text && nat_le (whole_value text) largest then Some (whole_value text) else None

abbrev pub id_in : List ℕ → Option ℕ
id_in text = number_up_to largest_id text

abbrev pub value_in : List ℕ → Option ℕ
value_in text = number_up_to largest_value text

-- what is read of the one text
abbrev pub only : {X : Type 0} → (List ℕ → Option X) → List (List ℕ) → Option X
only read [] = None
only read (text ∷ []) = read text
only read (text ∷ next ∷ texts) = None

-- both numbers, where both are there
abbrev pub both : Option ℕ → Option ℕ → Option (ℕ × ℕ)
both None b = None
both (Some m) None = None
both (Some m) (Some n) = Some (m, n)

-- what is read of the two texts
abbrev pub two : (List ℕ → Option ℕ) → (List ℕ → Option ℕ) → List (List ℕ) → Option (ℕ × ℕ)
two first second [] = None
two first second (text ∷ texts) = both (first text) (only second texts)

abbrev pub event : ℕ → EventId
event n = record { 0 = n }

abbrev pub act : ℕ → ActId
act n = record { 0 = n }

-- the line, if no text is behind it
abbrev pub alone : Line → List (List ℕ) → Option Line
alone said [] = Some said
alone said (text ∷ texts) = None

-- a delay, of what the word names
abbrev pub delay_of : Option Word → List (List ℕ) → Option Line
delay_of (Some Event) texts = option_map (λ p. line.Say (message.DelayEvent (event p.0) p.1)) (two id_in value_in texts)
delay_of (Some Activity) texts = option_map (λ p. line.Say (message.DelayActivity (act p.0) p.1)) (two id_in value_in texts)
delay_of _ texts = None

abbrev pub delay_behind : List (List ℕ) → Option Line
delay_behind [] = None
delay_behind (what ∷ texts) = delay_of (word_named what) texts

-- the choice that is the id of a change or the two ids of a pair, which may stand in either order
abbrev pub choice_behind : Option ℕ → List (List ℕ) → Option Choice
choice_behind None texts = None
choice_behind (Some m) [] = Some (choice.Change (act m))
choice_behind (Some m) (text ∷ texts) =
    option_map (λ n. sorted_choice (choice.Pair (event m) (event n))) (only id_in (text ∷ texts))

abbrev pub choice_in : List (List ℕ) → Option Choice
choice_in [] = None
choice_in (text ∷ texts) = choice_behind (id_in text) texts

-- the line that begins with the word
abbrev pub line_behind : Word → List (List ℕ) → Option Line
line_behind Delay texts = delay_behind texts
line_behind Event texts = None
line_behind Activity texts = None
line_behind Pass texts = option_map (λ p. line.Say (message.Pass (event p.0) p.1)) (two id_in value_in texts)
line_behind Recall texts = option_map (λ n. line.Say (message.Recall (event n))) (only id_in texts)
line_behind Keep texts = option_map (λ n. line.Say (message.Keep (act n))) (only id_in texts)
line_behind Drop texts = option_map (λ n. line.Say (message.Drop (act n))) (only id_in texts)
line_behind First texts = option_map (λ p. line.Say (message.First (event p.0) (event p.1))) (two id_in id_in texts)
line_behind Now texts = option_map (λ n. line.Say (message.Now n)) (only value_in texts)
line_behind Cancel texts = option_map (λ n. line.Say (message.Cancel (event n))) (only id_in texts)
line_behind Restore texts = option_map (λ n. line.Say (message.Restore (event n))) (only id_in texts)
line_behind Lock texts = option_map (λ c. line.Say (message.Lock c)) (choice_in texts)
line_behind Unlock texts = option_map (λ c. line.Say (message.Unlock c)) (choice_in texts)
line_behind Time texts = option_map (λ n. line.Time (event n)) (only id_in texts)
line_behind Cost texts = alone line.CostNow texts
line_behind Read texts = alone line.Read texts
line_behind Plan texts = option_map (λ n. line.Plan n) (only value_in texts)
line_behind Solve texts = option_map (λ n. line.Solve n) (only value_in texts)
line_behind Adopt texts = alone line.Adopt texts
line_behind Carry texts = alone line.Carry texts

-- the line that begins with what the text names
abbrev pub line_with : Option Word → List (List ℕ) → Option Line
line_with None texts = None
line_with (Some w) texts = line_behind w texts

abbrev pub line_in : List ℕ → List (List ℕ) → Option Line
line_in first texts = line_with (word_named first) texts

-- ---- messages in print

-- a word in print: some bytes, with no zero in front of another digit
abbrev pub is_plain_word : List ℕ → Bool
is_plain_word [] = false
is_plain_word (c ∷ []) = true
is_plain_word (c ∷ d ∷ cs) = not (c == 48)

-- one space between the words, none at the ends, and no zeros in front
abbrev pub is_plain : List ℕ → Bool
is_plain bytes = list_all is_plain_word (slice_split (λ b. b == 32) bytes)

-- the message that the line says
abbrev pub message_of : Line → Option Message
message_of (line.Say m) = Some m
message_of (line.Time e) = None
message_of line.CostNow = None
message_of (line.Plan b) = None
message_of (line.Solve b) = None
message_of line.Adopt = None
message_of line.Carry = None
message_of line.Read = None

-- the id that is first, and the texts behind it
abbrev pub next_id : List (List ℕ) → Option (ℕ × List (List ℕ))
next_id [] = None
next_id (text ∷ texts) = option_map (λ n. (n, texts)) (id_in text)

abbrev pub first_behind : Option (ℕ × List (List ℕ)) → Option (Decision × List (List ℕ))
first_behind None = None
first_behind (Some p) = option_map (λ q. (decision.First (event p.0) (event q.0), q.1)) (next_id p.1)

-- no larger id stands before a smaller one
abbrev pub is_sorted_decision : Decision → Bool
is_sorted_decision (decision.First i j) = nat_le i.0 j.0
is_sorted_decision (decision.Keep a) = true
is_sorted_decision (decision.Drop a) = true

abbrev pub is_sorted_first : Option (Decision × List (List ℕ)) → Bool
is_sorted_first None = true
is_sorted_first (Some p) = is_sorted_decision p.0

-- behind the word of a message in print: of a pair to lock or unlock the smaller id stands first
abbrev pub are_sorted : Word → List (List ℕ) → Bool
are_sorted Lock texts = is_sorted_first (first_behind (next_id texts))
are_sorted Unlock texts = is_sorted_first (first_behind (next_id texts))
are_sorted w texts = true

abbrev pub decision_behind : Option Word → List (List ℕ) → Option (Decision × List (List ℕ))
decision_behind (Some Keep) texts = option_map (λ p. (decision.Keep (act p.0), p.1)) (next_id texts)
decision_behind (Some Drop) texts = option_map (λ p. (decision.Drop (act p.0), p.1)) (next_id texts)
decision_behind (Some First) texts = first_behind (next_id texts)
decision_behind _ texts = None

-- the decision that is first, and the texts behind it
abbrev pub next_decision : List (List ℕ) → Option (Decision × List (List ℕ))
next_decision [] = None
next_decision (text ∷ texts) = decision_behind (word_named text) texts

-- ---- what is heard

abbrev pub heard_line : Option Line → Heard
heard_line None = heard.Malformed
heard_line (Some said) = heard.Line said

abbrev pub begins_comment : List ℕ → Bool
begins_comment [] = false
begins_comment (c ∷ cs) = c == 35

abbrev pub heard_words : List (List ℕ) → Heard
heard_words [] = heard.Blank
heard_words (first ∷ texts) = if begins_comment first then heard.Blank else heard_line (line_in first texts)

abbrev pub heard_in : List ℕ → Heard
heard_in bytes = if nat_le (length bytes) LINE then heard_words (words_of bytes) else heard.Malformed
