-- The parts of a line, a word or a number each: what bytes may stand for a part, and which is printed.
use Rattle.std.specs.Prelude.{ℕ, ◌≡◌, ◌≤◌, List, [], ◌∷◌, ◌++◌}
use Rattle.std.specs.List.{flat_map}
use Rattle.std.specs.Fmt.{decimal}
use Rattle.dm_base.specs.Numbers.{IsDigits, whole_value}
use Rattle.dm_feed.specs.declared.vocabulary.Word.{Word}
use Rattle.dm_feed.specs.Words.{spelling_of_word, words_of}

-- the largest id, and the largest value
abbrev pub largest_id : ℕ
largest_id = 4294967295

abbrev pub largest_value : ℕ
largest_value = 18446744073709551615

-- a word, the id of an event or an activity, or a value
pub data Part : Type 0 where
  word : Word → Part
  id : ℕ → Part
  value : ℕ → Part

-- the text writes the number in digits, with any zeros in front
pub record Writes (number largest : ℕ) (text : List ℕ) : Type 0 where
  pub digits : IsDigits text
  pub of : whole_value text ≡ number
  pub small : number ≤ largest

-- the text stands for the part
abbrev pub StandsFor : Part → List ℕ → Type 0
StandsFor (word w) text = text ≡ spelling_of_word w
StandsFor (id n) text = Writes n largest_id text
StandsFor (value n) text = Writes n largest_value text

-- the texts stand for the parts, each for its own
abbrev pub StandForAll : List Part → List (List ℕ) → Type 0
StandForAll [] [] = Unit {0}
StandForAll [] (text ∷ texts) = ⊥
StandForAll (part ∷ parts) [] = ⊥
StandForAll (part ∷ parts) (text ∷ texts) = StandsFor part text × StandForAll parts texts

-- the bytes have these parts in order, with any spaces between them and at both ends
abbrev pub HasParts : List ℕ → List Part → Type 0
HasParts bytes parts = StandForAll parts (words_of bytes)

-- ---- in print

-- the part's one spelling: a number has no zero in front
abbrev pub spelling_of_part : Part → List ℕ
spelling_of_part (word w) = spelling_of_word w
spelling_of_part (id n) = decimal n
spelling_of_part (value n) = decimal n

-- a part and a space in front
abbrev pub spaced : Part → List ℕ
spaced part = 32 ∷ spelling_of_part part

-- the one spelling of the parts in order, with one space between them
abbrev pub spelling_of_parts : List Part → List ℕ
spelling_of_parts [] = []
spelling_of_parts (part ∷ parts) = spelling_of_part part ++ flat_map spaced parts

-- the part's number is not above the largest
abbrev pub Fits : Part → Type 0
Fits (word w) = Unit {0}
Fits (id n) = n ≤ largest_id
Fits (value n) = n ≤ largest_value
