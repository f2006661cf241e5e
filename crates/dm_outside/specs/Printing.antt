-- What printing a text does to a sink, and to the page that gathers bytes before the sink takes them.
--
-- A sink is seen through taken, the bytes that it took, and faults, its count: K.taken and K.faults of
-- a bound. A page is seen as the bytes that it holds.
use Rattle.std.specs.Prelude.{◌≡◌, ℕ, ◌<◌, ◌≤◌, List, [], ◌∷◌, ◌++◌, length, Option, Result, MatchResult}
use Rattle.std.specs.List.{flat_map}
use Rattle.std.specs.Fmt.{decimal}
use Rattle.std.specs.Io.KnownBytes.{Appends}
use Rattle.dm_outside.specs.Faults.{HasRisen}
use Rattle.dm_outside.specs.declared.page.Piece.{Piece}
use Rattle.dm_outside.specs.declared.page.Piece.TheVariants.{Text, Number}

-- the texts one after another
abbrev pub joined : List (List ℕ) → List ℕ
joined [] = []
joined (text ∷ texts) = text ++ joined texts

-- the bytes of a piece: its text, or its number in decimal digits
abbrev pub piece_text : Piece → List ℕ
piece_text (Text text) = text.now
piece_text (Number number) = decimal number

-- the bytes of the pieces, one after another
abbrev pub pieces_text : List Piece → List ℕ
pieces_text pieces = flat_map piece_text pieces

-- the sink took the whole text
pub record TakesAll {K : Type 0} (taken : K → Option (List ℕ)) (faults : K → ℕ) (before now : K) (text : List ℕ) : Type 0 where
  pub appended : Appends (taken before) (taken now) text
  pub later : faults before ≤ faults now

-- the sink failed: it took a front of the text, and not all of it
pub record TakesFront {K : Type 0} (taken : K → Option (List ℕ)) (faults : K → ℕ) (before now : K) (text : List ℕ) : Type 0 where
  pub front : List ℕ
  pub rest : List ℕ
  pub is_text : text ≡ front ++ rest
  pub is_proper : 0 < length rest
  pub appended : Appends (taken before) (taken now) front
  pub later : faults before ≤ faults now
  pub risen : HasRisen (faults before) (faults now)

-- A text was put into the sink: the whole at Ok. At Err the count of faults rose and a proper front was taken.
abbrev pub Puts : {K T E : Type 0} → (K → Option (List ℕ)) → (K → ℕ) → K → K → Result T E → List ℕ → Type 0
Puts taken faults before now result text =
    MatchResult result (λ _. TakesAll taken faults before now text) (λ _. TakesFront taken faults before now text)

-- behind what was held comes the text: the sink took the given front of that, and the page holds the rest
pub record Gathers {K : Type 0} (taken : K → Option (List ℕ)) (faults : K → ℕ) (before now : K)
    (held_before held_now text : List ℕ) : Type 0 where
  pub given : List ℕ
  pub is_text : held_before ++ text ≡ given ++ held_now
  pub takes : TakesAll taken faults before now given

-- the sink failed: it took a proper front of what was held and the text behind it
pub record Breaks {K : Type 0} (taken : K → Option (List ℕ)) (faults : K → ℕ) (before now : K) (held text : List ℕ) : Type 0 where
  pub takes : TakesFront taken faults before now (held ++ text)

-- A text was printed through the page: gathered at Ok. At Err the count of faults rose, and the sink took a
-- proper front of what was held and the text.
abbrev pub Prints : {K T E : Type 0} → (K → Option (List ℕ)) → (K → ℕ) → K → K → List ℕ → List ℕ → Result T E → List ℕ → Type 0
Prints taken faults before now held_before held_now result text =
    MatchResult result (λ _. Gathers taken faults before now held_before held_now text)
    (λ _. Breaks taken faults before now held_before text)
