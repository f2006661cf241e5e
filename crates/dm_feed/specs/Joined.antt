-- Bytes that come part by part: what their first line is, and what the due items of the parts are.
use Rattle.std.specs.Prelude.{ℕ, ◌≡◌, ◌+◌, ◌⊎◌, List, [], ◌∷◌, ◌++◌, length}
use Rattle.dm_feed.specs.declared.grammar.Heard.{Heard}
use Rattle.dm_feed.specs.Lines.{Hears}
use Rattle.dm_feed.specs.Feeds.{IsUnended, without_return, ended}
use Rattle.dm_feed.specs.DueItems.{lines_of, DueItem, AreDueItems}

-- no bytes, or bytes of which the last is a line feed
abbrev pub AreWhole : List ℕ → Type 0
AreWhole bytes = (bytes ≡ []) ⊎ ((front : List ℕ) × (bytes ≡ ended front))

-- The bytes begin with a line and its line feed: what is heard in it, and what stands behind it.
pub record HearsFirst (bytes : List ℕ) (heard : Heard) (rest : List ℕ) : Type 0 where
  pub line : List ℕ
  pub unended : IsUnended line
  pub cut : bytes ≡ ended line ++ rest
  pub hears : Hears (without_return line) heard

-- The due items of parts and of what is left behind them, one after the other: the lines of each are numbered on from those
-- of the parts before.
abbrev pub AreItemsOfParts : ℕ → List (List ℕ) → List ℕ → List DueItem → Type 0
AreItemsOfParts passed [] rest items = AreDueItems passed (lines_of rest) items
AreItemsOfParts passed (part ∷ parts) rest items =
    (first : List DueItem) × (others : List DueItem) × (items ≡ first ++ others) × AreDueItems passed (lines_of part) first
    × AreItemsOfParts (passed + length (lines_of part)) parts rest others
