-- What holds of all rounds and their texts.
use Rattle.std.specs.Prelude.{ℕ, ◌≡◌, ◌^◌, ◌<◌, List, ◌++◌, length, All}
use Rattle.dm_cert.specs.declared.replies.LogItem.{LogItem}
use Rattle.dm_records.specs.Laws.{IsHeldItem}
use Rattle.dm_tape.specs.Rounds.{round_text, IsTapeItem}

-- the item can stand in print, and memory holds its lists
pub record IsKeptItem (answered : LogItem) : Type 0 where
  pub in_print : IsTapeItem answered
  pub held : IsHeldItem answered

pub record IsKeptPart (items : List LogItem) : Type 0 where
  pub size : length items < 2 ^ 64
  pub items_are : All IsKeptItem items

-- they are one round, and what stands behind its text is the same
pub record IsSameRound (one other : List (List LogItem)) (rest more : List ℕ) : Type 0 where
  pub round : one ≡ other
  pub behind : rest ≡ more

-- Two rounds of as many feeds whose texts begin one text are one round. So different rounds have different texts, no text of a
-- round is a proper front of another's, and what follows a round's text does not change how it is read.
abbrev pub RoundsHaveOwnTexts : Type 0
RoundsHaveOwnTexts =
    (one other : List (List LogItem)) (rest more : List ℕ) → All IsKeptPart one → All IsKeptPart other →
    length one ≡ length other → round_text one ++ rest ≡ round_text other ++ more → IsSameRound one other rest more
