-- What was answered of a feed whose bytes come part by part.
use Rattle.std.specs.Prelude.{ℕ, ◌≡◌, ◌+◌, ◌<◌, ◌≤◌, ◌++◌, List, length, map, All}
use Rattle.dm_feed.specs.Feeds.{IsUnended}
use Rattle.dm_feed.specs.DueItems.{lines_of, AreDueItems}
use Rattle.dm_feed.specs.Joined.{AreWhole}
use Rattle.dm_cert.specs.declared.replies.LogItem.{LogItem}
use Rattle.dm_cert.specs.Logs.{IsInOrder, due_of}
use Rattle.dm_cert.specs.RunTexts.{IsSpelledItem}
use Rattle.dm_desk.specs.Desks.{DeskValue}
use Rattle.dm_desk.specs.Answered.{AreTrueOf, AnswersMore}

-- The bytes are so many whole lines. The log answers their due lines, each once, in order, and none else; what it holds is true
-- of the history that the desk has seen, and has a spelling.
pub record IsFed (bytes : List ℕ) (lines : ℕ) (desk : DeskValue) (feed : ℕ) (items : List LogItem) : Type 0 where
  pub whole : AreWhole bytes
  pub counted : lines ≡ length (lines_of bytes)
  pub due : AreDueItems 0 (lines_of bytes) (map due_of items)
  pub answers : AreTrueOf desk feed items
  pub in_order : IsInOrder 0 0 items
  pub spelled : All IsSpelledItem items

-- The bytes are whole lines, behind so many lines of the feed, and then so many lines were passed. Their due lines were
-- answered between two moments of a desk, each once, in order, and none else, with entry numbers that never fall. So whatever
-- bytes came before, what was answered of them goes on.
pub record AnswersLines (bytes : List ℕ) (passed lines : ℕ) (before now : DeskValue) (feed : ℕ)
    (items_before items : List LogItem) : Type 0 where
  pub whole : AreWhole bytes
  pub counted : lines ≡ passed + length (lines_of bytes)
  pub more : List LogItem
  pub behind : items ≡ items_before ++ more
  pub due : AreDueItems passed (lines_of bytes) (map due_of more)
  pub answers : AnswersMore before now more
  pub in_order : IsInOrder passed (length before.seen) more
  pub spelled : All IsSpelledItem more
  pub are_true : AreTrueOf now feed items
  pub still : (front : List ℕ) → IsFed front passed before feed items_before → IsFed (front ++ bytes) lines now feed items

-- The first bytes of a part were answered so, up to so many due lines; fewer only where no line that ends is left.
pub record AnswersPart (part : List ℕ) (batch passed taken lines : ℕ) (before now : DeskValue) (feed : ℕ)
    (items_before items : List LogItem) : Type 0 where
  pub front : List ℕ
  pub rest : List ℕ
  pub cut : part ≡ front ++ rest
  pub size : taken ≡ length front
  pub answers : AnswersLines front passed lines before now feed items_before items
  pub few : length answers.more ≤ batch
  pub none_left : length answers.more < batch → IsUnended rest
