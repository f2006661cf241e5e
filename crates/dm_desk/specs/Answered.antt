-- What was answered of a feed over a desk.
use Rattle.std.specs.Prelude.{ℕ, ◌≡◌, ◌==◌, ◌+◌, ◌<◌, ◌≤◌, ◌++◌, ◌⊎◌, [], List, length, map, count_by, All, Option, Some, None}
use Rattle.dm_feed.specs.declared.feed.FeedStop.{FeedStop}
use Rattle.dm_feed.specs.declared.feed.FeedStop.TheVariants.{End, Fault}
use Rattle.dm_feed.specs.Feeds.{ReaderValue}
use Rattle.dm_feed.specs.DueItems.{DueItem, GivesLines, StopsSo}
use Rattle.dm_rows.specs.History.{IsLegal}
use Rattle.dm_cert.specs.declared.replies.LogItem.{LogItem}
use Rattle.dm_cert.specs.Logs.{Kind, free, told, entered, kind_of, line_of, AreTrueAnswers, IsInOrder, names, due_of}
use Rattle.dm_cert.specs.RunTexts.{IsSpelledItem}
use Rattle.dm_desk.specs.Desks.{DeskValue, GoesOn}

-- how often a number stands in a list
abbrev pub times : ℕ → List ℕ → ℕ
times n numbers = count_by (λ m. m == n) numbers

-- the entry number, where there is one, is not below the first nor above the last, and that of an accepted message is above
-- the first
abbrev pub IsBetween : ℕ → ℕ → Kind → Type 0
IsBetween first last free = Unit {0}
IsBetween first last (told n) = (first ≤ n) × (n ≤ last)
IsBetween first last (entered n) = (first < n) × (n ≤ last)

-- the reader has not stopped, or has given the last line of its feed
abbrev pub IsOpen : {S : Type 0} → ReaderValue S → Type 0
IsOpen reader = (reader.stop ≡ None) ⊎ (reader.stop ≡ Some End)

-- the items of a feed are true of the history that the desk has seen
abbrev pub AreTrueOf : DeskValue → ℕ → List LogItem → Type 0
AreTrueOf desk feed items = AreTrueAnswers desk.setting desk.seen feed [] items

-- The log answers the due lines that a reader has given since its start, in order; what it holds is true of the history that
-- the desk has seen, and has a spelling.
pub record IsAnswered {S : Type 0} (left : S → Option (List ℕ)) (start reader : ReaderValue S) (desk : DeskValue) (feed : ℕ)
    (items : List LogItem) : Type 0 where
  pub due : List DueItem
  pub given : GivesLines left start due reader
  pub answered : map due_of items ≡ due
  pub answers : AreTrueOf desk feed items
  pub in_order : IsInOrder 0 0 items
  pub passed : All (λ answered. line_of answered ≤ reader.lines) items
  pub spelled : All IsSpelledItem items

-- The feed was answered so up to its stop.
pub record IsEnded {S : Type 0} (left : S → Option (List ℕ)) (start : ReaderValue S) (desk : DeskValue) (feed : ℕ)
    (items : List LogItem) (stop : FeedStop) : Type 0 where
  pub reader : ReaderValue S
  pub last : ReaderValue S
  pub answered : IsAnswered left start reader desk feed items
  pub stops : StopsSo left reader last stop

abbrev pub IsAnsweredUpTo : {S : Type 0} → (S → Option (List ℕ)) → ReaderValue S → ReaderValue S → DeskValue → ℕ →
    List LogItem → Option FeedStop → Type 0
IsAnsweredUpTo left start reader desk feed items None = IsAnswered left start reader desk feed items
IsAnsweredUpTo left start reader desk feed items (Some stop) = IsEnded left start desk feed items stop

-- These items were answered between two moments of a desk: their entry numbers lie between the lengths of what it had seen, and
-- what was entered then is named by just one of them.
pub record AnswersMore (before now : DeskValue) (items : List LogItem) : Type 0 where
  pub goes_on : GoesOn before now
  pub between : All (λ answered. IsBetween (length before.seen) (length now.seen) (kind_of answered)) items
  pub named : (n : ℕ) → count_by (names n) items + times n before.mine ≡ times n now.mine

-- so many items were answered, or, up to the stop, fewer
abbrev pub HasSize : ℕ → ℕ → Option FeedStop → Type 0
HasSize batch size None = size ≡ batch
HasSize batch size (Some stop) = size ≤ batch

-- a stop at a failed read comes only where the source did not tell before that it is sound
abbrev pub HasCause : {S : Type 0} → (S → Type 0) → ReaderValue S → Option FeedStop → Type 0
HasCause is_sound before None = Unit {0}
HasCause is_sound before (Some stop) = stop ≡ Fault → is_sound before.source → ⊥

-- The next items of a feed were answered, so many of them or all that there were up to the stop.
pub record AnswersBatch {S : Type 0} (left : S → Option (List ℕ)) (is_sound : S → Type 0) (reader_before reader : ReaderValue S)
    (before now : DeskValue) (feed batch : ℕ) (items_before items : List LogItem) (stop : Option FeedStop) : Type 0 where
  pub more : List LogItem
  pub behind : items ≡ items_before ++ more
  pub size : HasSize batch (length more) stop
  pub answers : AnswersMore before now more
  pub are_true : AreTrueOf now feed items
  pub still : (start : ReaderValue S) → IsAnswered left start reader_before before feed items_before →
      IsAnsweredUpTo left start reader now feed items stop
  pub is_open : stop ≡ None → IsOpen reader
  pub cause : HasCause is_sound reader_before stop

-- a desk that has seen nothing illegal
abbrev pub HasSeenLegal : DeskValue → Type 0
HasSeenLegal desk = IsLegal desk.setting.net desk.setting.start desk.seen
