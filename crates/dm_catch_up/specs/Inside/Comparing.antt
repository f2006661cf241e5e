-- How far a feed is as it was answered.
use Rattle.std.specs.Prelude.{ℕ, ◌≡◌, ◌≢◌, ◌⊎◌, ◌+◌, ◌<◌, ◌≤◌, List, [], ◌∷◌, ◌++◌, length, map, min, take, Option, IfSome}
use Rattle.dm_feed.specs.declared.grammar.Heard.{Heard}
use Rattle.dm_feed.specs.declared.grammar.Heard.TheVariants.{Blank}
use Rattle.dm_feed.specs.DueItems.{AreDueItems, DueItem, lines_of, item}
use Rattle.dm_feed.specs.Feeds.{IsUnended}
use Rattle.dm_feed.specs.Joined.{AreWhole}
use Rattle.dm_outside.specs.Faults.{HasRisen}
use Rattle.dm_cert.specs.declared.replies.LogItem.{LogItem}
use Rattle.dm_cert.specs.Logs.{due_of, line_of}
use Rattle.dm_tail.specs.Watching.{largest_feed}
use Rattle.dm_tail.specs.declared.tail.Tail.{Tail}
use Rattle.dm_tail.specs.declared.watched.Watched.{Watched}
use Rattle.dm_catch_up.specs.Feeds.{line_of_due}
use Rattle.dm_catch_up.specs.declared.catching.CatchUpStop.{CatchUpStop}
use Rattle.dm_catch_up.specs.declared.catching.CatchUpStop.TheVariants as stop

-- ---- one line

-- the line asks nothing, or the item answers it
abbrev pub IsPassed : LogItem → ℕ → Heard → ℕ → Type 0
IsPassed answered line heard count = ((count ≡ 0) × (heard ≡ Blank)) ⊎ ((count ≡ 1) × (heard ≢ Blank) × (due_of answered ≡ item line heard))

-- the line is due, and the item answers another
pub record IsOtherDue (answered : LogItem) (line : ℕ) (heard : Heard) (told : ℕ) : Type 0 where
  pub is_due : heard ≢ Blank
  pub other : due_of answered ≡ item line heard → ⊥
  pub first : told ≡ min (line_of answered) line

abbrev pub StopsAt : LogItem → ℕ → Heard → CatchUpStop → Type 0
StopsAt answered line heard (stop.Changed told) = IsOtherDue answered line heard told
StopsAt answered line heard _ = ⊥

-- ---- a part of a feed

-- The part has whole lines in front of what is left, behind so many lines of the feed; the first of the items, so many, answer those
-- that are due.
pub record AreSame (part : List ℕ) (passed : ℕ) (items : List LogItem) (rest : List ℕ) (lines count : ℕ) : Type 0 where
  pub front : List ℕ
  pub cut : part ≡ front ++ rest
  pub whole : AreWhole front
  pub counted : lines ≡ passed + length (lines_of front)
  pub due : AreDueItems passed (lines_of front) (map due_of (take count items))
  pub few : count ≤ length items
  pub fits : lines + length rest ≤ passed + length part

-- so many bytes of the part are such lines; fewer items than there are answer them only where no line that ends is left
pub record IsCompared (part : List ℕ) (passed : ℕ) (items : List LogItem) (bytes lines count : ℕ) : Type 0 where
  pub rest : List ℕ
  pub same : AreSame part passed items rest lines count
  pub size : bytes ≡ length same.front
  pub none_left : count < length items → IsUnended rest

-- the next due line is another than the next item's
pub record HasOther (part : List ℕ) (passed : ℕ) (items : List LogItem) (told : ℕ) : Type 0 where
  pub front : List ℕ
  pub rest : List ℕ
  pub cut : part ≡ front ++ rest
  pub whole : AreWhole front
  pub same : List LogItem
  pub next : LogItem
  pub later : List LogItem
  pub split : items ≡ same ++ next ∷ later
  pub due : DueItem
  pub next_due : AreDueItems passed (lines_of front) (map due_of same ++ due ∷ [])
  pub other : due_of next ≡ due → ⊥
  pub first_of_both : told ≡ min (line_of next) (line_of_due due)

abbrev pub StopsComparing : List ℕ → ℕ → List LogItem → CatchUpStop → Type 0
StopsComparing part passed items (stop.Changed told) = HasOther part passed items told
StopsComparing part passed items _ = ⊥

-- ---- a feed

-- why no more was read of a feed
abbrev pub StopsReading : {T : Type 0} → (T → ℕ) → Tail T → Tail T → CatchUpStop → Type 0
StopsReading faults before now stop.OutOfMemory = Unit {0}
StopsReading faults before now stop.Fault = HasRisen (faults before.feed) (faults now.feed)
StopsReading faults before now (stop.Changed told) = ⊥

-- What was given of the feed is whole lines, so many, of which the first of the items, so many, answer the due ones, and what is
-- pending behind them.
pub record IsSame (given : Option (List ℕ)) (items : List LogItem) (pending : List ℕ) (lines taken from : ℕ) : Type 0 where
  pub front : List ℕ
  pub whole : AreWhole front
  pub counted : lines ≡ length (lines_of front)
  pub due : AreDueItems 0 (lines_of front) (map due_of (take from items))
  pub is_all : IfSome given (λ bytes. bytes ≡ front ++ pending)
  pub few : from ≤ length items
  pub short : lines + length pending ≤ taken
  pub most : taken ≤ largest_feed

abbrev pub IsCaughtUp : {T : Type 0} → (T → Option (List ℕ)) → ℕ → Watched T → Type 0
IsCaughtUp given from watched =
    IsSame (given watched.tail.feed) watched.log.items watched.tail.pending.items watched.lines watched.tail.taken from
