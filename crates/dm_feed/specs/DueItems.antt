-- The due items of a feed: the lines that are neither blank nor comments, in order, each with its number and meaning.
use Rattle.std.specs.Prelude.{ℕ, ◌≡◌, ◌+◌, ◌-◌, ◌<◌, ◌≤◌, ◌==◌, ◌⊎◌, nat_le, if◌then◌else◌, List, [], ◌∷◌, ◌++◌, length, take, Option, None, Some, IfSome}
use Rattle.std.specs.List.{slice_split}
use Rattle.dm_base.specs.declared.limits.TheConstants.{FEED}
use Rattle.dm_feed.specs.declared.grammar.Heard.{Heard}
use Rattle.dm_feed.specs.declared.feed.FeedStop.{FeedStop}
use Rattle.dm_feed.specs.declared.feed.FeedStop.TheVariants.{End, Fault, Long}
use Rattle.dm_feed.specs.declared.feed.Next.{Next}
use Rattle.dm_feed.specs.declared.feed.Next.TheVariants.{Due, Stop}
use Rattle.dm_feed.specs.Lines.{IsQuiet, Hears}
use Rattle.dm_feed.specs.Feeds.{without_return, ReaderValue, GivesDue, ReachesEnd, IsTooLong}

-- ---- the lines of bytes

-- what stands between line feeds
abbrev pub pieces_of : List ℕ → List (List ℕ)
pieces_of bytes = slice_split (λ b. b == 10) bytes

-- bytes behind the last line feed are a line where there are any
abbrev pub last_line : List ℕ → List (List ℕ)
last_line [] = []
last_line (c ∷ cs) = (c ∷ cs) ∷ []

-- of the pieces, each but the last ends with a line feed; a carriage return before it belongs to the line's end
abbrev pub lines_among : List (List ℕ) → List (List ℕ)
lines_among [] = []
lines_among (last ∷ []) = last_line last
lines_among (piece ∷ next ∷ pieces) = without_return piece ∷ lines_among (next ∷ pieces)

abbrev pub ended_among : List (List ℕ) → List (List ℕ)
ended_among [] = []
ended_among (last ∷ []) = []
ended_among (piece ∷ next ∷ pieces) = without_return piece ∷ ended_among (next ∷ pieces)

-- the lines of the bytes
abbrev pub lines_of : List ℕ → List (List ℕ)
lines_of bytes = lines_among (pieces_of bytes)

-- the lines of the bytes that end with a line feed
abbrev pub ended_lines_of : List ℕ → List (List ℕ)
ended_lines_of bytes = ended_among (pieces_of bytes)

-- all lines, where the bytes are not more than the limit; otherwise those that end within it
abbrev pub lines_within : ℕ → List ℕ → List (List ℕ)
lines_within limit bytes = if nat_le (length bytes) limit then lines_of bytes else ended_lines_of (take limit bytes)

-- the lines of a feed: where it has too many bytes, those that end within the limit
abbrev pub lines_of_feed : List ℕ → List (List ℕ)
lines_of_feed bytes = lines_within FEED bytes

-- ---- due items

-- a line's number, and what is heard in it
pub data DueItem : Type 0 where
  item : ℕ → Heard → DueItem

-- The due items of lines, before which so many lines were passed.
abbrev pub AreDueItems : ℕ → List (List ℕ) → List DueItem → Type 0
AreDueItems passed [] [] = Unit {0}
AreDueItems passed [] (due ∷ items) = ⊥
AreDueItems passed (text ∷ texts) [] = IsQuiet text × AreDueItems (passed + 1) texts []
AreDueItems passed (text ∷ texts) (item line heard ∷ items) =
    (IsQuiet text × AreDueItems (passed + 1) texts (item line heard ∷ items))
    ⊎ ((IsQuiet text → ⊥) × Hears text heard × (line ≡ passed + 1) × AreDueItems (passed + 1) texts items)

-- the due items of a whole feed
abbrev pub AreItemsOf : List ℕ → List DueItem → Type 0
AreItemsOf bytes items = AreDueItems 0 (lines_of_feed bytes) items

-- ---- what a reader has ahead

-- The lines that it still answers for, where this is left in the source: those of the bytes that were not yet
-- answered, up to the feed's limit.
abbrev pub lines_ahead : {S : Type 0} → ReaderValue S → List ℕ → List (List ℕ)
lines_ahead now rest = lines_within (FEED - now.taken + length now.pending) (now.pending ++ rest)

-- The first due item is given, or where there is none the stop by the size of the feed.
abbrev pub answer_of : List DueItem → ℕ → Next
answer_of [] size = Stop (if nat_le size FEED then End else Long)
answer_of (item line heard ∷ items) size = Due line heard

-- The first due item that is ahead was given, and the others are ahead then. Where the reader has stopped besides, it
-- gave the last line of a feed that is not too long.
pub record GivesFirst {S : Type 0} (left : S → Option (List ℕ)) (before now : ReaderValue S) (rest : List ℕ) (line : ℕ)
    (heard : Heard) : Type 0 where
  pub others : List DueItem
  pub ahead : AreDueItems before.lines (lines_ahead before rest) (item line heard ∷ others)
  pub behind : List ℕ
  pub is_left : left now.source ≡ Some behind
  pub same_size : now.taken + length behind ≡ before.taken + length rest
  pub then_ahead : AreDueItems now.lines (lines_ahead now behind) others
  pub goes_on : (now.stop ≡ None) ⊎ ((now.stop ≡ Some End) × (others ≡ []) × (before.taken + length rest ≤ FEED))

-- no due item is ahead
abbrev pub NoneAhead : {S : Type 0} → ReaderValue S → List ℕ → Type 0
NoneAhead before rest = AreDueItems before.lines (lines_ahead before rest) []

-- What a reader answers that has not stopped, where this is left in the source.
abbrev pub AnswersInOrder : {S : Type 0} → (S → Option (List ℕ)) → ReaderValue S → ReaderValue S → List ℕ → Next → Type 0
AnswersInOrder left before now rest (Due line heard) = GivesFirst left before now rest line heard
AnswersInOrder left before now rest (Stop End) = NoneAhead before rest × (before.taken + length rest ≤ FEED)
AnswersInOrder left before now rest (Stop Long) = NoneAhead before rest × (FEED < before.taken + length rest)
AnswersInOrder left before now rest (Stop Fault) = Unit {0}

-- Its answer is the one that the due items ahead determine.
abbrev pub IsDetermined : {S : Type 0} → ReaderValue S → List ℕ → Next → Type 0
IsDetermined before rest next =
    (items : List DueItem) → AreDueItems before.lines (lines_ahead before rest) items → next ≡ answer_of items (before.taken + length rest)

-- ---- call after call

-- These due items were given, a call after another.
abbrev pub GivesInTurn : {S : Type 0} → (S → Option (List ℕ)) → ReaderValue S → List DueItem → ReaderValue S → Type 0
GivesInTurn left before [] now = before ≡ now
GivesInTurn left before (item line heard ∷ items) now =
    (mid : ReaderValue _) × IfSome (left before.source) (λ rest. GivesFirst left before mid rest line heard)
    × GivesInTurn left mid items now

-- The items that were given are the first of the feed's due items, and the others are ahead.
pub record AreFirstOf {S : Type 0} (left : S → Option (List ℕ)) (now : ReaderValue S) (bytes : List ℕ) (items : List DueItem) : Type 0 where
  pub others : List DueItem
  pub are_items : AreItemsOf bytes (items ++ others)
  pub behind : List ℕ
  pub is_left : left now.source ≡ Some behind
  pub same_size : now.taken + length behind ≡ length bytes
  pub ahead : AreDueItems now.lines (lines_ahead now behind) others
  pub goes_on : (now.stop ≡ None) ⊎ ((now.stop ≡ Some End) × (others ≡ []) × (length bytes ≤ FEED))

-- A call that gives a stop answers so: in order, where the reader has not stopped, and otherwise its stop again.
pub record StopsNext {S : Type 0} (left : S → Option (List ℕ)) (before now : ReaderValue S) (stop : FeedStop) : Type 0 where
  pub in_order : before.stop ≡ None → IfSome (left before.source) (λ rest. AnswersInOrder left before now rest (Stop stop))
  pub again : IfSome before.stop (λ first. Stop stop ≡ Stop first)

-- At the end the items are all the feed's due items; it has too many bytes exactly where the stop says so. After a
-- failed read they are the first ones.
abbrev pub EndsWith : List ℕ → List DueItem → FeedStop → Type 0
EndsWith bytes items End = AreItemsOf bytes items × (length bytes ≤ FEED)
EndsWith bytes items Long = AreItemsOf bytes items × (FEED < length bytes)
EndsWith bytes items Fault = (others : List DueItem) × AreItemsOf bytes (items ++ others)

-- ---- whatever the source tells

-- These due lines were given, a call after another, whether the source tells what is left or not.
abbrev pub GivesLines : {S : Type 0} → (S → Option (List ℕ)) → ReaderValue S → List DueItem → ReaderValue S → Type 0
GivesLines left before [] now = before ≡ now
GivesLines left before (item line heard ∷ items) now =
    (mid : ReaderValue _) × (before.stop ≡ None) × GivesDue left before mid line heard × GivesLines left mid items now

-- What a call has seen that gives a stop first: the end, or one byte above the limit. A failed read shows nothing of the feed.
abbrev pub SeesStop : {S : Type 0} → (S → Option (List ℕ)) → ReaderValue S → ReaderValue S → FeedStop → Type 0
SeesStop left before now End = ReachesEnd left before now
SeesStop left before now Long = IsTooLong left before now
SeesStop left before now Fault = Unit {0}

-- A call that gives a stop, first or again.
pub record StopsSo {S : Type 0} (left : S → Option (List ℕ)) (before now : ReaderValue S) (stop : FeedStop) : Type 0 where
  pub sees : before.stop ≡ None → SeesStop left before now stop
  pub again : IfSome before.stop (λ first. Stop stop ≡ Stop first)

-- There are bytes of which these are the due items, up to the stop: those that the source told, where it told any.
pub record HasFeed {S : Type 0} (left : S → Option (List ℕ)) (before : ReaderValue S) (items : List DueItem)
    (stop : FeedStop) : Type 0 where
  pub bytes : List ℕ
  pub told : IfSome (left before.source) (λ rest. rest ≡ bytes)
  pub ends : EndsWith bytes items stop
