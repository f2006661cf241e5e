-- What follows from what lines say and how they are spelled.
use Rattle.std.specs.Prelude.{ℕ, ◌≡◌, ◌↔◌, List, [], ◌∷◌, ◌++◌, All, Option, None, Some}
use Rattle.std.specs.List.{concat}
use Rattle.dm_rows.specs.declared.messages.Message.{Message}
use Rattle.dm_feed.specs.declared.grammar.Line.{Line}
use Rattle.dm_feed.specs.declared.grammar.Heard.{Heard}
use Rattle.dm_feed.specs.declared.grammar.Heard.TheVariants.{Line as Spoken}
use Rattle.dm_feed.specs.Parts.{Fits}
use Rattle.dm_feed.specs.declared.feed.FeedStop.{FeedStop}
use Rattle.dm_feed.specs.DueItems.{DueItem, AreDueItems, lines_of, lines_ahead, lines_of_feed, GivesInTurn, AreFirstOf, StopsNext, EndsWith, item, GivesLines, StopsSo, HasFeed}
use Rattle.dm_feed.specs.Feeds.{ReaderValue, GivesDue}
use Rattle.dm_feed.specs.Joined.{AreWhole, AreItemsOfParts}
use Rattle.dm_feed.specs.Lines.{parts_of_line, IsSpelledLine, Hears, spelling_of_line, IsMessageOf}

-- a line in print is heard as itself, if its numbers are not too large
abbrev pub AreHeardAsPrinted : Type 0
AreHeardAsPrinted = (said : Line) → IsSpelledLine said → All Fits (parts_of_line said) → Hears (spelling_of_line said) (Spoken said)

-- the same bytes are heard in one way
abbrev pub HaveOneMeaning : Type 0
HaveOneMeaning = (bytes : List ℕ) (one other : Heard) → Hears bytes one → Hears bytes other → one ≡ other

-- The lines have these due items, and no others.
pub record HasDueItems (passed : ℕ) (texts : List (List ℕ)) : Type 0 where
  pub items : List DueItem
  pub are : AreDueItems passed texts items
  pub are_all : (other : List DueItem) → AreDueItems passed texts other → items ≡ other

-- any lines have one list of due items
abbrev pub HaveDueItems : Type 0
HaveDueItems = (passed : ℕ) (texts : List (List ℕ)) → HasDueItems passed texts

-- two messages that have one spelling, adopted lists too, are one message
abbrev pub AreOneMessage : Type 0
AreOneMessage = (bytes : List ℕ) (one other : Message) → IsMessageOf one bytes → IsMessageOf other bytes → one ≡ other

-- a new reader of a source that has these bytes left has the lines of the feed ahead
abbrev pub HaveAllAhead : Type 0 → Type 0
HaveAllAhead S = (now : ReaderValue S) (bytes : List ℕ) → now.pending ≡ [] → now.taken ≡ 0 → lines_ahead now bytes ≡ lines_of_feed bytes

-- what a new reader gives call after call are the first due items of its feed
abbrev pub GiveItemsOfFeed : Type 0 → Type 0
GiveItemsOfFeed S =
    (left : S → Option (List ℕ)) (before now : ReaderValue S) (bytes : List ℕ) (items : List DueItem) → before.pending ≡ [] →
    before.taken ≡ 0 → before.lines ≡ 0 → before.stop ≡ None
    → left before.source ≡ Some bytes → GivesInTurn left before items now → AreFirstOf left now bytes items

-- the stop behind them tells whether they are all, and the size of the feed
abbrev pub EndAsStopped : Type 0 → Type 0
EndAsStopped S =
    (left : S → Option (List ℕ)) (now later : ReaderValue S) (bytes : List ℕ) (items : List DueItem) (stop : FeedStop) →
    AreFirstOf left now bytes items → StopsNext left now later stop → EndsWith bytes items stop

-- what is given after other lines is given behind them
abbrev pub GoOnGiving : Type 0 → Type 0
GoOnGiving S =
    (left : S → Option (List ℕ)) (before mid now : ReaderValue S) (items : List DueItem) (line : ℕ) (heard : Heard) →
    GivesLines left before items mid → mid.stop ≡ None → GivesDue left mid now line heard
    → GivesLines left before (items ++ item line heard ∷ []) now

-- Whatever its source tells, what a new reader gives up to its stop are the due items of some bytes, which are those that the
-- source told.
abbrev pub HaveFeeds : Type 0 → Type 0
HaveFeeds S =
    (left : S → Option (List ℕ)) (before now later : ReaderValue S) (items : List DueItem) (stop : FeedStop) →
    before.pending ≡ [] → before.taken ≡ 0 → before.lines ≡ 0
    → before.stop ≡ None → GivesLines left before items now → StopsSo left now later stop → HasFeed left before items stop

-- the due items of parts, each cut behind a line feed, are those of all bytes in one
abbrev pub AreJoined : Type 0
AreJoined =
    (passed : ℕ) (parts : List (List ℕ)) (rest : List ℕ) (items : List DueItem) → All AreWhole parts
    → (AreItemsOfParts passed parts rest items ↔ AreDueItems passed (lines_of (concat parts ++ rest)) items)
