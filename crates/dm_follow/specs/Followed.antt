-- Which history bytes carry at their front, and what they have of a journal's lines.
use Rattle.std.specs.Prelude.{ℕ, ◌≡◌, ◌≤◌, ◌⊎◌, List, [], ◌∷◌, ◌++◌, length, All, Ok, Err}
use Rattle.dm_base.specs.declared.limits.TheConstants.{FEEDS, ENTRIES}
use Rattle.dm_text.specs.Places.{Place, at_start, HasNoLineFeed}
use Rattle.dm_network.specs.Net.{Net}
use Rattle.dm_rows.specs.declared.messages.Entry.{Entry}
use Rattle.dm_rows.specs.Rows.{RowsValue}
use Rattle.dm_rows.specs.History.{IsLegal}
use Rattle.dm_feed.specs.Lines.{HasSortedChoice}
use Rattle.dm_cert.specs.PlanTexts.{IsVersion}
use Rattle.dm_cert.specs.RunTexts.{header_text, entries_text, FitsEntry}
use Rattle.dm_follow.specs.declared.faults.FollowKind.{FollowKind}
use Rattle.dm_follow.specs.declared.faults.Tail.{Tail}
use Rattle.dm_follow.specs.declared.faults.Tail.TheVariants.{Whole, Torn, Failed}
use Rattle.dm_follow.specs.Journals.{TellsJournal, IsFrontFault, unended}

-- the entry came from some line of one of so many feeds, its numbers are ones that types hold, and of a pair to lock or unlock the
-- smaller id stands first
pub record IsEntryOf (feeds : ℕ) (entry : Entry) : Type 0 where
  pub feed : entry.feed ≤ feeds
  pub line : 1 ≤ entry.line
  pub fits : FitsEntry entry
  pub sorted : HasSortedChoice entry.message

-- The lines of these entries stand whole at the front of the bytes, with the header before them, and break no rule: the version
-- is one that there is, the penalty is this one, there are 1 to 64 feeds and at most 1,000,000 entries, these are no more, each
-- came from some line of one of the feeds, and none is refused by the rows after those before it.
pub record StandsIn (net : Net) (start : RowsValue) (penalty : ℕ) (bytes : List ℕ) (history : List Entry) : Type 0 where
  pub version : ℕ
  pub feeds : ℕ
  pub entries : ℕ
  pub rest : List ℕ
  pub is_version : IsVersion version
  pub some_feed : 1 ≤ feeds
  pub few_feeds : feeds ≤ FEEDS
  pub few_entries : entries ≤ ENTRIES
  pub within : length history ≤ entries
  pub each : All (IsEntryOf feeds) history
  pub legal : IsLegal net start history
  pub front : bytes ≡ header_text version penalty feeds entries ++ (entries_text 1 history ++ rest)

-- bytes carry a history that stands at their front, and none where no header does
abbrev pub Carries : Net → RowsValue → ℕ → List ℕ → List Entry → Type 0
Carries net start penalty bytes history = (history ≡ []) ⊎ StandsIn net start penalty bytes history

-- the longest history that the bytes carry
pub record IsFollowed (net : Net) (start : RowsValue) (penalty : ℕ) (bytes : List ℕ) (history : List Entry) : Type 0 where
  pub carried : Carries net start penalty bytes history
  pub longest : (other : List Entry) → Carries net start penalty bytes other → length other ≤ length history

-- ---- tails

-- what stands behind the last LF
pub record IsLastPart (bytes part : List ℕ) : Type 0 where
  pub before : List ℕ
  pub is : bytes ≡ before ++ part
  pub begins : (before ≡ []) ⊎ ((front : List ℕ) × (before ≡ front ++ 10 ∷ []))
  pub one_line : HasNoLineFeed part

-- all entries that the header tells stand there
pub record IsWhole (net : Net) (start : RowsValue) (penalty : ℕ) (bytes : List ℕ) : Type 0 where
  pub history : List Entry
  pub behind : Place
  pub told : TellsJournal net start penalty (at_start bytes) (Ok (history, behind))

-- this line is the first of the journal that is not whole, none before it breaks its rule, and so many bytes of it stand there
pub record IsTorn (net : Net) (start : RowsValue) (penalty : ℕ) (bytes : List ℕ) (line count : ℕ) : Type 0 where
  pub told : TellsJournal net start penalty (at_start bytes) (Err (unended line))
  pub part : List ℕ
  pub last : IsLastPart bytes part
  pub count_is : count ≡ length part

-- this line breaks its rule
pub record IsFailed (net : Net) (start : RowsValue) (penalty : ℕ) (bytes : List ℕ) (line : ℕ) : Type 0 where
  pub kind : FollowKind
  pub fault : IsFrontFault net start penalty bytes kind line

abbrev pub IsTail : Net → RowsValue → ℕ → List ℕ → Tail → Type 0
IsTail net start penalty bytes Whole = IsWhole net start penalty bytes
IsTail net start penalty bytes (Torn line count) = IsTorn net start penalty bytes line count
IsTail net start penalty bytes (Failed line) = IsFailed net start penalty bytes line
