-- The lines of a journal at the front of a run's text, in either version, and what is told of them: the entries, or the first line
-- that is not whole with its LF, or the first that breaks its rule.
use Rattle.std.specs.Prelude.{ℕ, ◌≡◌, ◌+◌, ◌≤◌, List, [], length, codes, Result, Err}
use Rattle.dm_base.specs.declared.limits.TheConstants.{FEEDS, ENTRIES}
use Rattle.dm_text.specs.Places.{Place, at_start}
use Rattle.dm_text.specs.Judging.{Line, Then, Times, Demands}
use Rattle.dm_network.specs.Net.{Net}
use Rattle.dm_rows.specs.declared.messages.Entry.{Entry}
use Rattle.dm_rows.specs.declared.messages.Refusal.{Refusal}
use Rattle.dm_rows.specs.Rows.{RowsValue}
use Rattle.dm_rows.specs.Refuse.{Refuses}
use Rattle.dm_rows.specs.History.{rows_at}
use Rattle.dm_records.specs.RunLines.{Numbered, IsNumberLine, IsVersionLine, IsEntryLine}
use Rattle.dm_follow.specs.declared.faults.FollowKind.{FollowKind}
use Rattle.dm_follow.specs.declared.faults.FollowKind.TheVariants.{Form, Entry as BadEntry}

-- why the reading of a journal's lines stops before the last entry: the line of this number is not whole, or it breaks its rule
pub data Halt : Type 0 where
  unended : ℕ → Halt
  broken : FollowKind → ℕ → Halt

-- the next line, which is not whole, or has not the form of one of these
abbrev pub Reads : {V : Type 0} → (V → List ℕ → Type 0) → Place → Result (V × Place) Halt → Type 0
Reads spells = Line unended (broken Form) spells

-- The next line, and a rule for what it says. Where the rule is broken the line is broken in this kind.
abbrev pub Rules : {V W : Type 0} → (V → List ℕ → Type 0) → (V → Type 0) → FollowKind → (V → W) → Place → Result (W × Place) Halt → Type 0
Rules spells rule k gives place = Then (Reads spells) (λ v. Demands (rule v) (broken k place.line) (gives v)) place

-- ---- the header

-- how many feeds and entries a header tells
pub record Header : Type 0 where
  pub feeds : ℕ
  pub entries : ℕ

abbrev pub header : ℕ → ℕ → Header
header feeds entries = record { feeds = feeds; entries = entries }

abbrev pub TellsEntries : ℕ → Place → Result (Header × Place) Halt → Type 0
TellsEntries feeds = Rules (IsNumberLine (codes "entries ")) (λ n. n ≤ ENTRIES) Form (header feeds)

abbrev pub TellsFeeds : Place → Result (Header × Place) Halt → Type 0
TellsFeeds = Then (Rules (IsNumberLine (codes "feeds ")) (λ n. (1 ≤ n) × (n ≤ FEEDS)) Form (λ n. n)) TellsEntries

abbrev pub TellsPenalty : ℕ → Place → Result (Header × Place) Halt → Type 0
TellsPenalty penalty = Then (Rules (IsNumberLine (codes "penalty ")) (λ n. n ≡ penalty) Form (λ n. n)) (λ same. TellsFeeds)

-- the version, the penalty, which is this one, 1 to 64 feeds, and at most 1,000,000 entries
abbrev pub TellsHeader : ℕ → Place → Result (Header × Place) Halt → Type 0
TellsHeader penalty = Then (Reads IsVersionLine) (λ version. TellsPenalty penalty)

-- ---- entries

-- The next entry in turn: its number, a feed that there is, some line, and a message that nothing refuses in the rows after
-- the entries before it.
pub record IsNextEntry (net : Net) (start : RowsValue) (feeds : ℕ) (before : List Entry) (said : Numbered) : Type 0 where
  pub number : said.number ≡ length before + 1
  pub feed : said.entry.feed ≤ feeds
  pub line : 1 ≤ said.entry.line
  pub accepted : (r : Refusal) → Refuses net (rows_at net start before (length before)) (length before) said.entry.message r → ⊥

abbrev pub TellsEntry : Net → RowsValue → ℕ → List Entry → Place → Result (Entry × Place) Halt → Type 0
TellsEntry net start feeds before = Rules IsEntryLine (IsNextEntry net start feeds before) BadEntry (λ said. said.entry)

-- ---- the whole journal

abbrev pub TellsJournal : Net → RowsValue → ℕ → Place → Result (List Entry × Place) Halt → Type 0
TellsJournal net start penalty = Then (TellsHeader penalty) (λ h. Times h.entries (TellsEntry net start h.feeds) [])

-- the first line of the journal in these bytes that stands whole and breaks its rule, and the kind of that
abbrev pub IsFrontFault : Net → RowsValue → ℕ → List ℕ → FollowKind → ℕ → Type 0
IsFrontFault net start penalty bytes kind line = TellsJournal net start penalty (at_start bytes) (Err (broken kind line))

-- no line of the journal that stands whole breaks its rule
abbrev pub HasNoFrontFault : Net → RowsValue → ℕ → List ℕ → Type 0
HasNoFrontFault net start penalty bytes = (kind : FollowKind) (line : ℕ) → IsFrontFault net start penalty bytes kind line → ⊥
