-- How far the lines of a journal were read.
use Rattle.std.specs.Prelude.{ℕ, ◌≡◌, ◌+◌, ◌≤◌, ◌<◌, Bool, true, false, List, [], ◌∷◌, ◌++◌, length, Result, Ok, Err, Option, Some, None}
use Rattle.dm_text.specs.Places.{Place, at_start, IsLineAt}
use Rattle.dm_text.specs.Judging.{Times, Gives}
use Rattle.dm_network.specs.Net.{Net}
use Rattle.dm_rows.specs.declared.messages.Entry.{Entry}
use Rattle.dm_rows.specs.declared.messages.Refusal.{Refusal}
use Rattle.dm_rows.specs.declared.messages.Refusal.TheVariants as refusal
use Rattle.dm_rows.specs.Rows.{RowsValue}
use Rattle.dm_rows.specs.Refuse.{Refuses}
use Rattle.dm_rows.specs.History.{rows_at}
use Rattle.dm_records.specs.RunLines.{Numbered}
use Rattle.dm_table.specs.Value.{TableValue}
use Rattle.dm_follow.specs.declared.faults.FollowKind.{FollowKind}
use Rattle.dm_follow.specs.declared.faults.FollowKind.TheVariants as kind
use Rattle.dm_follow.specs.declared.stages.Stage.{Stage}
use Rattle.dm_follow.specs.declared.stages.Stage.TheVariants.{Version, Penalty, Feeds, Entries, Journal, Failed}
use Rattle.dm_follow.specs.Journals.{Halt, broken, Header, header, TellsHeader, TellsPenalty, TellsFeeds, TellsEntries, IsNextEntry, TellsEntry, IsFrontFault}
use Rattle.dm_follow.specs.Followed.{IsFollowed, IsLastPart}

-- ---- the header

-- what is told of the lines of the header that are left
abbrev pub HeaderFrom : ℕ → Stage → Place → Result (Header × Place) Halt → Type 0
HeaderFrom penalty Version = TellsHeader penalty
HeaderFrom penalty Penalty = TellsPenalty penalty
HeaderFrom penalty Feeds = TellsFeeds
HeaderFrom penalty (Entries feeds) = TellsEntries feeds
HeaderFrom penalty (Journal feeds entries) = Gives (header feeds entries)
HeaderFrom penalty (Failed line k) = λ place answer. ⊥

-- the number of a line of the header
abbrev pub header_line : Stage → ℕ
header_line Version = 1
header_line Penalty = 2
header_line Feeds = 3
header_line (Entries feeds) = 4
header_line (Journal feeds entries) = 5
header_line (Failed line k) = 0

-- some line of the header comes next
abbrev pub IsInHeader : Stage → Type 0
IsInHeader Version = Unit {0}
IsInHeader Penalty = Unit {0}
IsInHeader Feeds = Unit {0}
IsInHeader (Entries feeds) = Unit {0}
IsInHeader (Journal feeds entries) = ⊥
IsInHeader (Failed line k) = ⊥

-- behind this line of the header comes that stage, or the line breaks its rule
abbrev pub StepsHeader : ℕ → Stage → List ℕ → Option Stage → Type 0
StepsHeader penalty stage line (Some next) =
    (header_line next ≡ header_line stage + 1)
    × ((place behind : Place) (answer : Result (Header × Place) Halt) → IsLineAt place line behind →
    HeaderFrom penalty next behind answer → HeaderFrom penalty stage place answer)
StepsHeader penalty stage line None =
    (place behind : Place) → IsLineAt place line behind → HeaderFrom penalty stage place (Err (broken kind.Form place.line))

-- ---- bytes

-- Lines of the header were read, and no entry: the history is empty, and what is told of the lines that are left, whatever comes
-- behind the bytes, is told of the whole header.
pub record IsAtHeader (net : Net) (start : RowsValue) (penalty : ℕ) (stage : Stage) (history : List Entry)
    (part bytes : List ℕ) : Type 0 where
  pub none : history ≡ []
  pub last : IsLastPart bytes part
  pub on : (more : List ℕ) (answer : Result (Header × Place) Halt) →
      HeaderFrom penalty stage (record { left = part ++ more; line = header_line stage }) answer →
      TellsHeader penalty (at_start (bytes ++ more)) answer

-- the header stands at the front of the text, and behind it these entries, up to this place
pub record HasEntered (net : Net) (start : RowsValue) (penalty feeds entries : ℕ) (history : List Entry) (text : List ℕ)
    (here : Place) : Type 0 where
  pub behind : Place
  pub told_header : TellsHeader penalty (at_start text) (Ok (header feeds entries, behind))
  pub told : Times {F = Halt} (length history) (TellsEntry net start feeds) [] behind (Ok (history, here))

-- the place behind so many entries
abbrev pub behind_entries : ℕ → List ℕ → Place
behind_entries n left = record { left = left; line = n + 5 }

-- The header and these entries were read. Where there are more to come, what stands behind them is the part of the next line.
pub record IsAtEntry (net : Net) (start : RowsValue) (penalty feeds entries : ℕ) (history : List Entry) (part bytes : List ℕ) : Type 0 where
  pub within : length history ≤ entries
  pub rest : List ℕ
  pub on : (more : List ℕ) → HasEntered net start penalty feeds entries history (bytes ++ more)
      (behind_entries (length history) (rest ++ more))
  pub due : length history < entries → rest ≡ part
  pub last : length history < entries → IsLastPart bytes part

-- a kind of lines
abbrev pub IsRuleKind : FollowKind → Type 0
IsRuleKind kind.Form = Unit {0}
IsRuleKind kind.Entry = Unit {0}
IsRuleKind kind.OutOfMemory = ⊥

-- a line breaks its rule, and the history is that of the bytes
pub record HasFailed (net : Net) (start : RowsValue) (penalty : ℕ) (history : List Entry) (bytes : List ℕ) (line : ℕ)
    (k : FollowKind) : Type 0 where
  pub followed : IsFollowed net start penalty bytes history
  pub of_rule : IsRuleKind k
  pub fault : IsFrontFault net start penalty bytes k line

-- so far the bytes were read, where this is the part of the line that is not whole yet
abbrev pub IsReadTo : Net → RowsValue → ℕ → List Entry → Stage → List ℕ → List ℕ → Type 0
IsReadTo net start penalty history Version part bytes = IsAtHeader net start penalty Version history part bytes
IsReadTo net start penalty history Penalty part bytes = IsAtHeader net start penalty Penalty history part bytes
IsReadTo net start penalty history Feeds part bytes = IsAtHeader net start penalty Feeds history part bytes
IsReadTo net start penalty history (Entries feeds) part bytes = IsAtHeader net start penalty (Entries feeds) history part bytes
IsReadTo net start penalty history (Journal feeds entries) part bytes = IsAtEntry net start penalty feeds entries history part bytes
IsReadTo net start penalty history (Failed line k) part bytes = HasFailed net start penalty history bytes line k

-- the network, the rows at the start and the penalty are as before
pub record SameDay (old new : TableValue) : Type 0 where
  pub network : new.network ≡ old.network
  pub start : new.start ≡ old.start
  pub penalty : new.penalty ≡ old.penalty

-- the same, and no entry more
pub record KeepsEntries (old new : TableValue) : Type 0 where
  pub day : SameDay old new
  pub history : new.history ≡ old.history

-- the number is the next, the feed is one of so many, and the line is one
pub record IsInTurn (feeds entered : ℕ) (said : Numbered) : Type 0 where
  pub number : said.number ≡ entered + 1
  pub feed : said.entry.feed ≤ feeds
  pub line : 1 ≤ said.entry.line

-- the entry is entered where nothing refuses it, and where something does none is
pub record PostsEntry (old new : TableValue) (entry : Entry) : Type 0 where
  pub day : SameDay old new
  pub accepted : (r : Refusal) → Refuses old.network (rows_at old.network old.start old.history (length old.history))
      (length old.history) entry.message r → ⊥
  pub history : new.history ≡ old.history ++ entry ∷ []

pub record PostsNone (old new : TableValue) (entry : Entry) : Type 0 where
  pub keeps : KeepsEntries old new
  pub refusal : Refusal
  pub refused : Refuses old.network (rows_at old.network old.start old.history (length old.history))
      (length old.history) entry.message refusal

abbrev pub Posts : TableValue → TableValue → Entry → Bool → Type 0
Posts old new entry true = PostsEntry old new entry
Posts old new entry false = PostsNone old new entry

-- a refusal for a cause
abbrev pub HasCause : Refusal → Type 0
HasCause refusal.OutOfMemory = ⊥
HasCause _ = Unit {0}

-- what is answered where a message was posted: whether it was entered, or that memory is short
abbrev pub AnswersPost : {E : Type 0} → Result ℕ Refusal → Result Bool E → Type 0
AnswersPost (Ok n) answer = answer ≡ Ok true
AnswersPost (Err r) (Ok is_next) = (is_next ≡ false) × HasCause r
AnswersPost (Err r) (Err short) = Unit {0}

-- the entry that the line says is entered where it is the next, and where it is not none is
pub record EntersNext (old new : TableValue) (feeds : ℕ) (said : Numbered) : Type 0 where
  pub day : SameDay old new
  pub is_next : IsNextEntry old.network old.start feeds old.history said
  pub history : new.history ≡ old.history ++ said.entry ∷ []

pub record EntersNone (old new : TableValue) (feeds : ℕ) (said : Numbered) : Type 0 where
  pub keeps : KeepsEntries old new
  pub no_next : IsNextEntry old.network old.start feeds old.history said → ⊥

abbrev pub Enters : TableValue → TableValue → ℕ → Numbered → Bool → Type 0
Enters old new feeds said true = EntersNext old new feeds said
Enters old new feeds said false = EntersNone old new feeds said

-- the line was read, and behind it comes this stage
pub record Advances (old new : TableValue) (stage : Stage) (line : List ℕ) (next : Stage) : Type 0 where
  pub day : SameDay old new
  pub reads : (bytes : List ℕ) → IsReadTo old.network old.start old.penalty old.history stage line bytes →
      IsReadTo old.network old.start old.penalty new.history next [] (bytes ++ 10 ∷ [])

-- the same of a line of the header, whatever the network and the rows at the start
abbrev pub AdvancesHeader : ℕ → Stage → List ℕ → Stage → Type 0
AdvancesHeader penalty stage line next =
    (net : Net) (start : RowsValue) (history : List Entry) (bytes : List ℕ) → IsReadTo net start penalty history stage line bytes →
    IsReadTo net start penalty history next [] (bytes ++ 10 ∷ [])

-- what comes behind the line of an entry, behind so many, by whether it was the next
abbrev pub stage_after : ℕ → ℕ → ℕ → Bool → Stage
stage_after feeds entries entered true = Journal feeds entries
stage_after feeds entries entered false = Failed (entered + 5) kind.Entry
