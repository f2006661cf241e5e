-- What the journal at the front of a text carries, and why that is not known.
use Rattle.std.specs.Prelude.{ℕ, ◌≡◌, ◌≤◌, List, length, Result, Ok, Err}
use Rattle.dm_base.specs.declared.limits.TheConstants.{TEXT}
use Rattle.dm_outside.specs.declared.faults.TakeFault.{TakeFault}
use Rattle.dm_outside.specs.declared.faults.TakeFault.TheVariants.{ReadFault as NotRead, TooLong as TooMany, OutOfMemory}
use Rattle.dm_text.specs.Places.{at_start}
use Rattle.dm_network.specs.Net.{Net}
use Rattle.dm_rows.specs.Rows.{RowsValue}
use Rattle.dm_follow.specs.declared.faults.FollowKind.{FollowKind}
use Rattle.dm_follow.specs.declared.faults.FollowKind.TheVariants as kind
use Rattle.dm_follow.specs.Journals.{TellsJournal, IsFrontFault, HasNoFrontFault, unended}
use Rattle.dm_follow.specs.Followed.{IsWhole}
use Rattle.dm_follow.specs.Follower.{FollowerValue, Follows}
use Rattle.dm_input.specs.Input.{Told, IsHeld}
use Rattle.dm_input.specs.Stops.{IsLong}
use Rattle.dm_journal.specs.declared.giving.BrokenLine.{BrokenLine}
use Rattle.dm_journal.specs.declared.giving.BrokenRule.{BrokenRule}
use Rattle.dm_journal.specs.declared.giving.BrokenRule.TheVariants.{Form, Entry}
use Rattle.dm_journal.specs.declared.giving.Journal.{Journal}
use Rattle.dm_journal.specs.declared.giving.Journal.TheVariants.{Whole, Torn, Broken}

-- the follower is of this day and has taken these bytes, of which no line breaks its rule
pub record IsFollowerOf (net : Net) (rows : RowsValue) (penalty : ℕ) (bytes : List ℕ) (f : FollowerValue) : Type 0 where
  pub network : f.table.network ≡ net
  pub start : f.table.start ≡ rows
  pub penalty_is : f.table.penalty ≡ penalty
  pub follows : Follows f bytes
  pub no_fault : HasNoFrontFault net rows penalty bytes

-- the rule, as a follower names it
abbrev pub follow_kind : BrokenRule → FollowKind
follow_kind Form = kind.Form
follow_kind Entry = kind.Entry

-- this line of the bytes is the first that breaks its rule
abbrev pub IsBrokenAt : Net → RowsValue → ℕ → List ℕ → BrokenLine → Type 0
IsBrokenAt net rows penalty bytes broken = IsFrontFault net rows penalty bytes (follow_kind broken.rule) broken.line

-- this line is the first of the journal that is not whole, and none before it breaks its rule
abbrev pub IsTornAt : Net → RowsValue → ℕ → List ℕ → ℕ → Type 0
IsTornAt net rows penalty bytes line = TellsJournal net rows penalty (at_start bytes) (Err (unended line))

abbrev pub IsJournal : Net → RowsValue → ℕ → List ℕ → Journal → Type 0
IsJournal net rows penalty bytes (Whole f) = IsFollowerOf net rows penalty bytes f × IsWhole net rows penalty bytes
IsJournal net rows penalty bytes (Torn line f) = IsFollowerOf net rows penalty bytes f × IsTornAt net rows penalty bytes line
IsJournal net rows penalty bytes (Broken broken) = IsBrokenAt net rows penalty bytes broken

-- the bytes under a name are short, and this is what their journal carries
pub record IsJournalOf (told : Told) (name : List ℕ) (net : Net) (rows : RowsValue) (penalty : ℕ) (journal : Journal) : Type 0 where
  pub bytes : List ℕ
  pub held : IsHeld told name bytes
  pub short : length bytes ≤ TEXT
  pub is_journal : IsJournal net rows penalty bytes journal

-- what reading the text of a name gives
abbrev pub ReadsJournal : Told → (List ℕ → Type 0) → List ℕ → Net → RowsValue → ℕ → Result Journal TakeFault → Type 0
ReadsJournal told is_sound name net rows penalty (Ok journal) = IsJournalOf told name net rows penalty journal
ReadsJournal told is_sound name net rows penalty (Err NotRead) = is_sound name → ⊥
ReadsJournal told is_sound name net rows penalty (Err TooMany) = IsLong told name TEXT
ReadsJournal told is_sound name net rows penalty (Err OutOfMemory) = Unit {0}
