-- What items enter.
use Rattle.std.specs.Prelude.{ℕ, ◌≡◌, ◌⊎◌, ◌-◌, ◌<◌, ◌≤◌, Bool, true, false, List, [], ◌∷◌, ◌++◌, length, count_by, slice_get, All, Option, Some, None, Result, Ok as Posted, Err as NotPosted}
use Rattle.std.specs.Option.{option_map}
use Rattle.dm_base.specs.declared.limits.TheConstants.{ENTRIES}
use Rattle.dm_rows.specs.declared.messages.Decision.{Decision}
use Rattle.dm_rows.specs.declared.messages.Entry.{Entry}
use Rattle.dm_rows.specs.declared.messages.Message.TheVariants.{Adopt as AdoptAll}
use Rattle.dm_rows.specs.declared.messages.Refusal.{Refusal}
use Rattle.dm_network.specs.Net.{Net}
use Rattle.dm_rows.specs.Carry.{free_among}
use Rattle.dm_rows.specs.Rows.{RowsValue}
use Rattle.dm_rows.specs.declared.messages.At.{At}
use Rattle.dm_rows.specs.declared.messages.Refusal.TheVariants.{OutOfMemory}
use Rattle.dm_rows.specs.History.{rows_at}
use Rattle.dm_rows.specs.Refuse.{Refuses}
use Rattle.dm_feed.specs.Lines.{HasSortedChoice}
use Rattle.dm_feed.specs.declared.grammar.Line.{Line}
use Rattle.dm_feed.specs.declared.grammar.Line.TheVariants.{Say, Adopt, Carry}
use Rattle.dm_tree.specs.declared.adopting.Chosen.{Chosen}
use Rattle.dm_cert.specs.declared.replies.Reply.{Reply}
use Rattle.dm_cert.specs.declared.replies.Reply.TheVariants.{Ok, Planned, Solved}
use Rattle.dm_cert.specs.declared.replies.LogItem.{LogItem}
use Rattle.dm_cert.specs.declared.replies.LogItem.TheVariants.{Malformed, Answered}
use Rattle.dm_cert.specs.Logs.{names}
use Rattle.dm_table.specs.Value.{TableValue}
use Rattle.dm_restore.specs.declared.entries.Named.{Named}
use Rattle.dm_restore.specs.declared.entries.Named.TheVariants.{Entry as OfEntry, Carry as OfCarry}

-- ---- one item

-- the choices of a feed's latest plan
abbrev pub choices_in : Option Chosen → Option (List Decision)
choices_in latest = option_map (λ plan. plan.choices) latest

-- those behind an answer, where before it the feed's latest plan had these
abbrev pub choices_after_reply : Option (List Decision) → Reply → Option (List Decision)
choices_after_reply latest (Planned plan) = Some plan.choices
choices_after_reply latest (Solved plan) = Some plan.choices
choices_after_reply latest _ = latest

abbrev pub choices_after : Option (List Decision) → LogItem → Option (List Decision)
choices_after latest (Malformed line) = latest
choices_after latest (Answered line said reply) = choices_after_reply latest reply

-- what a line of a feed names as entered, where the feed's latest plan has these choices
abbrev pub named_by : ℕ → ℕ → Option (List Decision) → Line → Option Named
named_by feed line latest (Say message) = Some (OfEntry (record { feed = feed; line = line; message = message }))
named_by feed line latest Adopt =
    option_map (λ choices. OfEntry (record { feed = feed; line = line; message = AdoptAll choices })) latest
named_by feed line latest Carry = option_map (λ choices. OfCarry feed line choices) latest
named_by feed line latest _ = None

-- what a line that is answered so names, with its number
abbrev pub entry_of_reply : ℕ → Option (List Decision) → ℕ → Line → Reply → Option (ℕ × Named)
entry_of_reply feed latest line said (Ok number) = option_map (λ named. (number, named)) (named_by feed line latest said)
entry_of_reply feed latest line said _ = None

abbrev pub entry_in : ℕ → Option (List Decision) → LogItem → Option (ℕ × Named)
entry_in feed latest (Malformed line) = None
entry_in feed latest (Answered line said reply) = entry_of_reply feed latest line said reply

-- the entry behind the first so many entries of a history, where this is named: of a carried plan, by the rows after them
abbrev pub entered : Net → RowsValue → List Entry → ℕ → Named → Entry
entered net start history place (OfEntry entry) = entry
entered net start history place (OfCarry feed line choices) =
    record { feed = feed; line = line; message = AdoptAll (free_among net (rows_at net start history place) choices) }

-- ---- places

-- there is an entry at this place
abbrev pub IsAt : List (Option Named) → ℕ → Named → Type 0
IsAt entries place entry = slice_get entries place ≡ Some (Some entry)

abbrev pub HasAt : List (Option Named) → ℕ → Type 0
HasAt entries place = (entry : Named) × IsAt entries place entry

-- the same entries are there, at the same places
pub record KeepsEntries (old new : List (Option Named)) : Type 0 where
  pub kept : (place : ℕ) (entry : Named) → IsAt old place entry → IsAt new place entry
  pub none_else : (place : ℕ) (entry : Named) → IsAt new place entry → IsAt old place entry

-- the entry was put at the place before its number, where that is one of a history; all others are as before
pub record HasPutOne (old new : List (Option Named)) (number : ℕ) (entry : Named) : Type 0 where
  pub here : 0 < number → number ≤ ENTRIES → IsAt new (number - 1) entry
  pub kept : (place : ℕ) → HasAt old place → HasAt new place
  pub none_else : (place : ℕ) (other : Named) → IsAt new place other → IsAt old place other
      ⊎ ((place ≡ number - 1) × (0 < number) × (other ≡ entry))

abbrev pub HasPut : List (Option Named) → List (Option Named) → Option (ℕ × Named) → Type 0
HasPut old new None = new ≡ old
HasPut old new (Some (number, entry)) = HasPutOne old new number entry

-- ---- histories

-- every entry that is there is that of the history
abbrev pub Agrees : Net → RowsValue → List Entry → List (Option Named) → Type 0
Agrees net start history entries =
    (place : ℕ) (named : Named) → IsAt entries place named → slice_get history place ≡ Some (entered net start history place named)

-- the entries that items name were put at their places, and none that are not the history's
pub record Notes (net : Net) (start : RowsValue) (history : List Entry) (items : List LogItem)
    (old new : List (Option Named)) : Type 0 where
  pub agrees : Agrees net start history new
  pub kept : (place : ℕ) → HasAt old place → HasAt new place
  pub all : (number : ℕ) → 0 < number → number ≤ length history → 0 < count_by (names number) items → HasAt new (number - 1)

-- the entries that are there are just those of the history
pub record AreEntries (net : Net) (start : RowsValue) (history : List Entry) (entries : List (Option Named)) : Type 0 where
  pub agrees : Agrees net start history entries
  pub all : (place : ℕ) → place < length history → HasAt entries place

-- ---- choices in their one order

-- of a pair that is named to lock or unlock the smaller id stands first
abbrev pub NamesSorted : Named → Type 0
NamesSorted (OfEntry entry) = HasSortedChoice entry.message
NamesSorted (OfCarry feed line choices) = Unit {0}

abbrev pub AreNamedSorted : List (Option Named) → Type 0
AreNamedSorted entries = (place : ℕ) (named : Named) → IsAt entries place named → NamesSorted named

abbrev pub AreSorted : List Entry → Type 0
AreSorted history = All (λ entry. HasSortedChoice entry.message) history

-- ---- one entry

-- the entry is the last now, or the rows after all entries refuse its message and nothing was entered
abbrev pub EntersOne : TableValue → TableValue → Entry → Bool → Type 0
EntersOne before now entry true = now.history ≡ before.history ++ entry ∷ []
EntersOne before now entry false =
    (now.history ≡ before.history)
    × ((why : Refusal) × Refuses before.network (rows_at before.network before.start before.history (length before.history))
    (length before.history) entry.message why)

-- the same of what is named
abbrev pub EntersAll : TableValue → TableValue → Named → Bool → Type 0
EntersAll before now named result =
    EntersOne before now (entered before.network before.start before.history (length before.history) named) result

-- what is named was entered, or it is refused, if not for want of memory
abbrev pub PostsNamed : TableValue → TableValue → Named → Result ℕ (At Refusal) → Type 0
PostsNamed before now named (Posted n) = EntersAll before now named true
PostsNamed before now named (NotPosted at) =
    (now.history ≡ before.history) × ((at.why ≡ OutOfMemory → ⊥) → EntersAll before now named false)
