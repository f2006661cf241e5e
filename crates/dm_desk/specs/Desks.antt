-- What contracts see of a desk, and what its calls do.
use Rattle.std.specs.Prelude.{ℕ, ◌≡◌, ◌+◌, ◌-◌, ◌<◌, ◌≤◌, ◌⊎◌, ◌++◌, ◌∷◌, [], List, length, Result, Ok, Err}
use mathlib.Core.List.{IsPrefix}
use Rattle.dm_base.specs.declared.limits.TheConstants.{ENTRIES}
use Rattle.dm_base.specs.declared.ids.EventId.{EventId}
use Rattle.dm_rows.specs.declared.messages.Entry.{Entry}
use Rattle.dm_rows.specs.declared.messages.At.{At}
use Rattle.dm_rows.specs.declared.messages.Message.TheVariants.{Adopt}
use Rattle.dm_rows.specs.declared.rows.Snapshot.{Snapshot}
use Rattle.dm_rows.specs.declared.messages.Refusal.{Refusal}
use Rattle.dm_rows.specs.declared.messages.Refusal.TheVariants.{OutOfMemory}
use Rattle.dm_rows.specs.Active.{HasNoCycle}
use Rattle.dm_rows.specs.History.{IsLegal}
use Rattle.dm_rows.specs.Rows.{IsSized}
use Rattle.dm_rows.specs.declared.messages.Decision.{Decision}
use Rattle.dm_tree.specs.declared.adopting.AdoptRefusal.{AdoptRefusal}
use Rattle.dm_tree.specs.declared.adopting.AdoptRefusal.TheVariants.{Old, Full, OutOfMemory as NoMemory}
use Rattle.dm_tree.specs.declared.adopting.Chosen.{Chosen}
use Rattle.dm_tree.specs.Plans.{MayBeAdopted}
use Rattle.dm_cert.specs.Answers.{Setting, rows_after, carried, IsEntry, IsRefused, IsTimeAt, IsUnknownAt, IsCostAt}

-- what answers go by besides the entries, the entries that were seen, and the numbers of those that were entered here
pub record DeskValue : Type 0 where
  pub setting : Setting
  pub seen : List Entry
  pub mine : List ℕ

-- the same setting, over a legal history that begins with the one seen before
pub record GoesOn (before now : DeskValue) : Type 0 where
  pub setting : now.setting ≡ before.setting
  pub later : IsPrefix before.seen now.seen
  pub legal : IsLegal now.setting.net now.setting.start now.seen

-- nothing was entered here
pub record Looks (before now : DeskValue) : Type 0 where
  pub goes_on : GoesOn before now
  pub mine : now.mine ≡ before.mine

-- the entry was entered here, behind all that is seen before it, as the last
pub record Enters (before now : DeskValue) (entry : Entry) (n : ℕ) : Type 0 where
  pub goes_on : GoesOn before now
  pub number : n ≡ length now.seen
  pub above : length before.seen < n
  pub entered : IsEntry now.seen n entry
  pub mine : now.mine ≡ before.mine ++ n ∷ []

-- the message is refused at the history that is seen, or there was no memory
pub record RefusesEntry (before now : DeskValue) (entry : Entry) (at : At Refusal) : Type 0 where
  pub looks : Looks before now
  pub here : at.entry ≡ length now.seen
  pub why : (at.why ≡ OutOfMemory) ⊎ IsRefused now.setting now.seen at.entry entry.message at.why

abbrev pub Posts : DeskValue → DeskValue → Entry → Result ℕ (At Refusal) → Type 0
Posts before now entry (Ok n) = Enters before now entry n
Posts before now entry (Err at) = RefusesEntry before now entry at

-- the event's time at the history that is seen
pub record KnowsTime (before now : DeskValue) (event : EventId) (told : ℕ × ℕ) : Type 0 where
  pub looks : Looks before now
  pub here : told.1 ≡ length now.seen
  pub is_time : IsTimeAt now.setting now.seen told.1 event told.0

-- there is no such event
pub record KnowsNone (before now : DeskValue) (event : EventId) (at : At Refusal) : Type 0 where
  pub looks : Looks before now
  pub here : at.entry ≡ length now.seen
  pub unknown : IsUnknownAt now.setting now.seen at.entry event at.why

abbrev pub TellsTime : DeskValue → DeskValue → EventId → Result (ℕ × ℕ) (At Refusal) → Type 0
TellsTime before now event (Ok told) = KnowsTime before now event told
TellsTime before now event (Err at) = KnowsNone before now event at

-- the cost at the history that is seen
pub record TellsCost (before now : DeskValue) (told : ℕ × ℕ) : Type 0 where
  pub looks : Looks before now
  pub here : told.1 ≡ length now.seen
  pub costs : IsCostAt now.setting now.seen told.1 told.0

-- the length of the history that is seen
pub record TellsLength (before now : DeskValue) (told : ℕ) : Type 0 where
  pub looks : Looks before now
  pub here : told ≡ length now.seen

-- ---- plans

-- how many entries the history that is seen has, and equal rows, which have no cycle
pub record IsCopied (before now : DeskValue) (snapshot : Snapshot) : Type 0 where
  pub looks : Looks before now
  pub here : snapshot.entry ≡ length now.seen
  pub rows : snapshot.rows ≡ rows_after now.setting now.seen snapshot.entry
  pub sized : IsSized now.setting.net snapshot.rows
  pub no_cycle : HasNoCycle now.setting.net snapshot.rows

-- the choices of a plan may be adopted for the rows after as many entries as it names, which were seen
pub record IsAdoptable (desk : DeskValue) (plan : Chosen) : Type 0 where
  pub within : plan.entry ≤ length desk.seen
  pub may : MayBeAdopted desk.setting.net (rows_after desk.setting desk.seen plan.entry) plan.choices

-- the entry that adopts a plan
abbrev pub adopts : Chosen → ℕ → ℕ → Entry
adopts plan feed line = record { feed = feed; line = line; message = Adopt plan.choices }

-- the plan's choices were entered, behind the entries that it is for
pub record EntersPlan (before now : DeskValue) (plan : Chosen) (feed line n : ℕ) : Type 0 where
  pub enters : Enters before now (adopts plan feed line) n
  pub next : n ≡ plan.entry + 1

-- the history that is seen has more entries than the plan is for
pub record FindsOld (before now : DeskValue) (plan : Chosen) (n : ℕ) : Type 0 where
  pub looks : Looks before now
  pub here : n ≡ length now.seen
  pub older : plan.entry < n

-- it has as many, and takes no more
pub record FindsNoRoom (before now : DeskValue) (plan : Chosen) (n : ℕ) : Type 0 where
  pub looks : Looks before now
  pub here : n ≡ length now.seen
  pub full : n ≡ ENTRIES
  pub present : n ≡ plan.entry

abbrev pub AdoptsPlan : DeskValue → DeskValue → Chosen → ℕ → ℕ → Result ℕ AdoptRefusal → Type 0
AdoptsPlan before now plan feed line (Ok n) = EntersPlan before now plan feed line n
AdoptsPlan before now plan feed line (Err (Old n)) = FindsOld before now plan n
AdoptsPlan before now plan feed line (Err (Full n)) = FindsNoRoom before now plan n
AdoptsPlan before now plan feed line (Err NoMemory) = Looks before now

-- the entry of those of the choices that are free after the first n entries that are seen
abbrev pub carries : DeskValue → List Decision → ℕ → ℕ → ℕ → Entry
carries desk choices feed line n = record { feed = feed; line = line; message = carried desk.setting desk.seen n choices }

-- They were entered behind the entries after which they are free, or that is refused for a cycle, a full history or want of
-- memory.
abbrev pub CarriesPlan : DeskValue → DeskValue → List Decision → ℕ → ℕ → Result ℕ (At Refusal) → Type 0
CarriesPlan before now choices feed line (Ok n) = Enters before now (carries now choices feed line (n - 1)) n
CarriesPlan before now choices feed line (Err at) = RefusesEntry before now (carries now choices feed line at.entry) at
