-- Which of a list of entries is refused, and why.
use Rattle.std.specs.Prelude.{ℕ, ◌≡◌, ◌<◌, List, Some, slice_get}
use Rattle.dm_network.specs.Net.{Net}
use Rattle.dm_rows.specs.declared.messages.Entry.{Entry}
use Rattle.dm_rows.specs.declared.messages.Refusal.{Refusal}
use Rattle.dm_rows.specs.Rows.{RowsValue}
use Rattle.dm_rows.specs.Refuse.{Refuses}
use Rattle.dm_rows.specs.History.{rows_at}
use Rattle.dm_history.specs.declared.replaying.ReplayFault.{ReplayFault}
use Rattle.dm_history.specs.declared.replaying.ReplayFault.TheVariants.{Refused, OutOfMemory}

-- none of the first n entries is refused by the rows after the entries before it
abbrev pub AcceptsFirst : Net → RowsValue → List Entry → ℕ → Type 0
AcceptsFirst net start entries n =
    (k : ℕ) (entry : Entry) (r : Refusal) → k < n → slice_get entries k ≡ Some entry →
    Refuses net (rows_at net start entries k) k entry.message r → ⊥

-- the entry at this place is refused by the rows after the entries before it, of which none is
pub record IsFirstRefused (net : Net) (start : RowsValue) (entries : List Entry) (place : ℕ) (r : Refusal) : Type 0 where
  pub entry : Entry
  pub stands : slice_get entries place ≡ Some entry
  pub refused : Refuses net (rows_at net start entries place) place entry.message r
  pub accepted_before : AcceptsFirst net start entries place

-- the first entry that is refused, and its refusal; want of memory may come at any time
abbrev pub RefusesReplay : Net → RowsValue → List Entry → ReplayFault → Type 0
RefusesReplay net start entries (Refused place r) = IsFirstRefused net start entries place r
RefusesReplay net start entries OutOfMemory = Unit {0}
