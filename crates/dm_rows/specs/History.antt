-- Histories of accepted messages.
use Rattle.std.specs.Prelude.{ℕ, ◌≡◌, ◌≤◌, List, length, take, fold, Some, slice_get}
use Rattle.dm_base.specs.declared.limits.TheConstants.{ENTRIES}
use Rattle.dm_network.specs.Net.{Net}
use Rattle.dm_rows.specs.declared.messages.Entry.{Entry}
use Rattle.dm_rows.specs.declared.messages.Refusal.{Refusal}
use Rattle.dm_rows.specs.Rows.{RowsValue}
use Rattle.dm_rows.specs.Resolve.{after}
use Rattle.dm_rows.specs.Refuse.{Refuses}

-- the start rows changed by the first n messages in turn
abbrev pub rows_at : Net → RowsValue → List Entry → ℕ → RowsValue
rows_at net start history n = fold (λ rows entry. after net rows entry.message) start (take n history)

-- no more than ENTRIES entries, and no message is refused by the rows after the messages before it
pub record IsLegal (net : Net) (start : RowsValue) (history : List Entry) : Type 0 where
  pub size : length history ≤ ENTRIES
  pub accepted : (n : ℕ) (entry : Entry) (r : Refusal) → slice_get history n ≡ Some entry →
      Refuses net (rows_at net start history n) n entry.message r → ⊥
