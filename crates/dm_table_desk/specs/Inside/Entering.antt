-- What an entry does to a table, and what refuses it.
use Rattle.std.specs.Prelude.{ℕ, ◌≡◌, ◌⊎◌, ◌≤◌, [], ◌∷◌, ◌++◌, length}
use Rattle.dm_rows.specs.declared.messages.Entry.{Entry}
use Rattle.dm_rows.specs.declared.messages.Message.{Message}
use Rattle.dm_rows.specs.declared.messages.Refusal.{Refusal}
use Rattle.dm_rows.specs.declared.messages.Refusal.TheVariants.{OutOfMemory}
use Rattle.dm_rows.specs.History.{rows_at, IsLegal}
use Rattle.dm_rows.specs.Refuse.{Refuses}
use Rattle.dm_rows.specs.Rows.{RowsValue}
use Rattle.dm_table.specs.Value.{TableValue}
use Rattle.dm_tree.specs.declared.adopting.Chosen.{Chosen}
use Rattle.dm_tree.specs.Plans.{MayBeAdopted}
use Rattle.dm_table_desk.specs.Tables.{desk_of}

-- one entry more, with this number, and the history is legal; the day is the same
pub record Gains (before now : TableValue) (entry : Entry) (n : ℕ) : Type 0 where
  pub network : now.network ≡ before.network
  pub start : now.start ≡ before.start
  pub penalty : now.penalty ≡ before.penalty
  pub gained : now.history ≡ before.history ++ entry ∷ []
  pub number : n ≡ length now.history
  pub legal : IsLegal now.network now.start now.history

-- as a desk the table is as before
abbrev pub IsSameDesk : TableValue → TableValue → Type 0
IsSameDesk before now = (plans : ℕ) → desk_of plans now ≡ desk_of plans before

-- the rows after all entries
abbrev pub rows_now : TableValue → RowsValue
rows_now table = rows_at table.network table.start table.history (length table.history)

-- there was no memory, or the rows after all entries refuse the message for this
abbrev pub IsRefusedAfter : TableValue → Message → Refusal → Type 0
IsRefusedAfter table m why = (why ≡ OutOfMemory) ⊎ Refuses table.network (rows_now table) (length table.history) m why

-- the choices of a plan may be adopted for the rows after as many entries as it names, which the history has
pub record IsAdoptableAt (table : TableValue) (plan : Chosen) : Type 0 where
  pub within : plan.entry ≤ length table.history
  pub may : MayBeAdopted table.network (rows_at table.network table.start table.history plan.entry) plan.choices
