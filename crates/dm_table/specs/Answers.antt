-- What a table answers.
use Rattle.std.specs.Prelude.{ℕ, ◌≡◌, List, Option, None, option_map}
use Rattle.dm_base.specs.declared.ids.EventId.{EventId}
use Rattle.dm_network.specs.Net.{Net, event_place}
use Rattle.dm_order.specs.Refuse.{HasCycle}
use Rattle.dm_rows.specs.declared.messages.Message.{Message}
use Rattle.dm_rows.specs.declared.messages.Refusal.{Refusal}
use Rattle.dm_rows.specs.declared.messages.Refusal.TheVariants.{UnknownEvent, OutOfMemory}
use Rattle.dm_rows.specs.Refuse.{PassesAtOnce, IsNow, Refuses}
use Rattle.dm_rows.specs.Resolve.{after}
use Rattle.dm_rows.specs.Rows.{RowsValue}
use Rattle.dm_rows.specs.Timetable.{time_at}

-- the time of the event with this id, or None where there is no such event
abbrev pub time_of : Net → List ℕ → EventId → Option ℕ
time_of net times id = option_map (λ i. time_at times i) (event_place net id)

-- the rows after the message, which nothing refuses at once and which is no clock, have a cycle
pub record MakesCycle (net : Net) (rows : RowsValue) (m : Message) : Type 0 where
  pub passes : PassesAtOnce net rows m
  pub not_now : IsNow m → ⊥
  pub cycle : HasCycle net (after net rows m)

-- Why a table of n entries refuses a message: the first refusal that applies. Memory is wanted for the list of a cycle
-- alone, and so want of memory comes only where there is one.
abbrev pub RefusesPost : Net → RowsValue → ℕ → Message → Refusal → Type 0
RefusesPost net rows n m OutOfMemory = MakesCycle net rows m
RefusesPost net rows n m r = Refuses net rows n m r

-- the id is of no event
abbrev pub RefusesTime : Net → EventId → Refusal → Type 0
RefusesTime net id (UnknownEvent u) = (event_place net id ≡ None) × (u ≡ id)
RefusesTime net id _ = ⊥
