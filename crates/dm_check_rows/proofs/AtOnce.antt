-- What refuses a message at once is no cycle, no full history and no want of memory.
use Rattle.std.proofs.Common.{ℕ, List}
use Rattle.dm_network.specs.Net.{Net}
use Rattle.dm_rows.specs.declared.messages.Decision.{Decision}
use Rattle.dm_rows.specs.declared.messages.Decision.TheVariants as decision
use Rattle.dm_rows.specs.declared.messages.Choice.TheVariants as choice
use Rattle.dm_rows.specs.declared.messages.Message.{Message}
use Rattle.dm_rows.specs.declared.messages.Message.TheVariants as message
use Rattle.dm_rows.specs.declared.messages.Refusal.{Refusal}
use Rattle.dm_rows.specs.declared.messages.Refusal.TheVariants.{Cycle, Full, OutOfMemory}
use Rattle.dm_base.specs.declared.ids.ActId.{ActId}
use Rattle.dm_rows.specs.Rows.{RowsValue}
use Rattle.dm_rows.specs.Refuse.{Refuses, RefusesAtOnce, RefusesDecision}

no_cycle_in : (net : Net) (rows : RowsValue) (d : Decision) (ids : List ActId) → RefusesDecision net rows d (Cycle ids) → ⊥
no_cycle_in net rows (decision.Keep a) ids h = h
no_cycle_in net rows (decision.Drop a) ids h = h
no_cycle_in net rows (decision.First i j) ids h = h

no_full_in : (net : Net) (rows : RowsValue) (d : Decision) (k : ℕ) → RefusesDecision net rows d (Full k) → ⊥
no_full_in net rows (decision.Keep a) k h = h
no_full_in net rows (decision.Drop a) k h = h
no_full_in net rows (decision.First i j) k h = h

no_memory_in : (net : Net) (rows : RowsValue) (d : Decision) → RefusesDecision net rows d OutOfMemory → ⊥
no_memory_in net rows (decision.Keep a) h = h
no_memory_in net rows (decision.Drop a) h = h
no_memory_in net rows (decision.First i j) h = h

pub no_cycle_at_once : (net : Net) (rows : RowsValue) (m : Message) (ids : List ActId) → RefusesAtOnce net rows m (Cycle ids) → ⊥
no_cycle_at_once net rows (message.Adopt ds) ids h = no_cycle_in net rows h.decision ids h.refused
no_cycle_at_once net rows (message.Lock (choice.Change a)) ids h = h
no_cycle_at_once net rows (message.Lock (choice.Pair i j)) ids h = h
no_cycle_at_once net rows (message.Unlock (choice.Change a)) ids h = h
no_cycle_at_once net rows (message.Unlock (choice.Pair i j)) ids h = h
no_cycle_at_once net rows m ids h = h

pub no_full_at_once : (net : Net) (rows : RowsValue) (m : Message) (k : ℕ) → RefusesAtOnce net rows m (Full k) → ⊥
no_full_at_once net rows (message.Adopt ds) k h = no_full_in net rows h.decision k h.refused
no_full_at_once net rows (message.Lock (choice.Change a)) k h = h
no_full_at_once net rows (message.Lock (choice.Pair i j)) k h = h
no_full_at_once net rows (message.Unlock (choice.Change a)) k h = h
no_full_at_once net rows (message.Unlock (choice.Pair i j)) k h = h
no_full_at_once net rows m k h = h

pub no_memory_at_once : (net : Net) (rows : RowsValue) (m : Message) → RefusesAtOnce net rows m OutOfMemory → ⊥
no_memory_at_once net rows (message.Adopt ds) h = no_memory_in net rows h.decision h.refused
no_memory_at_once net rows (message.Lock (choice.Change a)) h = h
no_memory_at_once net rows (message.Lock (choice.Pair i j)) h = h
no_memory_at_once net rows (message.Unlock (choice.Change a)) h = h
no_memory_at_once net rows (message.Unlock (choice.Pair i j)) h = h
no_memory_at_once net rows m h = h

-- so it is the message's refusal
pub refuses_at_once : (net : Net) (rows : RowsValue) (n : ℕ) (m : Message) (r : Refusal) → RefusesAtOnce net rows m r → Refuses net rows n m r
refuses_at_once net rows n m (Cycle ids) h = absurd (no_cycle_at_once net rows m ids h)
refuses_at_once net rows n m (Full k) h = absurd (no_full_at_once net rows m k h)
refuses_at_once net rows n m OutOfMemory h = absurd (no_memory_at_once net rows m h)
refuses_at_once net rows n m r h = h
