-- What entering one message does to the rows on the way, and what is known after some entries.
use Rattle.std.specs.Prelude.{ℕ, ◌≡◌, ◌<◌, ◌≤◌, Bool, IsTrue, List}
use Rattle.dm_base.specs.declared.limits.TheConstants.{ENTRIES}
use Rattle.dm_network.specs.Net.{Net}
use Rattle.dm_rows.specs.declared.messages.Entry.{Entry}
use Rattle.dm_rows.specs.declared.messages.Message.{Message}
use Rattle.dm_rows.specs.declared.messages.Refusal.{Refusal}
use Rattle.dm_rows.specs.declared.messages.Refusal.TheVariants.{OutOfMemory as NoMemory}
use Rattle.dm_rows.specs.Active.{HasNoCycle, ShowsCycle}
use Rattle.dm_rows.specs.Refuse.{Refuses, RefusesNothing, IsNow}
use Rattle.dm_rows.specs.Resolve.{after}
use Rattle.dm_rows.specs.Rows.{RowsValue, IsSized}
use Rattle.dm_rows.specs.History.{rows_at}
use Rattle.dm_settle.specs.declared.faults.NoTimes.{NoTimes}
use Rattle.dm_settle.specs.declared.faults.NoTimes.TheVariants.{Cycle, OutOfMemory as NotFound}
use Rattle.dm_history.specs.Replay.{AcceptsFirst}
use Rattle.dm_history.specs.declared.replaying.ReplayFault.{ReplayFault}
use Rattle.dm_history.specs.declared.replaying.ReplayFault.TheVariants.{Refused, OutOfMemory}

-- the rows are known to have no cycle
abbrev pub IsKnownFree : Net → RowsValue → Bool → Type 0
IsKnownFree net rows known = IsTrue known → HasNoCycle net rows

-- what is known of rows of a network, whichever they are, is known so far of those after the message
abbrev pub StaysFree : Bool → Message → Bool → Type 0
StaysFree known m result =
    (net : Net) (rows : RowsValue) → IsSized net rows → IsKnownFree net rows known → IsKnownFree net (after net rows m) result

-- the message that stands at a place is entered, and nothing refuses it
pub record Enters (net : Net) (old new : RowsValue) (place : ℕ) (m : Message) (known : Bool) : Type 0 where
  pub sized : IsSized net new
  pub is_after : new ≡ after net old m
  pub accepts : RefusesNothing (Refuses net old place m)
  pub few : place < ENTRIES
  pub free : IsKnownFree net new known

-- a refusal as a fault of the entry at a place
abbrev pub fault_at : ℕ → Refusal → ReplayFault
fault_at place NoMemory = OutOfMemory
fault_at place r = Refused place r

-- the message that stands at a place is refused
abbrev pub RefusesEntry : Net → RowsValue → ℕ → Message → ReplayFault → Type 0
RefusesEntry net rows place m (Refused at r) = (at ≡ place) × Refuses net rows place m r
RefusesEntry net rows place m OutOfMemory = Unit {0}

-- the rows after the message, which is no clock, have a cycle
abbrev pub RefusesCycle : Net → RowsValue → Message → NoTimes → Type 0
RefusesCycle net rows m (Cycle ids) = (IsNow m → ⊥) × ShowsCycle net rows ids
RefusesCycle net rows m NotFound = Unit {0}

-- the first n entries are entered
pub record IsReplayedTo (net : Net) (start : RowsValue) (entries : List Entry) (n : ℕ) (rows : RowsValue) (known : Bool) : Type 0 where
  pub sized : IsSized net rows
  pub rows_are : rows ≡ rows_at net start entries n
  pub accepted : AcceptsFirst net start entries n
  pub few : n ≤ ENTRIES
  pub free : IsKnownFree net rows known
