-- When rows can be met, what never makes a cycle, and how late a least time can be.
use Rattle.std.specs.Prelude.{ℕ, ◌↔◌, List}
use Rattle.dm_base.specs.declared.rows.DelayRow.{DelayRow}
use Rattle.dm_network.specs.Net.{Net, IsWithinLimits}
use Rattle.dm_network.specs.Held.{HasNoCycleOf}
use Rattle.dm_network.specs.Start.{IsNetwork}
use Rattle.dm_rows.specs.Active.{HasNoCycle}
use Rattle.dm_rows.specs.Decide.{with_decisions}
use Rattle.dm_rows.specs.History.{rows_at}
use Rattle.dm_rows.specs.Relax.{is_relaxed_active}
use Rattle.dm_rows.specs.Resolve.{after}
use Rattle.dm_rows.specs.Rows.{RowsValue, RowsAreWithinLimits, start_rows_of, start_rows_without}
use Rattle.dm_rows.specs.Timetable.{Meets, MeetsHolding, IsLeast}
use Rattle.dm_rows.specs.declared.messages.Decision.{Decision}
use Rattle.dm_rows.specs.declared.messages.Entry.{Entry}
use Rattle.dm_rows.specs.declared.messages.Message.{Message}
use Rattle.dm_settle.specs.Settling.{AreEarly}

-- the rows that messages and decisions, one after another, reach from a network's start rows
pub data IsReached (net : Net) : RowsValue → Type 0 where
  starts : (events activities : List DelayRow) → IsReached net (start_rows_of net events activities)
  starts_without : (events activities : List DelayRow) (ids : List ℕ) → IsReached net (start_rows_without net events activities ids)
  by_message : (rows : RowsValue) (m : Message) → IsReached net rows → IsReached net (after net rows m)
  by_decisions : (rows : RowsValue) (decisions : List Decision) → IsReached net rows →
      IsReached net (with_decisions net rows decisions)

-- some timetable meets the rows exactly where they have no cycle
abbrev pub IsMetExactlyWithoutCycle : Net → RowsValue → Type 0
IsMetExactlyWithoutCycle net rows = ((x : List ℕ) × Meets net rows x) ↔ HasNoCycle net rows

-- some timetable meets the relaxed problem of a path exactly where what binds in it has no cycle
abbrev pub IsMetRelaxedExactlyWithoutCycle : Net → RowsValue → List Decision → Type 0
IsMetRelaxedExactlyWithoutCycle net rows path =
    ((x : List ℕ) × MeetsHolding net (with_decisions net rows path) (is_relaxed_active net rows path) x)
    ↔ HasNoCycleOf net (is_relaxed_active net rows path)

-- Rows of a network can be met exactly where they have no cycle. It holds of all rows, whatever their numbers and sizes, so
-- of those that a history of messages reaches from its start rows, of those with decisions set, and of those that a path
-- relaxes.
pub record MetExactlyWithoutCycle : Type 0 where
  pub all : (net : Net) (rows : RowsValue) → IsNetwork net → IsMetExactlyWithoutCycle net rows
  pub by_messages : (net : Net) (events activities : List DelayRow) (history : List Entry) (n : ℕ) → IsNetwork net →
      IsMetExactlyWithoutCycle net (rows_at net (start_rows_of net events activities) history n)
  pub reached : (net : Net) (rows : RowsValue) → IsNetwork net → IsReached net rows → IsMetExactlyWithoutCycle net rows
  pub by_decisions : (net : Net) (rows : RowsValue) (decisions : List Decision) → IsNetwork net → IsReached net rows →
      IsMetExactlyWithoutCycle net (with_decisions net rows decisions)
  pub relaxed : (net : Net) (rows : RowsValue) (path : List Decision) → IsNetwork net → IsReached net rows →
      IsMetRelaxedExactlyWithoutCycle net rows path

-- the start rows of a network have no cycle, whatever the delays and whichever events are cancelled
pub record StartHasNoCycle : Type 0 where
  pub all_run : (net : Net) (events activities : List DelayRow) → IsNetwork net →
      HasNoCycle net (start_rows_of net events activities)
  pub without : (net : Net) (events activities : List DelayRow) (ids : List ℕ) → IsNetwork net →
      HasNoCycle net (start_rows_without net events activities ids)

-- the least times of rows within the limits are below 2^38
abbrev pub LeastTimesAreEarly : Type 0
LeastTimesAreEarly =
    (net : Net) (rows : RowsValue) (x : List ℕ) → IsNetwork net → IsWithinLimits net → RowsAreWithinLimits rows →
    IsLeast net rows x → AreEarly x
