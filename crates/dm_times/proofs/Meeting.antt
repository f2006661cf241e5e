-- Rows can be met exactly where they have no cycle; their start rows have none.
use Rattle.std.proofs.Common.{ℕ, List, ◌∙◌}
use Rattle.dm_base.specs.declared.rows.DelayRow.{DelayRow}
use Rattle.dm_network.specs.Net.{Net}
use Rattle.dm_network.specs.Start.{IsNetwork, is_start_active}
use Rattle.dm_network.proofs.Holding.{cycle_with}
use Rattle.dm_rows.specs.Active.{is_active, HasNoCycle}
use Rattle.dm_rows.specs.Decide.{with_decisions}
use Rattle.dm_rows.specs.Relax.{is_relaxed_active}
use Rattle.dm_rows.specs.History.{rows_at}
use Rattle.dm_rows.specs.Rows.{RowsValue, start_rows_of, start_rows_without}
use Rattle.dm_rows.proofs.AsGraph.{active_enter_no_passed, relaxed_enter_no_passed}
use Rattle.dm_rows.proofs.AtStart.{start_activity_agrees, active_at_start_binds}
use Rattle.dm_rows.proofs.Holding.{held_is_met_exactly_without_cycle}
use Rattle.dm_times.specs.Laws.{IsMetExactlyWithoutCycle, MetExactlyWithoutCycle, StartHasNoCycle}

pub rows_are_met : (net : Net) (rows : RowsValue) → IsNetwork net → IsMetExactlyWithoutCycle net rows
rows_are_met net rows network =
    held_is_met_exactly_without_cycle net rows (is_active net rows) network (active_enter_no_passed net rows)

pub met_exactly_without_cycle : MetExactlyWithoutCycle
met_exactly_without_cycle =
    record {
      all = rows_are_met;
      by_messages = λ net events activities history n network.
          rows_are_met net (rows_at net (start_rows_of net events activities) history n) network;
      reached = λ net rows network reached. rows_are_met net rows network;
      by_decisions = λ net rows decisions network reached. rows_are_met net (with_decisions net rows decisions) network;
      relaxed = λ net rows path network reached.
          held_is_met_exactly_without_cycle net (with_decisions net rows path) (is_relaxed_active net rows path) network
          (relaxed_enter_no_passed net rows path);
    }

pub start_has_no_cycle : (net : Net) (events activities : List DelayRow) → IsNetwork net → HasNoCycle net (start_rows_of net events activities)
start_has_no_cycle net events activities network cycle c =
    let start : RowsValue = start_rows_of net events activities in
    network.no_start_cycle cycle
    (cycle_with net (is_active net start) (is_start_active net)
    (λ a below active. start_activity_agrees net events activities a network.formed below ∙ active) cycle c)

-- with some events cancelled no more is active
start_without_has_no_cycle : (net : Net) (events activities : List DelayRow) (ids : List ℕ) → IsNetwork net →
    HasNoCycle net (start_rows_without net events activities ids)
start_without_has_no_cycle net events activities ids network cycle c =
    let start : RowsValue = start_rows_without net events activities ids in
    network.no_start_cycle cycle
    (cycle_with net (is_active net start) (is_start_active net)
    (λ a below active. active_at_start_binds net events activities ids a network.formed below active) cycle c)

pub starts_have_no_cycle : StartHasNoCycle
starts_have_no_cycle = record { all_run = start_has_no_cycle; without = start_without_has_no_cycle }
