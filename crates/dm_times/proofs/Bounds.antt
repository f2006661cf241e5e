-- Least times of rows within the limits are below 2^38.
use Rattle.std.proofs.Common.{ℕ, ◌≤◌, Option, Some, None, refl, arith}
use Rattle.std.specs.Prelude.{unwrap_or, max}
use Rattle.std.specs.Option.{ForSome}
use Rattle.dm_base.specs.declared.limits.TheConstants.{PASSED_TIME}
use Rattle.dm_network.specs.Net.{Net, IsWithinLimits}
use Rattle.dm_rows.specs.Rows.{RowsValue, RowsAreWithinLimits, passed_at}
use Rattle.dm_rows.specs.Timetable.{graph_of, planned_time}
use Rattle.dm_rows.proofs.AsGraph.{least_as_graph}
use Rattle.dm_settle.specs.Constraints.{IsBounded}
use Rattle.dm_settle.proofs.Early.{least_is_early}
use Rattle.dm_times.specs.Laws.{LeastTimesAreEarly}
use Rattle.dm_times.proofs.Meeting.{rows_are_met}

floor_within : (o : Option ℕ) (planned clock : ℕ) → ForSome o (λ t. t ≤ PASSED_TIME) → planned ≤ PASSED_TIME → clock ≤ PASSED_TIME →
    unwrap_or o (max planned clock) ≤ PASSED_TIME
floor_within None planned clock passed p c = omega arith
floor_within (Some t) planned clock passed p c = passed t refl

pub rows_are_bounded : (net : Net) (rows : RowsValue) → IsWithinLimits net → RowsAreWithinLimits rows → IsBounded (graph_of net rows)
rows_are_bounded net rows few within =
    record {
      few = few.events;
      floors = λ e lt.
          let time = few.times e in
          let delay = within.of_events e in
          let planned : planned_time net rows e ≤ PASSED_TIME = omega arith in
          floor_within (passed_at rows e) (planned_time net rows e) rows.clock (within.of_passed e) planned within.of_clock;
      spans = λ a b.
          let bound = few.bounds a in
          let delay = within.of_activities a in
          omega arith;
    }

pub least_times_are_early : LeastTimesAreEarly
least_times_are_early net rows x network few within least =
    least_is_early (graph_of net rows) x (rows_are_bounded net rows few within)
    ((rows_are_met net rows network).0 (x, least.meets))
    (record { as_many = least.meets.size; least = (least_as_graph net rows x network.formed.ends_are_known least.meets.size).0 least })
