-- What contracts see of an engine, and what holds of it between its changes.
use Rattle.std.specs.Prelude.{ℕ, ◌≡◌, ◌<◌, List, length, slice_index}
use Rattle.dm_live.specs.Live.{LiveValue, IsAtRest, is_fixed}
use Rattle.dm_network.specs.Net.{Net}
use Rattle.dm_network.specs.Held.{is_held}
use Rattle.dm_rows.specs.Active.{has_passed, is_active}
use Rattle.dm_order.specs.Orders.{is_ordered}
use Rattle.dm_rows.specs.Cost.{is_lost_change}
use Rattle.dm_rows.specs.Rows.{RowsValue, IsSized}
use Rattle.dm_rows.specs.Timetable.{floor_of, span_of}
use Rattle.dm_priced.specs.Priced.{PricedValue, IsPriced, FollowsPrice}
use Rattle.dm_marks.specs.Places.{PlaceSetValue}
use Rattle.dm_settle.specs.Constraints.{ConstraintsValue}
use Rattle.dm_schedule.specs.Schedule.{IsScheduleOf}
use Rattle.dm_schedule.specs.declared.schedule.Scheduled.{Scheduled}

-- rows, the timetable that is kept for them, with its price, the events by their scheduled times, and the events that are noted
-- as moved
pub record EngineValue : Type 0 where
  pub rows : RowsValue
  pub priced : PricedValue
  pub schedule : List Scheduled
  pub moved : PlaceSetValue

abbrev pub times_of : EngineValue → List ℕ
times_of engine = engine.priced.live.times

-- the activities of the cycle for which a change was refused last
abbrev pub cycle_of : EngineValue → List ℕ
cycle_of engine = engine.priced.live.order.cycle

-- What the timetable is held to are the rows: the active activities are held, each event has its floor and each activity its
-- span.
pub record FollowsRows (net : Net) (rows : RowsValue) (given : ConstraintsValue) : Type 0 where
  pub held : (a : ℕ) → a < length net.activities → is_held given.held a ≡ is_active net rows a
  pub floors : (i : ℕ) → i < length net.events → slice_index given.floors i ≡ floor_of net rows i
  pub spans : (a : ℕ) → a < length net.activities → slice_index given.spans a ≡ span_of net rows a

-- The order holds exactly the active activities between events that have not passed: the time of one that has passed is fixed.
pub record OrdersUnpassed (net : Net) (rows : RowsValue) (live : LiveValue) : Type 0 where
  pub fixed : (i : ℕ) → is_fixed live.fixed i ≡ has_passed rows i
  pub held : (a : ℕ) → a < length net.activities → is_held live.order.held a ≡ is_ordered net rows a

-- The rows are of the network, its timetable is held to them, and no time is left to be computed: so the times are the least
-- timetable of the rows, and these have no cycle. Its order is of the active activities between events that have not passed.
-- The price is that of the rows too, and the schedule that of the network, of whose events some are noted.
pub record IsEngineOf (net : Net) (engine : EngineValue) : Type 0 where
  pub sized : IsSized net engine.rows
  pub priced : IsPriced net engine.priced
  pub at_rest : IsAtRest engine.priced.live
  pub follows : FollowsRows net engine.rows engine.priced.live.given
  pub orders : OrdersUnpassed net engine.rows engine.priced.live
  pub price : FollowsPrice net engine.rows (is_lost_change net engine.rows) engine.priced
  pub schedule : IsScheduleOf net engine.schedule
  pub noted : length engine.moved.flags ≡ length net.events
