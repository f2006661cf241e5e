-- A live timetable that follows rows: its times are theirs.
use Rattle.std.proofs.Common.{◌≡◌, ℕ, ◌<◌, Bool, false, List, [], length, replicate, if◌then◌else◌, sym, ap, ◌∙◌, arith}
use Rattle.std.proofs.lemmas.List.{length-replicate}
use Rattle.std.proofs.lemmas.Grind.{same_number_lists}
use Rattle.dm_live.specs.Live.{LiveValue, IsLive, IsAtRest}
use Rattle.dm_live.proofs.Resting.{least_at_rest, live_has_no_cycle}
use Rattle.dm_network.specs.Net.{Net, EndsAreKnown, activity_at}
use Rattle.dm_network.specs.Held.{is_held}
use Rattle.dm_rows.specs.Active.{HasNoCycle, has_passed}
use Rattle.dm_rows.specs.Cost.{is_lost_change}
use Rattle.dm_rows.specs.Rows.{RowsValue, IsSized}
use Rattle.dm_rows.specs.Timetable.{IsLeast}
use Rattle.dm_settle.specs.Constraints.{ConstraintsValue, IsSizedFor}
use Rattle.dm_times.specs.Constraints.{AreConstraintsOf}
use Rattle.dm_times.proofs.Filled.{least_for_rows, no_cycle_of_rows}
use Rattle.dm_priced.specs.Priced.{PricedValue, IsPriced, FollowsPrice}
use Rattle.dm_marks.specs.Places.{PlaceSetValue}
use Rattle.dm_propagate.specs.Inside.Flags.{flags_of, AreFlagsOf}
use Rattle.dm_schedule.specs.Schedule.{IsScheduleOf}
use Rattle.dm_schedule.specs.declared.schedule.Scheduled.{Scheduled}
use Rattle.dm_propagate.specs.Engine.{EngineValue, FollowsRows, OrdersUnpassed, IsEngineOf, times_of}

constraints_of_rows : (net : Net) (rows : RowsValue) (given : ConstraintsValue) → IsSizedFor net given → FollowsRows net rows given →
    AreConstraintsOf net rows given
constraints_of_rows net rows given sized follows =
    record { sized = sized; held = follows.held; floors = follows.floors; spans = follows.spans }

-- at rest it has the least timetable of the rows
pub follows_least : (net : Net) (rows : RowsValue) (live : LiveValue) → EndsAreKnown net → IsLive net live → IsAtRest live →
    FollowsRows net rows live.given → IsLeast net rows live.times
follows_least net rows live known is rest follows =
    least_for_rows net rows live.given (constraints_of_rows net rows live.given is.sized follows) live.times known (least_at_rest net live is rest)

pub follows_no_cycle : (net : Net) (rows : RowsValue) (live : LiveValue) → IsLive net live → FollowsRows net rows live.given → HasNoCycle net rows
follows_no_cycle net rows live is follows =
    no_cycle_of_rows net rows live.given (constraints_of_rows net rows live.given is.sized follows) (live_has_no_cycle net live is)

-- an engine of parts that follow the rows
pub is_engine : (net : Net) (rows : RowsValue) (priced : PricedValue) (schedule : List Scheduled) (moved : PlaceSetValue) → IsSized net rows →
    IsPriced net priced → IsAtRest priced.live → FollowsRows net rows priced.live.given → AreFlagsOf net rows (flags_of priced) →
    IsScheduleOf net schedule → length moved.flags ≡ length net.events →
    IsEngineOf net (record { rows = rows; priced = priced; schedule = schedule; moved = moved })
is_engine net rows priced schedule moved sized is rest follows flags scheduled noted = record {
  sized = sized;
  priced = is;
  at_rest = rest;
  follows = follows;
  orders = record {
    fixed = flags.fixed;
    held = λ a lt. is.live.in_order a lt
        ∙ ap (λ (b : Bool). if b then false else is_held priced.live.given.held a) (flags.fixed (activity_at net a).tail)
        ∙ ap (λ (b : Bool). if has_passed rows (activity_at net a).tail then false else b) (follows.held a lt);
  };
  price = record { passed = flags.passed; cancelled = flags.cancelled; charged = flags.charged; spans = follows.spans };
  schedule = scheduled;
  noted = noted;
}

-- an engine of which nothing is noted is one still
pub forgetting_engine : (net : Net) (engine : EngineValue) → IsEngineOf net engine →
    IsEngineOf net (record engine { moved = record { flags = replicate (length engine.moved.flags) false; places = [] } })
forgetting_engine net engine is = record {
  sized = is.sized;
  priced = is.priced;
  at_rest = is.at_rest;
  follows = is.follows;
  orders = is.orders;
  price = is.price;
  schedule = is.schedule;
  noted = length-replicate (length engine.moved.flags) false ∙ is.noted;
}

pub engine_flags : (net : Net) (rows : RowsValue) (priced : PricedValue) → OrdersUnpassed net rows priced.live → FollowsPrice net rows (is_lost_change net rows) priced →
    AreFlagsOf net rows (flags_of priced)
engine_flags net rows priced orders price = record { fixed = orders.fixed; passed = price.passed; cancelled = price.cancelled; charged = price.charged }

pub engine_least : (net : Net) (engine : EngineValue) → EndsAreKnown net → IsEngineOf net engine → IsLeast net engine.rows (times_of engine)
engine_least net engine known is = follows_least net engine.rows engine.priced.live known is.priced.live is.at_rest is.follows

pub engine_no_cycle : (net : Net) (engine : EngineValue) → IsEngineOf net engine → HasNoCycle net engine.rows
engine_no_cycle net engine is = follows_no_cycle net engine.rows engine.priced.live is.priced.live is.follows

-- rows have one least timetable
pub one_least : (net : Net) (rows : RowsValue) (x y : List ℕ) → IsLeast net rows x → IsLeast net rows y → x ≡ y
one_least net rows x y of_x of_y =
    let size = of_x.meets.size in
    same_number_lists x y (of_x.meets.size ∙ sym of_y.meets.size)
    (λ k lt. let below : k < length net.events = omega arith in
    let down = of_x.earliest y of_y.meets k below in
    let up = of_y.earliest x of_x.meets k below in
    omega arith)
