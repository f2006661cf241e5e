-- Two small networks: two trains that meet at one station, and the same with a turnaround from one to the other. Times in
-- seconds, weights in thousandths of passengers.
use Rattle.std.specs.Prelude.{ℕ, List, [], ◌∷◌, ◌++◌, Option, Some, None}
use Rattle.dm_base.specs.declared.ids.EventId.{EventId}
use Rattle.dm_base.specs.declared.ids.ActId.{ActId}
use Rattle.dm_base.specs.declared.rows.EventKind.{EventKind}
use Rattle.dm_base.specs.declared.rows.EventKind.TheVariants.{Departure, Arrival}
use Rattle.dm_base.specs.declared.rows.ActKind.{ActKind}
use Rattle.dm_base.specs.declared.rows.ActKind.TheVariants.{Drive, Wait, Turnaround, Change, Headway}
use Rattle.dm_network.specs.declared.parts.Event.{Event}
use Rattle.dm_network.specs.declared.parts.Activity.{Activity}
use Rattle.dm_network.specs.Net.{Net}
use Rattle.dm_rows.specs.Rows.{RowsValue, start_rows_of}
use Rattle.dm_rows.specs.declared.messages.Message.TheVariants.{DelayEvent, Pass, Recall, Drop, First, Now, Cancel, Restore, Lock}
use Rattle.dm_rows.specs.declared.messages.Choice.TheVariants as choice
use Rattle.dm_rows.specs.Resolve.{after}

-- an id of an event, of an activity
abbrev pub event_id : ℕ → EventId
event_id n = record { 0 = n }

abbrev pub activity_id : ℕ → ActId
activity_id n = record { 0 = n }

abbrev pub event_of : ℕ → EventKind → ℕ → ℕ → ℕ → Event
event_of id kind time weight stop =
    record { id = record { 0 = id }; kind = kind; time = time; weight = weight; stop = record { 0 = stop } }

abbrev pub activity_of : ℕ → ActKind → ℕ → ℕ → ℕ → ℕ → Option ℕ → Activity
activity_of id kind tail head lower weight pair =
    record {
      id = record { 0 = id };
      kind = kind;
      tail = tail;
      head = head;
      lower = lower;
      weight = weight;
      pair = pair;
    }

-- the first train, and the second where it leaves and arrives at these times
abbrev pub two_trains : ℕ → ℕ → List Event
two_trains leaves arrives =
    event_of 1 Departure 100 10000 1
    ∷ event_of 2 Arrival 200 10000 2
    ∷ event_of 3 Departure 220 10000 2
    ∷ event_of 4 Arrival 300 10000 3
    ∷ event_of 5 Departure leaves 5000 2
    ∷ event_of 6 Arrival arrives 5000 4
    ∷ []

-- their drives and the wait, a change from the first train to the second, and a headway pair of their departures
abbrev pub meeting : List Activity
meeting =
    activity_of 1 Drive 0 1 90 10000 None
    ∷ activity_of 2 Wait 1 2 10 10000 None
    ∷ activity_of 3 Drive 2 3 80 10000 None
    ∷ activity_of 4 Drive 4 5 95 5000 None
    ∷ activity_of 5 Change 1 4 20 4000 None
    ∷ activity_of 6 Headway 2 4 8 0 (Some 0)
    ∷ activity_of 7 Headway 4 2 8 0 (Some 0)
    ∷ []

-- the connection at one station
abbrev pub connection : Net
connection = record { events = two_trains 230 330; activities = meeting; pairs = record { small = 2; large = 4 } ∷ [] }

-- the second train leaves later, and is the first one turned around
abbrev pub turnaround : Net
turnaround =
    record {
      events = two_trains 340 440;
      activities = meeting ++ activity_of 8 Turnaround 3 4 30 0 None ∷ [];
      pairs = record { small = 2; large = 4 } ∷ [];
    }

abbrev pub at_start : RowsValue
at_start = start_rows_of connection [] []

abbrev pub turnaround_at_start : RowsValue
turnaround_at_start = start_rows_of turnaround [] []

-- event 1 is 60 seconds late
abbrev pub delayed : RowsValue
delayed = after connection at_start (DelayEvent (event_id 1) 60)

-- the change dropped, and the second train first
abbrev pub with_drop : RowsValue → RowsValue
with_drop rows = after connection rows (Drop (activity_id 5))

abbrev pub with_second_first : RowsValue → RowsValue
with_second_first rows = after connection rows (First (event_id 5) (event_id 3))

-- event 5 has passed at this time
abbrev pub with_passed : ℕ → RowsValue → RowsValue
with_passed t rows = after connection rows (Pass (event_id 5) t)

-- it is this time now
abbrev pub with_clock : ℕ → RowsValue → RowsValue
with_clock t rows = after connection rows (Now t)

-- events 1 and 2 have passed on time, and then it is 240; and event 2 recalled after that
abbrev pub arrived : RowsValue
arrived = with_clock 240 (after connection (after connection at_start (Pass (event_id 1) 100)) (Pass (event_id 2) 200))

abbrev pub recalled : RowsValue
recalled = after connection arrived (Recall (event_id 2))

-- an event cancelled, and restored
abbrev pub without : ℕ → RowsValue → RowsValue
without e rows = after connection rows (Cancel (event_id e))

abbrev pub with_again : ℕ → RowsValue → RowsValue
with_again e rows = after connection rows (Restore (event_id e))

-- the first train ends at the station, and leaves 100 seconds late; then its next departure is restored, and then its arrival
abbrev pub ends_early : RowsValue
ends_early = after connection (without 4 (without 3 at_start)) (DelayEvent (event_id 1) 100)

abbrev pub leaves_again : RowsValue
leaves_again = with_again 3 ends_early

abbrev pub runs_again : RowsValue
runs_again = with_again 4 leaves_again

-- nobody may change what is decided of the change
abbrev pub with_change_locked : RowsValue → RowsValue
with_change_locked rows = after connection rows (Lock (choice.Change (activity_id 5)))

-- nor of the pair
abbrev pub with_pair_locked : RowsValue → RowsValue
with_pair_locked rows = after connection rows (Lock (choice.Pair (event_id 3) (event_id 5)))

-- on the turnaround network the arrival before the turnaround is cancelled, and then the second train goes first
abbrev pub turned_free : RowsValue
turned_free =
    after turnaround (after turnaround turnaround_at_start (Cancel (event_id 4))) (First (event_id 5) (event_id 3))

-- the times of the connection as they are scheduled, which are its least at the start
abbrev pub scheduled : List ℕ
scheduled = 100 ∷ 200 ∷ 220 ∷ 300 ∷ 230 ∷ 330 ∷ []
