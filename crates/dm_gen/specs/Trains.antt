-- The events of trains. Trains are numbered from 0, and so are the ten legs of each.
use Rattle.std.specs.Prelude.{ℕ, ◌+◌, ◌*◌, ◌%◌, List, [], ◌∷◌}
use Rattle.std.specs.List.{flat_map, range_with_len}
use Rattle.dm_base.specs.declared.ids.EventId.{EventId}
use Rattle.dm_base.specs.declared.rows.EventRow.{EventRow}
use Rattle.dm_base.specs.declared.rows.EventKind.TheVariants.{Departure, Arrival}

abbrev pub departure_id : ℕ → ℕ → EventId
departure_id train leg = record { 0 = 20 * train + 2 * leg + 1 }

abbrev pub arrival_id : ℕ → ℕ → EventId
arrival_id train leg = record { 0 = 20 * train + 2 * leg + 2 }

-- when a train departs on a leg, in seconds: half a minute behind the train before
abbrev pub departure_time : ℕ → ℕ → ℕ
departure_time train leg = 21600 + 30 * train + 400 * leg

-- the stop at which a leg begins; eight lines of eleven stops each take trains in turn
abbrev pub stop_before : ℕ → ℕ → ℕ
stop_before train leg = 11 * (train % 8) + leg + 1

abbrev pub departure : ℕ → ℕ → EventRow
departure train leg =
    record {
      id = departure_id train leg;
      kind = Departure;
      time = departure_time train leg;
      weight = 0;
      stop = record { 0 = stop_before train leg };
    }

-- the train is under way for 330 seconds; ten passengers alight
abbrev pub arrival : ℕ → ℕ → EventRow
arrival train leg =
    record {
      id = arrival_id train leg;
      kind = Arrival;
      time = departure_time train leg + 330;
      weight = 10000;
      stop = record { 0 = stop_before train leg + 1 };
    }

abbrev pub events_of_leg : ℕ → ℕ → List EventRow
events_of_leg train leg = departure train leg ∷ arrival train leg ∷ []

unfoldable pub events_of_train : ℕ → List EventRow
events_of_train train = flat_map (events_of_leg train) (range_with_len 0 10)

-- the events of so many trains
unfoldable pub events_of : ℕ → List EventRow
events_of trains = flat_map events_of_train (range_with_len 0 trains)
