-- The activities between the events of trains.
use Rattle.std.specs.Prelude.{ℕ, ◌+◌, ◌-◌, List, [], ◌∷◌, ◌++◌, map}
use Rattle.std.specs.List.{flat_map, range_with_len}
use Rattle.dm_base.specs.declared.rows.ActRow.{ActRow}
use Rattle.dm_base.specs.declared.rows.ActKind.TheVariants.{Drive, Wait, Change, Headway}
use Rattle.dm_gen.specs.declared.links.Link.{Link}
use Rattle.dm_gen.specs.Trains.{departure_id, arrival_id}

-- a train drives a leg in at least 300 seconds
abbrev pub drive : ℕ → ℕ → Link
drive train leg = record { kind = Drive; tail = departure_id train leg; head = arrival_id train leg; lower = 300; weight = 0 }

-- a train waits at least 40 seconds between a leg and the next
abbrev pub wait : ℕ → ℕ → Link
wait train leg = record { kind = Wait; tail = arrival_id train leg; head = departure_id train (leg + 1); lower = 40; weight = 0 }

-- two trains depart on a leg at least 120 seconds apart, the first of them before the other
abbrev pub headway : ℕ → ℕ → ℕ → Link
headway train other leg = record { kind = Headway; tail = departure_id train leg; head = departure_id other leg; lower = 120; weight = 0 }

-- whichever of the two is first
abbrev pub headways_on_leg : ℕ → ℕ → ℕ → List Link
headways_on_leg train other leg = headway train other leg ∷ headway other train leg ∷ []

-- five passengers change from a train's fifth leg to the next train's sixth, in at least 60 seconds
abbrev pub change : ℕ → Link
change train =
    record { kind = Change; tail = arrival_id train 4; head = departure_id (train + 1) 5; lower = 60; weight = 5000 }

-- ten drives, and the nine waits between them
unfoldable pub links_of_train : ℕ → List Link
links_of_train train = map (drive train) (range_with_len 0 10) ++ map (wait train) (range_with_len 0 9)

-- a train and the one eight behind it, which follows on the same line
unfoldable pub headways_of_train : ℕ → List Link
headways_of_train train = flat_map (headways_on_leg train (train + 8)) (range_with_len 0 10)

-- trains by themselves, then each train that another follows eight behind, then each that another follows at all
unfoldable pub links_of : ℕ → List Link
links_of trains =
    flat_map links_of_train (range_with_len 0 trains) ++ flat_map headways_of_train (range_with_len 0 (trains - 8))
    ++ map change (range_with_len 0 (trains - 1))

abbrev pub with_id : ℕ → Link → ActRow
with_id id link =
    record { id = record { 0 = id }; kind = link.kind; tail = link.tail; head = link.head; lower = link.lower; weight = link.weight }

-- each with its id, the first with this one
abbrev pub numbered_from : ℕ → List Link → List ActRow
numbered_from id [] = []
numbered_from id (link ∷ links) = with_id id link ∷ numbered_from (id + 1) links

-- the activities of so many trains
unfoldable pub activities_of : ℕ → List ActRow
activities_of trains = numbered_from 1 (links_of trains)
