-- Why nothing refuses a day.
use Rattle.std.proofs.Common.{ℕ, ◌≡◌, ◌+◌, ◌*◌, ◌≤◌, inl, inr, List, map, length, Option, Some, None, refl, ap, subst, arith, slice_get}
use Rattle.std.specs.Prelude.{IsSome}
use Rattle.std.specs.List.{All}
use Rattle.std.proofs.lemmas.Option.{slice_get_within, get_or_from_slice_get}
use Rattle.std.proofs.lemmas.List.Sorted.{Contains-permutation}
use Rattle.dm_base.specs.declared.ids.EventId.{EventId}
use Rattle.dm_base.specs.declared.rows.ActRow.{ActRow}
use Rattle.dm_network.specs.declared.parts.NetFault.TheVariants.{TooMany, DoubleEvent, DoubleActivity, UnknownEvent, ZeroHeadway, Cycle, OutOfMemory}
use Rattle.dm_network.specs.Build.{IsMadeOf, IsNoEvent, NoneStandsTwice, NamesNoEvent, IsZeroHeadway, event_row, event_ids, activity_ids}
use Rattle.dm_network.specs.Net.{Net, event_place}
use Rattle.dm_network.proofs.Resolving.{not_found_is_none}
use Rattle.dm_gen.specs.Draws.{draw_at}
use Rattle.dm_gen.specs.Trains.{events_of}
use Rattle.dm_gen.specs.Activities.{links_of, activities_of}
use Rattle.dm_gen.specs.Feed.{feed_line, feed_of}
use Rattle.dm_gen.specs.Sound.{RecordsAreWithinLimits, RecordsMakeNetwork, DelaysEventOf, FeedDelaysEvents}
use Rattle.dm_gen.proofs.Ranges.{all_mapped}
use Rattle.dm_gen.proofs.Sizing.{events_count, activities_count}
use Rattle.dm_gen.proofs.Timed.{IsTimed, all_timed, ids_are, counted_once, has_event, is_event}
use Rattle.dm_gen.proofs.Joined.{IsRowOf, all_rows, numbered_ids}
use Rattle.dm_gen.proofs.Making.{no_start_cycle}

-- what is true of all is true of the one at a place
at_place : {X : Type 0} (P : X → Type 0) (xs : List X) (k : ℕ) (x : X) → All P xs → slice_get xs k ≡ Some x → P x
at_place P xs k x all at = subst P (get_or_from_slice_get xs k x x at) (all k x (slice_get_within xs k x at))

row_at : (trains k : ℕ) (row : ActRow) → slice_get (activities_of trains) k ≡ Some row → IsRowOf trains row
row_at trains k row at = at_place (IsRowOf trains) (activities_of trains) k row (all_rows trains) at

pub within_limits : RecordsAreWithinLimits
within_limits trains few =
    record {
      times = λ k row at. let is = at_place (IsTimed trains) (events_of trains) k row (all_timed trains) at in omega (arith, is.time);
      event_weights = λ k row at. let is = at_place (IsTimed trains) (events_of trains) k row (all_timed trains) at in omega (arith, is.weight);
      bounds = λ k row at. let r = row_at trains k row at in
          let is : row.lower ≡ r.link.lower = ap (λ (x : ActRow). x.lower) r.is in omega (arith, r.of.numbers.lower);
      activity_weights = λ k row at. let r = row_at trains k row at in
          let is : row.weight ≡ r.link.weight = ap (λ (x : ActRow). x.weight) r.is in omega (arith, r.of.numbers.weight);
    }

events_once : (trains : ℕ) → NoneStandsTwice (event_ids (events_of trains))
events_once trains = counted_once (event_ids (events_of trains)) 1 (20 * trains) (ids_are trains)

activities_once : (trains : ℕ) → NoneStandsTwice (activity_ids (activities_of trains))
unfolding activities_of
activities_once trains =
    counted_once (activity_ids (activities_of trains)) 1 (length (links_of trains)) (numbered_ids 1 (links_of trains))

-- an id up to the count is that of an event
known : (trains : ℕ) (id : EventId) → 1 ≤ id.0 → id.0 ≤ 20 * trains → IsNoEvent (events_of trains) id → ⊥
known trains id low high none =
    let e = has_event trains id.0 low high in is_event (events_of trains) e.0 id e.1 e.2 none

names_events : (trains : ℕ) (row : ActRow) → IsRowOf trains row → NamesNoEvent (events_of trains) row → ⊥
names_events trains row r (inl none) =
    let is : row.tail.0 ≡ r.link.tail.0 = ap (λ (x : ActRow). x.tail.0) r.is in
    let numbers = r.of.numbers in
    known trains row.tail (omega (arith, numbers.from)) (omega (arith, numbers.tail)) none
names_events trains row r (inr none) =
    let is : row.head.0 ≡ r.link.head.0 = ap (λ (x : ActRow). x.head.0) r.is in
    let numbers = r.of.numbers in
    known trains row.head (omega (arith, numbers.to)) (omega (arith, numbers.head)) none

is_apart : (trains : ℕ) (row : ActRow) → IsRowOf trains row → IsZeroHeadway row → ⊥
is_apart trains row r zero =
    let is : row.lower ≡ r.link.lower = ap (λ (x : ActRow). x.lower) r.is in omega (arith, zero.1, r.of.numbers.some)

pub make_network : RecordsMakeNetwork
make_network trains TooMany few (inl many) = absurd (omega (arith, events_count trains))
make_network trains TooMany few (inr many) = absurd (omega (arith, activities_count trains))
make_network trains (DoubleEvent id) few refused = absurd (events_once trains id.0 refused.1.twice)
make_network trains (DoubleActivity id) few refused = absurd (activities_once trains id.0 refused.2.twice)
make_network trains (UnknownEvent id) few refused =
    let first = refused.3 in absurd (names_events trains first.row (row_at trains first.place first.row first.at_place) first.holds)
make_network trains (ZeroHeadway id) few refused =
    let first = refused.4 in absurd (is_apart trains first.row (row_at trains first.place first.row first.at_place) first.holds)
make_network trains (Cycle ids) few refused =
    let cycle = refused.1 in absurd (no_start_cycle trains cycle.net cycle.made cycle.shown.places cycle.shown.is_cycle)
make_network trains OutOfMemory few refused = refl

-- ---- the feed

is_some_of : (o : Option ℕ) → (o ≡ None → ⊥) → IsSome o
is_some_of None not_none = absurd (not_none refl)
is_some_of (Some x) not_none = refl

known_in : (trains : ℕ) (net : Net) → IsMadeOf (events_of trains) (activities_of trains) net → (id : EventId) → 1 ≤ id.0 → id.0 ≤ 20 * trains
    → IsSome (event_place net id)
known_in trains net made id low high =
    let e = has_event trains id.0 low high in
    let there = Contains-permutation (events_of trains) (map event_row net.events) e.0 made.same_events e.1 in
    is_some_of (event_place net id)
    (λ none. is_event (map event_row net.events) e.0 id there e.2 (not_found_is_none net.events id none))

pub delays_events : FeedDelaysEvents
unfolding feed_of
delays_events number trains net some made =
    all_mapped (feed_line number trains) (DelaysEventOf net) 0 500 (λ line from to.
    let event : EventId = record { 0 = draw_at number (2 * line + 1) (20 * trains) + 1 } in
    record {
      event = event;
      delay = draw_at number (2 * line + 2) 900 + 1;
      says = refl;
      known = known_in trains net made event (omega arith) (omega arith);
      most = omega arith;
    })
