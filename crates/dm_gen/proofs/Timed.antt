-- The events of a day: their ids are the numbers from 1, and the id alone tells the scheduled time.
use Rattle.std.proofs.Common.{ℕ, ◌≡◌, ◌+◌, ◌-◌, ◌*◌, ◌/◌, ◌%◌, ◌≤◌, ◌<◌, List, [], ◌∷◌, length, sym, ap, ◌∙◌, arith, get_or, Some}
use Rattle.std.specs.List.{All, Contains, range_with_len}
use Rattle.std.proofs.lemmas.Option.{slice_get_within, slice_get-get_or, get_or_from_slice_get}
use Rattle.std.proofs.lemmas.List.{get_or-map}
use Rattle.std.proofs.lemmas.List.Elements.{All-nil, All-cons, Contains-get_or}
use Rattle.std.proofs.lemmas.List.FromFn.{get_or-range_with_len, length-range_with_len}
use Rattle.dm_base.specs.declared.ids.EventId.{EventId}
use Rattle.dm_base.specs.declared.rows.EventRow.{EventRow}
use Rattle.dm_network.specs.Build.{IsNoEvent, NoneStandsTwice, event_ids}
use Rattle.dm_gen.specs.Trains.{departure, arrival, events_of_leg, events_of_train, events_of}
use Rattle.dm_gen.proofs.Ranges.{all_joined, numbers_joined}
use Rattle.dm_gen.proofs.Sizing.{events_count}

-- the scheduled time of the event with this id
unfoldable pub scheduled : ℕ → ℕ
scheduled id = 21600 + 30 * ((id - 1) / 20) + 400 * (((id - 1) % 20) / 2) + 330 * ((id - 1) % 2)

pub departs : (train leg : ℕ) → leg < 10 → scheduled (20 * train + 2 * leg + 1) ≡ 21600 + 30 * train + 400 * leg
unfolding scheduled
departs train leg short = omega arith

pub arrives : (train leg : ℕ) → leg < 10 → scheduled (20 * train + 2 * leg + 2) ≡ 21600 + 30 * train + 400 * leg + 330
unfolding scheduled
arrives train leg short = omega arith

-- a record of a day of so many trains
pub record IsTimed (trains : ℕ) (row : EventRow) : Type 0 where
  pub scheduled : row.time ≡ scheduled row.id.0
  pub time : row.time ≤ 21600 + 30 * trains + 4330
  pub weight : row.weight ≤ 10000

timed_departure : (trains train leg : ℕ) → train < trains → leg < 10 → IsTimed trains (departure train leg)
timed_departure trains train leg of_train of_leg =
    record { scheduled = sym (departs train leg of_leg); time = omega arith; weight = omega arith }

timed_arrival : (trains train leg : ℕ) → train < trains → leg < 10 → IsTimed trains (arrival train leg)
timed_arrival trains train leg of_train of_leg =
    record { scheduled = sym (arrives train leg of_leg); time = omega arith; weight = omega arith }

timed_leg : (trains train leg : ℕ) → train < trains → leg < 10 → All (IsTimed trains) (events_of_leg train leg)
timed_leg trains train leg of_train of_leg =
    All-cons (IsTimed trains) (departure train leg) (arrival train leg ∷ []) (timed_departure trains train leg of_train of_leg)
    (All-cons (IsTimed trains) (arrival train leg) [] (timed_arrival trains train leg of_train of_leg) (All-nil (IsTimed trains)))

timed_train : (trains train : ℕ) → train < trains → All (IsTimed trains) (events_of_train train)
unfolding events_of_train
timed_train trains train of_train =
    all_joined (events_of_leg train) (IsTimed trains) 0 10 (λ leg low high. timed_leg trains train leg of_train (omega arith))

pub all_timed : (trains : ℕ) → All (IsTimed trains) (events_of trains)
unfolding events_of
all_timed trains = all_joined events_of_train (IsTimed trains) 0 trains (λ train low high. timed_train trains train (omega arith))

-- ---- ids

leg_ids : (train leg : ℕ) → event_ids (events_of_leg train leg) ≡ range_with_len ((20 * train + 1) + 2 * leg) 2
leg_ids train leg =
    let one : 20 * train + 2 * leg + 1 ≡ (20 * train + 1) + 2 * leg = omega arith in
    let two : 20 * train + 2 * leg + 2 ≡ ((20 * train + 1) + 2 * leg) + 1 = omega arith in
    ap (λ i. i ∷ (20 * train + 2 * leg + 2) ∷ []) one ∙ ap (λ i. ((20 * train + 1) + 2 * leg) ∷ i ∷ []) two

train_ids : (train : ℕ) → event_ids (events_of_train train) ≡ range_with_len (1 + 20 * train) 20
unfolding events_of_train
train_ids train =
    numbers_joined (events_of_leg train) (λ row. row.id.0) (20 * train + 1) 2 (leg_ids train) 0 10
    ∙ (let first : (20 * train + 1) + 2 * 0 ≡ 1 + 20 * train = omega arith in ap (λ a. range_with_len a 20) first)

pub ids_are : (trains : ℕ) → event_ids (events_of trains) ≡ range_with_len 1 (20 * trains)
unfolding events_of
ids_are trains = numbers_joined events_of_train (λ row. row.id.0) 1 20 train_ids 0 trains

-- ---- what follows of ids that count up

-- none of them stands twice
pub counted_once : (ids : List ℕ) (a n : ℕ) → ids ≡ range_with_len a n → NoneStandsTwice ids
counted_once ids a n are id twice =
    let size : length ids ≡ n = ap length are ∙ length-range_with_len a n in
    let one = slice_get_within ids twice.first id twice.at_first in
    let two = slice_get_within ids twice.second id twice.at_second in
    let first : id ≡ a + twice.first =
    sym (get_or_from_slice_get ids twice.first id 0 twice.at_first) ∙ ap (λ xs. get_or xs twice.first 0) are
    ∙ get_or-range_with_len a n twice.first 0 (omega arith) in
    let second : id ≡ a + twice.second =
    sym (get_or_from_slice_get ids twice.second id 0 twice.at_second) ∙ ap (λ xs. get_or xs twice.second 0) are
    ∙ get_or-range_with_len a n twice.second 0 (omega arith) in
    omega (arith, twice.apart)

-- each number up to the count is the id of an event
pub has_event : (trains id : ℕ) → 1 ≤ id → id ≤ 20 * trains → (row : EventRow) × Contains (events_of trains) row × (row.id.0 ≡ id)
has_event trains id low high =
    let none : EventRow = departure 0 0 in
    let count = events_count trains in
    let within : id - 1 < length (events_of trains) = omega arith in (
      get_or (events_of trains) (id - 1) none,
      Contains-get_or (events_of trains) (id - 1) none within,
      sym (get_or-map (λ row. row.id.0) (events_of trains) (id - 1) none 0 within) ∙ ap (λ ids. get_or ids (id - 1) 0) (ids_are trains)
          ∙ get_or-range_with_len 1 (20 * trains) (id - 1) 0 (omega arith) ∙ omega arith,
    )

same_id : (a b : EventId) → a.0 ≡ b.0 → a ≡ b
same_id a b h = ap (λ n. record { 0 = n }) h

pub is_event : (events : List EventRow) (row : EventRow) (id : EventId) → Contains events row → row.id.0 ≡ id.0 → IsNoEvent events id → ⊥
is_event events row id there same none =
    none there.0 row (slice_get-get_or events there.0 row there.1 ∙ ap Some there.2) (same_id row.id id same)
