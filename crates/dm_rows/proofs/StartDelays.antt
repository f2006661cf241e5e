-- Delays set by one record after another.
use Rattle.std.proofs.Common.{◌≡◌, ℕ, ◌+◌, ◌<◌, ◌≤◌, List, [], ◌∷◌, ◌++◌, length, map, take, get_or, set, Option, Some, None, true, false, eqb, cond, arith, refl, sym, ap, ◌∙◌, subst, inl, inr, position}
use Rattle.std.specs.Prelude.{slice_get, IsSome}
use Rattle.std.specs.List.{range_with_len}
use Rattle.std.specs.List.Sorted.{IsStrictlyIncreasing}
use Rattle.std.proofs.Math.Seq.{take-length}
use Rattle.std.proofs.lemmas.Bool.{cases_lt, cases_eq, eqb-true, eq-eqb, ne_eqb}
use Rattle.std.proofs.lemmas.Grind.{same_number_lists}
use Rattle.std.proofs.lemmas.List.{get_or-set_same, get_or-set_other, length-set}
use Rattle.std.proofs.lemmas.List.FromFn.{map-range_with_len_more, get_or-map-range_with_len, length-map-range_with_len}
use Rattle.std.proofs.lemmas.List.Quantifiers.{position-Some}
use Rattle.std.proofs.lemmas.List.Sums.{fold_more}
use Rattle.std.proofs.lemmas.Option.{slice_get-get_or, slice_get_within}
use Rattle.dm_base.specs.declared.rows.DelayRow.{DelayRow}
use Rattle.dm_network.specs.declared.parts.Event.{Event}
use Rattle.dm_network.specs.declared.parts.Activity.{Activity}
use Rattle.dm_network.specs.Net.{Net, no_event, no_activity}
use Rattle.dm_network.specs.Start.{IsNetwork}
use Rattle.dm_network.proofs.Keys.{key_is_found}
use Rattle.dm_base.specs.declared.limits.TheConstants.{DELAY}
use Rattle.dm_rows.specs.declared.starting.Delayed.{Delayed}
use Rattle.dm_rows.specs.declared.starting.Delayed.TheVariants.{Events, Activities}
use Rattle.dm_rows.specs.Rows.{last_delay}
use Rattle.dm_rows.specs.Inside.Delays.{AreDelaysOf, count_of, number_of, place_numbered, unknown, RefusesDelays}
use Rattle.dm_rows.specs.StartFaults.{AreKnown, AllAreKnown, DelaysAreWithin, IsFirstUnknown}

-- the first n records are known, and each delay is by the last of them with its id
pub record HasSetDelays (count : ℕ) (number : ℕ → ℕ) (place : ℕ → Option ℕ) (records : List DelayRow) (n : ℕ) (delays : List ℕ) : Type 0 where
  pub size : length delays ≡ count
  pub each : (i : ℕ) → i < count → get_or delays i 0 ≡ last_delay (take n records) (number i)
  pub known : AreKnown place records n
  pub within : (i : ℕ) → get_or delays i 0 ≤ DELAY

-- an id is that of one place alone
pub record IsPlaceOf (count : ℕ) (number : ℕ → ℕ) (id i : ℕ) : Type 0 where
  pub below : i < count
  pub named : number i ≡ id
  pub alone : (j : ℕ) → j < count → number j ≡ id → j ≡ i

last_delay_more : (records : List DelayRow) (n id : ℕ) (row : DelayRow) → n < length records → row ≡ get_or records n row →
    last_delay (take (n + 1) records) id ≡ cond (eqb row.id id) row.delay (last_delay (take n records) id)
last_delay_more records n id row below is =
    fold_more (λ delay r. cond (eqb r.id id) r.delay delay) 0 records n row below
    ∙ ap (λ r. cond (eqb r.id id) r.delay (last_delay (take n records) id)) (sym is)

each_more : (delays : List ℕ) (count i delay id before j numbered : ℕ) → length delays ≡ count → i < count →
    get_or delays j 0 ≡ before → (j ≡ i → numbered ≡ id) → (numbered ≡ id → j ≡ i) →
    get_or (set delays i delay) j 0 ≡ cond (eqb id numbered) delay before
each_more delays count i delay id before j numbered size below was to from =
    elim (cases_eq j i) [
      | inl same ↦
          let at : get_or (set delays i delay) j 0 ≡ delay =
          subst (λ (k : ℕ). get_or (set delays i delay) k 0 ≡ delay) (sym same) (get_or-set_same delays i delay 0 (omega arith)) in
          let e : eqb id numbered ≡ true = eq-eqb id numbered (sym (to same)) in
          at ∙ sym (ap (λ b. cond b delay before) e)
      | inr other ↦
          let at : get_or (set delays i delay) j 0 ≡ get_or delays j 0 = get_or-set_other delays i j delay 0 other in
          let e : eqb id numbered ≡ false = ne_eqb id numbered (λ s. other (from (sym s))) in
          at ∙ was ∙ sym (ap (λ b. cond b delay before) e)
    ]

is_some_at : (o : Option ℕ) (i : ℕ) → o ≡ Some i → IsSome o
is_some_at o i e = rw e refl

same_row : (records : List DelayRow) (n : ℕ) (row other : DelayRow) → n < length records → row ≡ get_or records n row →
    slice_get records n ≡ Some other → row ≡ other
same_row records n row other below is stands =
    let e : slice_get records n ≡ Some (get_or records n row) = slice_get-get_or records n row below in cc

pub one_more_delay : (count : ℕ) (number : ℕ → ℕ) (place : ℕ → Option ℕ) (records : List DelayRow) (n : ℕ) (delays : List ℕ) (row : DelayRow) (i : ℕ) →
    DelaysAreWithin records → HasSetDelays count number place records n delays → n < length records → row ≡ get_or records n row →
    place row.id ≡ Some i → IsPlaceOf count number row.id i →
    HasSetDelays count number place records (n + 1) (set delays i row.delay)
one_more_delay count number place records n delays row i limits had below is found only =
    record {
      size = length-set delays i row.delay ∙ had.size;
      each = λ j lt.
          each_more delays count i row.delay row.id (last_delay (take n records) (number j)) j (number j) had.size only.below (had.each j lt)
          (λ same. ap number same ∙ only.named) (λ named. only.alone j lt named)
          ∙ sym (last_delay_more records n (number j) row below is);
      known = λ k other lt stands.
          elim (cases_lt k n) [
            | inl before ↦ had.known k other before stands
            | inr past ↦
                let here : k ≡ n = omega arith in
                let e : row ≡ other = same_row records n row other below is (subst (λ (m : ℕ). slice_get records m ≡ Some other) here stands) in
                subst (λ (r : DelayRow). IsSome (place r.id)) e (is_some_at (place row.id) i found)
          ];
      within = λ j.
          elim (cases_eq j i) [
            | inl same ↦
                let at : get_or (set delays i row.delay) j 0 ≡ row.delay =
                subst (λ (k : ℕ). get_or (set delays i row.delay) k 0 ≡ row.delay) (sym same)
                (get_or-set_same delays i row.delay 0 (let s = had.size in let b = only.below in omega arith)) in
                let small : row.delay ≤ DELAY = limits n row (slice_get-get_or records n row below ∙ ap Some (sym is)) in
                omega arith
            | inr other ↦
                let at : get_or (set delays i row.delay) j 0 ≡ get_or delays j 0 = get_or-set_other delays i j row.delay 0 other in
                let was = had.within j in
                omega arith
          ];
    }

pub all_delays : (count : ℕ) (number : ℕ → ℕ) (place : ℕ → Option ℕ) (records : List DelayRow) (n : ℕ) (delays : List ℕ) →
    n ≡ length records → HasSetDelays count number place records n delays → AreDelaysOf count number records delays
all_delays count number place records n delays all had =
    record {
      are = same_number_lists delays (map (λ i. last_delay records (number i)) (range_with_len 0 count))
          (had.size ∙ sym (length-map-range_with_len (λ i. last_delay records (number i)) 0 count))
          (λ k lt.
          let below : k < count = (let s = had.size in omega arith) in
          had.each k below
          ∙ ap (λ rs. last_delay rs (number k)) (ap (λ m. take m records) all ∙ take-length records)
          ∙ sym (get_or-map-range_with_len (λ i. last_delay records (number i)) 0 count k k 0 below (omega arith)));
      within = had.within;
    }

pub all_known : (count : ℕ) (number : ℕ → ℕ) (place : ℕ → Option ℕ) (records : List DelayRow) (n : ℕ) (delays : List ℕ) →
    n ≡ length records → HasSetDelays count number place records n delays → AllAreKnown place records
all_known count number place records n delays all had k row stands =
    had.known k row (let lt : k < length records = slice_get_within records k row stands in omega arith) stands

-- a number that a look-up finds is that of one item alone, where the numbers ascend
number_alone : {X : Type 0} (number : X → ℕ) (items : List X) (none : X) → IsStrictlyIncreasing (map number items) → (id i : ℕ) →
    position (λ x. eqb (number x) id) items ≡ Some i → IsPlaceOf (length items) (λ k. number (get_or items k none)) id i
number_alone number items none ascend id i found =
    let at = position-Some (λ x. eqb (number x) id) items i none found in
    record {
      below = at.0;
      named = eqb-true (number (get_or items i none)) id at.1;
      alone = λ j lt named. let there = key_is_found number items ascend id j none lt named in cc;
    }

-- an id is that of one event, of one activity alone
pub delayed_alone : (net : Net) → IsNetwork net → (delayed : Delayed) (id i : ℕ) → place_numbered net delayed id ≡ Some i →
    IsPlaceOf (count_of net delayed) (number_of net delayed) id i
delayed_alone net network Events id i found =
    number_alone (λ (e : Event). e.id.0) net.events no_event network.formed.events_ascend id i found
delayed_alone net network Activities id i found =
    number_alone (λ (a : Activity). a.id.0) net.activities no_activity network.formed.activities_ascend id i found

-- the first record that names none is what refuses the records
first_refuses : (net : Net) (delayed : Delayed) (records : List DelayRow) (id : ℕ) → IsFirstUnknown (place_numbered net delayed) records id →
    RefusesDelays net delayed records (unknown delayed id)
first_refuses net Events records id is = is
first_refuses net Activities records id is = is

-- a record that names none, where all before it are known, is the first
pub first_unknown : (net : Net) (delayed : Delayed) (records : List DelayRow) (n : ℕ) (row : DelayRow) → n < length records →
    row ≡ get_or records n row → place_numbered net delayed row.id ≡ None → AreKnown (place_numbered net delayed) records n →
    RefusesDelays net delayed records (unknown delayed row.id)
first_unknown net delayed records n row below is none known =
    first_refuses net delayed records row.id (record {
      at = n;
      row = row;
      stands = slice_get-get_or records n row below ∙ ap Some (sym is);
      named = refl;
      unknown = none;
      known_before = known;
    })

-- one more item of a list made place by place
pub one_more_item : {A : Type 0} (f : ℕ → A) (items : List A) (p : ℕ) (item : A) → items ≡ map f (range_with_len 0 p) → item ≡ f p →
    items ++ item ∷ [] ≡ map f (range_with_len 0 (p + 1))
one_more_item f items p item so_far is =
    rw (map-range_with_len_more f 0 p p (omega arith)) (let e : items ≡ map f (range_with_len 0 p) = so_far in cc)
