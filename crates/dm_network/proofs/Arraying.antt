-- Events by stop, and what binds at the start.
use Rattle.std.proofs.Common.{◌≡◌, ℕ, zero, suc, ◌+◌, ◌<◌, Bool, eqb, List, [], ◌∷◌, ◌++◌, length, map, filter, get_or, refl, sym, ap, ◌∙◌, subst, inl, inr, arith, Some, None, Option}
use Rattle.std.specs.List.{All, range_with_len}
use Rattle.std.specs.List.Sorted.{IsNonDecreasing, ties}
use Rattle.std.specs.Ordering.{nat_cmp, is_lt}
use Rattle.std.proofs.lemmas.Bool.{cases_order, cases_Bool, lt-ltb, le-ltb, eq-eqb, ne_eqb}
use Rattle.std.proofs.lemmas.List.{length-map}
use Rattle.std.proofs.lemmas.List.Sorted.{All-permutation}
use Rattle.std.proofs.lemmas.List.FromFn.{map-range_with_len_more}
use Rattle.std.proofs.lemmas.List.Elements.{All-map, All-head, All-tail, filter_agree}
use Rattle.dm_base.specs.declared.ids.StopId.{StopId}
use Rattle.dm_network.specs.declared.parts.Event.{Event}
use Rattle.dm_network.specs.declared.arrays.Standing.{Standing}
use Rattle.dm_network.specs.Net.{Net, no_event, no_activity, activity_at}
use Rattle.dm_network.specs.Start.{binds_at_start, is_start_active}
use Rattle.dm_network.specs.Inside.Stages.{standing_at, AreSortedByStop, AreStopsOf, StandBeside, net_with}
use Rattle.dm_network.specs.declared.parts.Pair.{Pair}
use Rattle.dm_network.specs.declared.arrays.Arrays.{Arrays}
use Rattle.dm_network.specs.declared.parts.Activity.{Activity}
use Rattle.dm_network.specs.Inside.Flat.{IsAdjacency, row_of}

-- the order of the sort ties exactly what has one stop
ties_are_one_stop : (stop : ℕ) (s : Standing) →
    ties (λ (x y : Standing). is_lt (nat_cmp x.stop.0 y.stop.0)) (record { stop = record { 0 = stop }; place = 0 }) s ≡ eqb s.stop.0 stop
ties_are_one_stop stop s =
    elim (cases_order stop s.stop.0) [
      | inl same ↦
          let a = le-ltb stop s.stop.0 (omega arith) in
          let b = le-ltb s.stop.0 stop (omega arith) in
          let c = eq-eqb stop s.stop.0 same in
          let d = eq-eqb s.stop.0 stop (sym same) in
          rw (a, b, c, d) refl
      | inr (inl less) ↦
          let a = lt-ltb stop s.stop.0 less in
          let d = ne_eqb s.stop.0 stop (λ e. omega arith) in
          rw (a, d) refl
      | inr (inr more) ↦
          let a = le-ltb stop s.stop.0 (omega arith) in
          let b = lt-ltb s.stop.0 stop more in
          let c = ne_eqb stop s.stop.0 (λ e. omega arith) in
          let d = ne_eqb s.stop.0 stop (λ e. omega arith) in
          rw (a, b, c, d) refl
    ]

pub stable_by_stop : (xs ys : List Standing) →
    ((x : Standing) → filter (ties (λ (x y : Standing). is_lt (nat_cmp x.stop.0 y.stop.0)) x) ys ≡ filter (ties (λ (x y : Standing). is_lt (nat_cmp x.stop.0 y.stop.0)) x) xs) →
    (stop : ℕ) → filter (λ s. eqb s.stop.0 stop) ys ≡ filter (λ s. eqb s.stop.0 stop) xs
stable_by_stop xs ys stable stop =
    sym (filter_agree (ties (λ (x y : Standing). is_lt (nat_cmp x.stop.0 y.stop.0)) (record { stop = record { 0 = stop }; place = 0 })) (λ s. eqb s.stop.0 stop) (ties_are_one_stop stop) ys)
    ∙ stable (record { stop = record { 0 = stop }; place = 0 })
    ∙ filter_agree (ties (λ (x y : Standing). is_lt (nat_cmp x.stop.0 y.stop.0)) (record { stop = record { 0 = stop }; place = 0 })) (λ s. eqb s.stop.0 stop) (ties_are_one_stop stop) xs

module _ (events : List Event) where
  -- a standing tells the stop of the event at its place
  abbrev pub Tells : Standing → Type 0
  Tells s = s.stop ≡ (get_or events s.place no_event).stop

  standings_tell : (xs : List ℕ) → All Tells (map (standing_at events) xs)
  standings_tell xs = All-map Tells (standing_at events) xs (λ k d lt. refl)

  stops_beside : (sorted : List Standing) → All Tells sorted →
      map (λ stop. stop.0) (map (λ s. s.stop) sorted) ≡ map (λ i. (get_or events i no_event).stop.0) (map (λ s. s.place) sorted)
  stops_beside [] all = refl
  stops_beside (s ∷ sorted) all =
      let e : s.stop.0 ≡ (get_or events s.place no_event).stop.0 = ap (λ x. x.0) (All-head Tells s sorted all) in
      rw (e, stops_beside sorted (All-tail Tells s sorted all)) refl

  stops_alone : (sorted : List Standing) → map (λ stop. stop.0) (map (λ s. s.stop) sorted) ≡ map (λ s. s.stop.0) sorted
  stops_alone [] = refl
  stops_alone (s ∷ sorted) = ap (λ xs. s.stop.0 ∷ xs) (stops_alone sorted)

  places_with : (stop : ℕ) (sorted : List Standing) → All Tells sorted →
      filter (λ i. eqb (get_or events i no_event).stop.0 stop) (map (λ s. s.place) sorted) ≡ map (λ s. s.place) (filter (λ s. eqb s.stop.0 stop) sorted)
  places_with stop [] all = refl
  places_with stop (s ∷ sorted) all =
      let e : (get_or events s.place no_event).stop.0 ≡ s.stop.0 = sym (ap (λ x. x.0) (All-head Tells s sorted all)) in
      elim (cases_Bool (eqb s.stop.0 stop)) [
        | inl pass ↦ rw (e, pass) (ap (λ xs. s.place ∷ xs) (places_with stop sorted (All-tail Tells s sorted all)))
        | inr fail ↦ rw (e, fail) (places_with stop sorted (All-tail Tells s sorted all))
      ]

  places_of_standings : (stop : ℕ) (xs : List ℕ) →
      map (λ s. s.place) (filter (λ s. eqb s.stop.0 stop) (map (standing_at events) xs)) ≡ filter (λ i. eqb (get_or events i no_event).stop.0 stop) xs
  places_of_standings stop [] = refl
  places_of_standings stop (i ∷ xs) =
      elim (cases_Bool (eqb (get_or events i no_event).stop.0 stop)) [
        | inl pass ↦ rw pass (ap (λ ys. i ∷ ys) (places_of_standings stop xs))
        | inr fail ↦ rw fail (places_of_standings stop xs)
      ]

  pub stops_are_sorted : (standings sorted : List Standing) (stops : List StopId) (places : List ℕ) →
      standings ≡ map (standing_at events) (range_with_len 0 (length events)) → AreSortedByStop standings sorted →
      stops ≡ map (λ s. s.stop) sorted → places ≡ map (λ s. s.place) sorted → AreStopsOf events stops places
  stops_are_sorted standings sorted stops places is by stops_is places_is =
      let tells : All Tells sorted = All-permutation Tells standings sorted by.same
      (subst (λ xs. All Tells xs) (sym is) (standings_tell (range_with_len 0 (length events)))) in
      rw (stops_is, places_is) (record {
        stops_are = stops_beside sorted tells;
        ascending = subst (λ xs. IsNonDecreasing xs) (sym (stops_alone sorted)) by.ascending;
        lists = λ stop.
            places_with stop.0 sorted tells
            ∙ ap (λ xs. map (λ s. s.place) xs) (by.stable stop.0)
            ∙ ap (λ xs. map (λ s. s.place) (filter (λ s. eqb s.stop.0 stop.0) xs)) is
            ∙ places_of_standings stop.0 (range_with_len 0 (length events));
      })

-- what binds depends on events and pairs alone
pub binds_same : (net : Net) (pair : Option ℕ) (tail : ℕ) →
    binds_at_start (record { events = net.events; activities = []; pairs = net.pairs }) pair tail ≡ binds_at_start net pair tail
binds_same net None tail = refl
binds_same net (Some p) tail = refl

pub held_more : (net : Net) (i : ℕ) (held : List Bool) (b : Bool) → held ≡ map (is_start_active net) (range_with_len 0 i) →
    b ≡ binds_at_start (record { events = net.events; activities = []; pairs = net.pairs }) (activity_at net i).pair (activity_at net i).tail →
    held ++ b ∷ [] ≡ map (is_start_active net) (range_with_len 0 (i + 1))
held_more net i held b is e =
    let f : b ≡ is_start_active net i = e ∙ binds_same net (activity_at net i).pair (activity_at net i).tail in
    ap (λ xs. xs ++ b ∷ []) is ∙ ap (λ x. map (is_start_active net) (range_with_len 0 i) ++ x ∷ []) f
    ∙ sym (map-range_with_len_more (is_start_active net) 0 i i (omega arith))

-- a look-up in mapped numbers, where what is past the end is 0 on both sides
pub look_up_mapped : (f : Activity → ℕ) → f no_activity ≡ 0 → (xs : List Activity) (a : ℕ) → get_or (map f xs) a 0 ≡ f (get_or xs a no_activity)
look_up_mapped f z [] a = sym z
look_up_mapped f z (x ∷ xs) zero = refl
look_up_mapped f z (x ∷ xs) (suc a) = look_up_mapped f z xs a

-- rows by mapped ends are rows by those ends
pub rows_of_mapped : (f : Activity → ℕ) → f no_activity ≡ 0 → (activities : List Activity) (ends : List ℕ) → ends ≡ map f activities → (count : ℕ) (offsets places : List ℕ) →
    IsAdjacency (row_of (λ a. get_or ends a 0) (length ends)) count offsets places →
    IsAdjacency (λ i. filter (λ a. eqb (f (get_or activities a no_activity)) i) (range_with_len 0 (length activities))) count offsets places
rows_of_mapped f z activities ends is count offsets places rows = record {
  offset_count = rows.offset_count;
  rises = rows.rises;
  within = rows.within;
  row = λ i lt.
      rows.row i lt
      ∙ filter_agree (λ a. eqb (get_or ends a 0) i) (λ a. eqb (f (get_or activities a no_activity)) i)
      (λ a. ap (λ x. eqb x i) (ap (λ xs. get_or xs a 0) is ∙ look_up_mapped f z activities a)) (range_with_len 0 (length ends))
      ∙ ap (λ n. filter (λ a. eqb (f (get_or activities a no_activity)) i) (range_with_len 0 n)) (ap length is ∙ length-map activities f);
}

pub mapped_ends_known : (f : Activity → ℕ) (events : ℕ) (activities : List Activity) (ends : List ℕ) → f no_activity ≡ 0 → ends ≡ map f activities →
    ((a : ℕ) → a < length activities → f (get_or activities a no_activity) < events) →
    (a : ℕ) → a < length ends → get_or ends a 0 < events
mapped_ends_known f events activities ends z is known a lt =
    let n : length ends ≡ length activities = ap length is ∙ length-map activities f in
    let e : get_or ends a 0 ≡ f (get_or activities a no_activity) = ap (λ xs. get_or xs a 0) is ∙ look_up_mapped f z activities a in
    let k = known a (omega arith) in
    omega arith

-- the arrays depend on events and activities alone
pub stand_beside_same : (events : List Event) (activities : List Activity) (pairs : List Pair) (arrays : Arrays) →
    StandBeside (net_with events activities []) arrays → StandBeside (net_with events activities pairs) arrays
stand_beside_same events activities pairs arrays h = record {
  rows_in = record { offset_count = h.rows_in.offset_count; rises = h.rows_in.rises; within = h.rows_in.within; row = h.rows_in.row };
  rows_out = record { offset_count = h.rows_out.offset_count; rises = h.rows_out.rises; within = h.rows_out.within; row = h.rows_out.row };
  tails_are = h.tails_are;
  at_stops = record { stops_are = h.at_stops.stops_are; ascending = h.at_stops.ascending; lists = h.at_stops.lists };
}
