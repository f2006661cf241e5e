-- The network of sorted events, of activities with their pairs, and of pairs.
use Rattle.std.proofs.Common.{◌≡◌, ℕ, ◌<◌, ◌≤◌, true, List, [], ◌∷◌, length, map, get_or, refl, sym, ap, ◌∙◌, subst, inl, inr, arith, Some, None, Option, IsSome, slice_get, IsPermutation, Contains}
use Rattle.std.specs.List.Sorted.{IsStrictlyIncreasing}
use Rattle.std.proofs.lemmas.Bool.{cases_order, cases_lt}
use Rattle.std.proofs.lemmas.Option.{slice_get_within, slice_get-get_or, get_or_from_slice_get}
use Rattle.std.proofs.lemmas.List.{get_or-map, length-map, get_or_past}
use Rattle.std.proofs.lemmas.List.Elements.{Contains-get_or}
use Rattle.std.proofs.lemmas.List.Quantifiers.{position-Some}
use Rattle.std.proofs.lemmas.List.Sorted.{IsPermutation-sym, Contains-permutation, length_permutation}
use Rattle.dm_base.specs.declared.ids.EventId.{EventId}
use Rattle.dm_base.specs.declared.rows.EventRow.{EventRow}
use Rattle.dm_base.specs.declared.rows.ActRow.{ActRow}
use Rattle.dm_base.specs.declared.limits.TheConstants.{TIME, BOUND, WEIGHT}
use Rattle.dm_network.specs.declared.parts.Event.{Event}
use Rattle.dm_network.specs.declared.parts.Activity.{Activity}
use Rattle.dm_network.specs.declared.parts.Pair.{Pair}
use Rattle.dm_network.specs.declared.parts.NetFault.{NetFault}
use Rattle.dm_network.specs.declared.parts.NetFault.TheVariants.{TooMany, DoubleEvent, DoubleActivity, UnknownEvent, ZeroHeadway, Cycle, OutOfMemory}
use Rattle.dm_network.specs.Net.{no_event, no_activity, no_pair, is_headway, IsWithinLimits}
use Rattle.dm_network.specs.Pairs.{joins, pair_place, own_pair, IsHeadwayFrom, FormPair, IsPaired}
use Rattle.dm_network.specs.Build.{AreWithinLimits, AreFew, IsMadeOf, event_row, activity_row, IsNoEvent, NamesNoEvent, RefusesRecords}
use Rattle.dm_network.specs.Inside.Flat.{ArePairsInOrder}
use Rattle.dm_network.specs.Inside.Stages.{row_with, net_with, with_pair, HasHeadway, IsHeadwayAmong, AreTwoWay, AreEventsOf, AreActivitiesOf, RefusesActivities}
use Rattle.dm_network.proofs.PairKeys.{joins-true, joins-from}
use Rattle.dm_network.proofs.Resolving.{position_is_some}

rows_kept : (events : List Event) (paired : List Activity) (pairs : List Pair) (activities : List Activity) →
    map (activity_row (net_with events paired pairs)) (map (with_pair pairs) activities) ≡ map (row_with events) activities
rows_kept events paired pairs [] = refl
rows_kept events paired pairs (a ∷ activities) = ap (λ rows. row_with events a ∷ rows) (rows_kept events paired pairs activities)

ids_kept : (pairs : List Pair) (activities : List Activity) → map (λ a. a.id.0) (map (with_pair pairs) activities) ≡ map (λ a. a.id.0) activities
ids_kept pairs [] = refl
ids_kept pairs (a ∷ activities) = ap (λ ids. a.id.0 ∷ ids) (ids_kept pairs activities)

is_some_from : {X : Type 0} (o : Option X) → (o ≡ None → ⊥) → IsSome o
is_some_from None h = absurd (h refl)
is_some_from (Some x) h = refl

some_is : {X : Type 0} (o : Option X) → IsSome o → (x : X) × (o ≡ Some x)
some_is None h = cc
some_is (Some x) h = (x, refl)

module _ (events : List Event) (activities : List Activity) (pairs : List Pair) (paired : List Activity)
    (is : paired ≡ map (with_pair pairs) activities) (in_order : ArePairsInOrder pairs) (two_way : AreTwoWay activities pairs) where
  many : length paired ≡ length activities
  many = ap length is ∙ length-map activities (with_pair pairs)

  at : (a : ℕ) → a < length activities → get_or paired a no_activity ≡ with_pair pairs (get_or activities a no_activity)
  at a lt = ap (λ xs. get_or xs a no_activity) is ∙ get_or-map (with_pair pairs) activities a no_activity no_activity lt

  headway_from : (i j a : ℕ) → IsHeadwayAmong activities i j a → IsHeadwayFrom (net_with events paired pairs) i j a
  headway_from i j a h =
      let e = at a h.is_activity in
      let lt = h.is_activity in
      let n = many in
      record {
        is_activity = omega arith;
        headway = ap (λ x. is_headway x.kind) e ∙ h.headway;
        tail = ap (λ x. x.tail) e ∙ h.tail;
        head = ap (λ x. x.head) e ∙ h.head;
      }

  headway_among : (i j a : ℕ) → IsHeadwayFrom (net_with events paired pairs) i j a → IsHeadwayAmong activities i j a
  headway_among i j a h =
      let lt = h.is_activity in
      let n = many in
      let in' : a < length activities = omega arith in
      let e = at a in' in
      record {
        is_activity = in';
        headway = sym (ap (λ x. is_headway x.kind) e) ∙ h.headway;
        tail = sym (ap (λ x. x.tail) e) ∙ h.tail;
        head = sym (ap (λ x. x.head) e) ∙ h.head;
      }

  -- the pair of two events among whom headways lead both ways stands in the list
  placed : (i j : ℕ) → i < j → HasHeadway activities i j → HasHeadway activities j i → Contains pairs (record { small = i; large = j })
  placed i j lt u d = (two_way (record { small = i; large = j })).1 (lt, u, d)

  found : (i j : ℕ) (p : Pair) → Contains pairs p → joins p i j ≡ true → IsSome (pair_place (net_with events paired pairs) i j)
  found i j p c h =
      is_some_from (pair_place (net_with events paired pairs) i j)
      (position_is_some (λ q. joins q i j) pairs c.0 p c.1 (ap (λ q. joins q i j) c.2 ∙ h))

  exact_to : (i j : ℕ) → IsSome (pair_place (net_with events paired pairs) i j) → FormPair (net_with events paired pairs) i j
  exact_to i j h =
      let s = some_is (pair_place (net_with events paired pairs) i j) h in
      let q = position-Some (λ p. joins p i j) pairs s.0 no_pair s.1 in
      let p : Pair = get_or pairs s.0 no_pair in
      let t = (two_way (get_or pairs s.0 no_pair)).0 (Contains-get_or pairs s.0 no_pair q.0) in
      let lt = t.0 in
      elim (joins-true (get_or pairs s.0 no_pair) i j q.1) [
        | inl straight ↦
            let x = straight.0 in let y = straight.1 in
            let u : HasHeadway activities i j = subst (λ m. HasHeadway activities m j) x (subst (λ m. HasHeadway activities (get_or pairs s.0 no_pair).small m) y t.1) in
            let d : HasHeadway activities j i = subst (λ m. HasHeadway activities j m) x (subst (λ m. HasHeadway activities m (get_or pairs s.0 no_pair).small) y t.2) in
            ((λ same. omega arith), (u.0, headway_from i j u.0 u.1), (d.0, headway_from j i d.0 d.1))
        | inr turned ↦
            let x = turned.0 in let y = turned.1 in
            let u : HasHeadway activities j i = subst (λ m. HasHeadway activities m i) x (subst (λ m. HasHeadway activities (get_or pairs s.0 no_pair).small m) y t.1) in
            let d : HasHeadway activities i j = subst (λ m. HasHeadway activities i m) x (subst (λ m. HasHeadway activities m (get_or pairs s.0 no_pair).small) y t.2) in
            ((λ same. omega arith), (d.0, headway_from i j d.0 d.1), (u.0, headway_from j i u.0 u.1))
      ]

  exact_from : (i j : ℕ) → FormPair (net_with events paired pairs) i j → IsSome (pair_place (net_with events paired pairs) i j)
  exact_from i j (apart, u, d) =
      let u' : HasHeadway activities i j = (u.0, headway_among i j u.0 u.1) in
      let d' : HasHeadway activities j i = (d.0, headway_among j i d.0 d.1) in
      elim (cases_order i j) [
        | inl same ↦ absurd (apart same)
        | inr (inl less) ↦ found i j (record { small = i; large = j }) (placed i j less u' d') (joins-from (record { small = i; large = j }) i j (inl (refl, refl)))
        | inr (inr more) ↦ found i j (record { small = j; large = i }) (placed j i more d' u') (joins-from (record { small = j; large = i }) i j (inr (refl, refl)))
      ]

  belongs : (a : ℕ) → a < length paired → (get_or paired a no_activity).pair ≡ own_pair (net_with events paired pairs) (get_or paired a no_activity)
  belongs a lt =
      let n = many in
      subst (λ x. x.pair ≡ own_pair (net_with events paired pairs) x) (sym (at a (omega arith))) refl

  pub is_paired : IsPaired (net_with events paired pairs)
  is_paired = record {
    exact = λ i j. (exact_to i j, exact_from i j);
    smaller_first = in_order.smaller_first;
    ascending = in_order.ascending;
    belongs = belongs;
  }

  pub made : (event_rows : List EventRow) (rows : List ActRow) → AreEventsOf event_rows events → AreActivitiesOf events rows activities →
      IsMadeOf event_rows rows (net_with events paired pairs)
  made event_rows rows event_is act_is = record {
    same_events = event_is.same;
    same_activities = subst (λ xs. IsPermutation rows xs)
        (sym (ap (λ xs. map (activity_row (net_with events paired pairs)) xs) is ∙ rows_kept events paired pairs activities)) act_is.same;
    formed = record {
      events_ascend = event_is.ascend;
      activities_ascend = subst (λ ids. IsStrictlyIncreasing ids) (sym (ap (λ xs. map (λ a. a.id.0) xs) is ∙ ids_kept pairs activities)) act_is.ascend;
      ends_are_known = record {
        tails = λ a lt. let n = many in let e = ap (λ x. x.tail) (at a (omega arith)) in let k = (act_is.ends a no_activity (omega arith)).tail in omega arith;
        heads = λ a lt. let n = many in let e = ap (λ x. x.head) (at a (omega arith)) in let k = (act_is.ends a no_activity (omega arith)).head in omega arith;
      };
      headways_are_apart = λ a lt headway.
          let n = many in
          let e = at a (omega arith) in
          let k = act_is.apart a no_activity (omega arith) (sym (ap (λ x. is_headway x.kind) e) ∙ headway) in
          let l = ap (λ x. x.lower) e in
          omega arith;
      is_paired = is_paired;
    };
  }

-- what an element of a list was made of stands in the other list
stands : {X Y : Type 0} (f : X → Y) (rows : List Y) (xs : List X) → IsPermutation rows (map f xs) → (k : ℕ) (d : X) → k < length xs →
    (place : ℕ) × (slice_get rows place ≡ Some (f (get_or xs k d)))
stands f rows xs same k d lt =
    let in' : k < length (map f xs) = rw length-map lt in
    let e : get_or (map f xs) k (f (get_or xs k d)) ≡ f (get_or xs k d) = get_or-map f xs k d (f (get_or xs k d)) lt in
    let c = Contains-permutation (map f xs) rows (f (get_or xs k d)) (IsPermutation-sym rows (map f xs) same)
    (subst (λ r. Contains (map f xs) r) e (Contains-get_or (map f xs) k (f (get_or xs k d)) in')) in
    (c.0, slice_get-get_or rows c.0 (f (get_or xs k d)) c.1 ∙ ap Some c.2)

-- where a number of each record is at most a limit, so is that of each activity with its pair
paired_at_most : (events : List Event) (rows : List ActRow) (activities paired : List Activity) (pairs : List Pair) →
    IsPermutation rows (map (row_with events) activities) → paired ≡ map (with_pair pairs) activities →
    (number : Activity → ℕ) (of_row : ActRow → ℕ) → ((x : Activity) → number (with_pair pairs x) ≡ number x) →
    ((x : Activity) → of_row (row_with events x) ≡ number x) → (limit : ℕ) → number no_activity ≤ limit →
    ((place : ℕ) (row : ActRow) → slice_get rows place ≡ Some row → of_row row ≤ limit) → (a : ℕ) → number (get_or paired a no_activity) ≤ limit
paired_at_most events rows activities paired pairs same is number of_row same_paired same_row limit none within a =
    let size : length paired ≡ length activities = ap length is ∙ length-map activities (with_pair pairs) in
    elim (cases_lt a (length activities)) [
      | inl lt ↦
          let x : Activity = get_or activities a no_activity in
          let s = stands (row_with events) rows activities same a no_activity lt in
          let e : get_or paired a no_activity ≡ with_pair pairs x =
          ap (λ xs. get_or xs a no_activity) is ∙ get_or-map (with_pair pairs) activities a no_activity no_activity lt in
          let there : number (get_or paired a no_activity) ≡ number x = ap number e ∙ same_paired x in
          let row : of_row (row_with events x) ≡ number x = same_row x in
          let low : of_row (row_with events x) ≤ limit = within s.0 (row_with events x) s.1 in
          omega (arith, there, row, low)
      | inr past ↦ subst (λ x. number x ≤ limit) (sym (get_or_past paired a no_activity (omega arith))) none
    ]

pub limits : (event_rows : List EventRow) (rows : List ActRow) (events : List Event) (activities paired : List Activity) (pairs : List Pair) →
    AreEventsOf event_rows events → AreActivitiesOf events rows activities → paired ≡ map (with_pair pairs) activities →
    AreWithinLimits event_rows rows → AreFew event_rows rows → IsWithinLimits (net_with events paired pairs)
limits event_rows rows events activities paired pairs event_is act_is is within few =
    let event_count : length events ≡ length event_rows = sym (length-map events event_row) ∙ length_permutation event_rows (map event_row events) event_is.same in
    let act_count : length activities ≡ length rows = sym (length-map activities (row_with events)) ∙ length_permutation rows (map (row_with events) activities) act_is.same in
    let paired_count : length paired ≡ length activities = ap length is ∙ length-map activities (with_pair pairs) in
    let fe = few.few_events in
    let fa = few.few_activities in
    let at_most = paired_at_most events rows activities paired pairs act_is.same is in
    record {
      events = omega arith;
      activities = omega arith;
      times = λ i. elim (cases_lt i (length events)) [
        | inl lt ↦ let s = stands event_row event_rows events event_is.same i no_event lt in within.times s.0 (event_row (get_or events i no_event)) s.1
        | inr past ↦ subst (λ e. e.time ≤ TIME) (sym (get_or_past events i no_event past)) (omega arith)
      ];
      event_weights = λ i. elim (cases_lt i (length events)) [
        | inl lt ↦ let s = stands event_row event_rows events event_is.same i no_event lt in within.event_weights s.0 (event_row (get_or events i no_event)) s.1
        | inr past ↦ subst (λ e. e.weight ≤ WEIGHT) (sym (get_or_past events i no_event past)) (omega arith)
      ];
      bounds = at_most (λ x. x.lower) (λ row. row.lower) (λ x. refl) (λ x. refl) BOUND (omega arith) within.bounds;
      activity_weights = at_most (λ x. x.weight) (λ row. row.weight) (λ x. refl) (λ x. refl) WEIGHT (omega arith) within.activity_weights;
    }

no_event_through : (xs ys : List EventRow) → IsPermutation xs ys → (id : EventId) → IsNoEvent xs id → IsNoEvent ys id
no_event_through xs ys same id none k row here is =
    let c = Contains-permutation ys xs row (IsPermutation-sym xs ys same) (k, slice_get_within ys k row here, get_or_from_slice_get ys k row row here) in
    none c.0 row (slice_get-get_or xs c.0 row c.1 ∙ ap Some c.2) is

names_through : (xs ys : List EventRow) → IsPermutation xs ys → (row : ActRow) → NamesNoEvent xs row → NamesNoEvent ys row
names_through xs ys same row names =
    elim names [ inl tail ↦ inl (no_event_through xs ys same row.tail tail) | inr head ↦ inr (no_event_through xs ys same row.head head) ]

pub activities_refused : (event_rows : List EventRow) (rows : List ActRow) (events : List Event) (fault : NetFault) → AreFew event_rows rows →
    AreEventsOf event_rows events → RefusesActivities events rows fault → RefusesRecords event_rows rows fault
activities_refused event_rows rows events (DoubleActivity id) few is h = (few, is.once, h)
activities_refused event_rows rows events (UnknownEvent id) few is (once, first) = (
  few,
  is.once,
  once,
  record {
    place = first.place;
    row = first.row;
    at_place = first.at_place;
    holds = names_through (map event_row events) event_rows (IsPermutation-sym event_rows (map event_row events) is.same) first.row first.holds;
    named = first.named;
    none_before = λ k other lt here names. first.none_before k other lt here (names_through event_rows (map event_row events) is.same other names);
  },
)
activities_refused event_rows rows events (ZeroHeadway id) few is (once, none, first) =
    (few, is.once, once, (λ k row here names. none k row here (names_through event_rows (map event_row events) is.same row names)), first)
activities_refused event_rows rows events OutOfMemory few is h = tt
activities_refused event_rows rows events TooMany few is h = absurd h
activities_refused event_rows rows events (DoubleEvent id) few is h = absurd h
activities_refused event_rows rows events (Cycle ids) few is h = absurd h
