-- Records answer in one way only: with one network, or with one fault, but for which cycle is shown.
use Rattle.std.proofs.Common.{◌≡◌, ◌≢◌, ℕ, ◌<◌, List, length, map, Some, refl, sym, ap, subst, ◌∙◌, inl, inr, arith, slice_get}
use Rattle.std.specs.List.{Contains}
use Rattle.std.specs.List.Sorted.{IsStrictlyIncreasing, IsPermutation}
use Rattle.std.proofs.lemmas.Bool.{cases_order}
use Rattle.std.proofs.lemmas.List.{length-map, get_or-map}
use Rattle.std.proofs.lemmas.List.Sorted.{Contains-permutation, IsPermutation-sym, IsPermutation-map}
use Rattle.std.proofs.lemmas.Option.{slice_get-get_or, get_or_from_slice_get, slice_get_within}
use Rattle.dm_base.specs.declared.ids.EventId.{EventId}
use Rattle.dm_base.specs.declared.ids.ActId.{ActId}
use Rattle.dm_base.specs.declared.rows.EventRow.{EventRow}
use Rattle.dm_base.specs.declared.rows.ActRow.{ActRow}
use Rattle.dm_network.specs.declared.parts.NetFault.{NetFault}
use Rattle.dm_network.specs.declared.parts.NetFault.TheVariants.{TooMany, DoubleEvent, DoubleActivity, UnknownEvent, ZeroHeadway, Cycle, OutOfMemory}
use Rattle.dm_network.specs.Net.{Net, event_at, activity_at, no_event, no_activity}
use Rattle.dm_network.specs.Build.{event_row, activity_row, event_ids, activity_ids, IsMadeOf, NoneStandsTwice, IsLeastDouble, IsNoEvent, NamesNoEvent, IsZeroHeadway, IsFirst, HoldsOfNone, AreFew, RefusesRecords, IsBuiltFrom}
use Rattle.dm_network.specs.Start.{IsStartCycle}
use Rattle.dm_network.proofs.Keys.{rises_between}
use Rattle.dm_network.proofs.Doubles.{NoneStandsTwice-permutation}
use Rattle.dm_input.specs.Order.{SameFault}
use Rattle.dm_input.proofs.OneNetwork.{one_network, event_ids as ids_of_events, activity_ids as ids_of_activities}

-- ---- what holds of records that make a network

rising_once : (ids : List ℕ) → IsStrictlyIncreasing ids → NoneStandsTwice ids
rising_once ids up id t =
    let lt = rises_between ids up t.first t.second t.apart (slice_get_within ids t.second id t.at_second) in
    let a = get_or_from_slice_get ids t.first id 0 t.at_first in
    let b = get_or_from_slice_get ids t.second id 0 t.at_second in
    omega arith

-- an element of one list, in a permutation of it
moved : {X : Type 0} (xs ys : List X) (k : ℕ) (x : X) → IsPermutation xs ys → slice_get xs k ≡ Some x → Contains ys x
moved xs ys k x p at = Contains-permutation xs ys x p (k, slice_get_within xs k x at, get_or_from_slice_get xs k x x at)

module _ (events : List EventRow) (activities : List ActRow) (net : Net) (made : IsMadeOf events activities net) where
  once_events : NoneStandsTwice (event_ids events)
  once_events =
      NoneStandsTwice-permutation (event_ids events) (map (λ row. row.id.0) (map event_row net.events)) (IsPermutation-map (λ row. row.id.0) events (map event_row net.events) made.same_events)
      (rising_once (map (λ row. row.id.0) (map event_row net.events)) (subst IsStrictlyIncreasing (sym (ids_of_events net.events)) made.formed.events_ascend))

  once_activities : NoneStandsTwice (activity_ids activities)
  once_activities =
      NoneStandsTwice-permutation (activity_ids activities) (map (λ row. row.id.0) (map (activity_row net) net.activities)) (IsPermutation-map (λ row. row.id.0) activities (map (activity_row net) net.activities) made.same_activities)
      (rising_once (map (λ row. row.id.0) (map (activity_row net) net.activities)) (subst IsStrictlyIncreasing (sym (ids_of_activities net net.activities)) made.formed.activities_ascend))

  -- a record is that of an activity of the network
  record Stands (row : ActRow) : Type 0 where
    place : ℕ
    within : place < length net.activities
    is : row ≡ activity_row net (activity_at net place)

  stands : (k : ℕ) (row : ActRow) → slice_get activities k ≡ Some row → Stands row
  stands k row at =
      let c = moved activities (map (activity_row net) net.activities) k row made.same_activities at in
      let lt : c.0 < length net.activities = (let size = length-map net.activities (activity_row net) in let below = c.1 in omega arith) in
      record { place = c.0; within = lt; is = sym c.2 ∙ get_or-map (activity_row net) net.activities c.0 no_activity row lt }

  known_event : (i : ℕ) → i < length net.events → IsNoEvent events (event_at net i).id → ⊥
  known_event i lt none =
      let row = event_row (event_at net i) in
      let at : slice_get (map event_row net.events) i ≡ Some row =
      slice_get-get_or (map event_row net.events) i row (let size = length-map net.events event_row in omega arith)
      ∙ ap Some (get_or-map event_row net.events i no_event row lt) in
      let c = moved (map event_row net.events) events i row (IsPermutation-sym events (map event_row net.events) made.same_events) at in
      none c.0 row (slice_get-get_or events c.0 row c.1 ∙ ap Some c.2) refl

  known : HoldsOfNone (NamesNoEvent events) activities
  known k row at names =
      let s = stands k row at in
      elim names [
        | inl none ↦ known_event (activity_at net s.place).tail (made.formed.ends_are_known.tails s.place s.within) (subst (λ (r : ActRow). IsNoEvent events r.tail) s.is none)
        | inr none ↦ known_event (activity_at net s.place).head (made.formed.ends_are_known.heads s.place s.within) (subst (λ (r : ActRow). IsNoEvent events r.head) s.is none)
      ]

  apart : HoldsOfNone IsZeroHeadway activities
  apart k row at zero_headway =
      let s = stands k row at in
      let z : IsZeroHeadway (activity_row net (activity_at net s.place)) = subst IsZeroHeadway s.is zero_headway in
      let bound = made.formed.headways_are_apart s.place s.within z.0 in
      let nothing = z.1 in
      omega arith

-- ---- one fault

one_least : (ids : List ℕ) (m n : ℕ) → IsLeastDouble ids m → IsLeastDouble ids n → m ≡ n
one_least ids m n p q =
    let le = p.least n q.twice in
    let ge = q.least m p.twice in
    omega arith

one_event : (ids : List ℕ) (i j : EventId) → IsLeastDouble ids i.0 → IsLeastDouble ids j.0 → i ≡ j
one_event ids i j p q = ap (λ (n : ℕ). let id : EventId = record { 0 = n } in id) (one_least ids i.0 j.0 p q)

one_activity : (ids : List ℕ) (i j : ActId) → IsLeastDouble ids i.0 → IsLeastDouble ids j.0 → i ≡ j
one_activity ids i j p q = ap (λ (n : ℕ). let id : ActId = record { 0 = n } in id) (one_least ids i.0 j.0 p q)

some_is : {X : Type 0} (x y : X) → Some x ≡ Some y → x ≡ y
some_is x y e = cc

one_first : (P : ActRow → Type 0) (activities : List ActRow) (i j : ActId) → IsFirst P activities i → IsFirst P activities j → i ≡ j
one_first P activities i j p q =
    elim (cases_order p.place q.place) [
      | inl same ↦
          let row : p.row ≡ q.row = some_is p.row q.row (sym p.at_place ∙ (ap (slice_get activities) same ∙ q.at_place)) in
          p.named ∙ (ap (λ r. r.id) row ∙ sym q.named)
      | inr (inl less) ↦ absurd (q.none_before p.place p.row less p.at_place p.holds)
      | inr (inr more) ↦ absurd (p.none_before q.place q.row more q.at_place q.holds)
    ]

module _ (events : List EventRow) (activities : List ActRow) where
  too_many : RefusesRecords events activities TooMany → AreFew events activities → ⊥
  too_many (inl many) few = let le = few.few_events in omega arith
  too_many (inr many) few = let le = few.few_activities in omega arith

  first_holds : (P : ActRow → Type 0) (id : ActId) → IsFirst P activities id → HoldsOfNone P activities → ⊥
  first_holds P id f none = none f.place f.row f.at_place f.holds

  -- two faults of the same records are one, but for which cycle is shown
  pub one_fault : (f g : NetFault) → RefusesRecords events activities f → RefusesRecords events activities g → f ≢ OutOfMemory → g ≢ OutOfMemory → SameFault f g
  one_fault TooMany TooMany r s nr ns = refl
  one_fault TooMany (DoubleEvent j) r s nr ns = absurd (too_many r (s.0))
  one_fault TooMany (DoubleActivity j) r s nr ns = absurd (too_many r (s.0))
  one_fault TooMany (UnknownEvent j) r s nr ns = absurd (too_many r (s.0))
  one_fault TooMany (ZeroHeadway j) r s nr ns = absurd (too_many r (s.0))
  one_fault TooMany (Cycle js) r s nr ns = absurd (too_many r (s.0))
  one_fault TooMany OutOfMemory r s nr ns = absurd (ns refl)
  one_fault (DoubleEvent i) TooMany r s nr ns = absurd (too_many s (r.0))
  one_fault (DoubleEvent i) (DoubleEvent j) r s nr ns = ap DoubleEvent (one_event (event_ids events) i j r.1 s.1)
  one_fault (DoubleEvent i) (DoubleActivity j) r s nr ns = absurd ((s.1) i.0 r.1.twice)
  one_fault (DoubleEvent i) (UnknownEvent j) r s nr ns = absurd ((s.1) i.0 r.1.twice)
  one_fault (DoubleEvent i) (ZeroHeadway j) r s nr ns = absurd ((s.1) i.0 r.1.twice)
  one_fault (DoubleEvent i) (Cycle js) r s nr ns = absurd ((once_events events activities s.1.net s.1.made) i.0 r.1.twice)
  one_fault (DoubleEvent i) OutOfMemory r s nr ns = absurd (ns refl)
  one_fault (DoubleActivity i) TooMany r s nr ns = absurd (too_many s (r.0))
  one_fault (DoubleActivity i) (DoubleEvent j) r s nr ns = absurd ((r.1) j.0 s.1.twice)
  one_fault (DoubleActivity i) (DoubleActivity j) r s nr ns = ap DoubleActivity (one_activity (activity_ids activities) i j r.2 s.2)
  one_fault (DoubleActivity i) (UnknownEvent j) r s nr ns = absurd ((s.2) i.0 r.2.twice)
  one_fault (DoubleActivity i) (ZeroHeadway j) r s nr ns = absurd ((s.2) i.0 r.2.twice)
  one_fault (DoubleActivity i) (Cycle js) r s nr ns = absurd ((once_activities events activities s.1.net s.1.made) i.0 r.2.twice)
  one_fault (DoubleActivity i) OutOfMemory r s nr ns = absurd (ns refl)
  one_fault (UnknownEvent i) TooMany r s nr ns = absurd (too_many s (r.0))
  one_fault (UnknownEvent i) (DoubleEvent j) r s nr ns = absurd ((r.1) j.0 s.1.twice)
  one_fault (UnknownEvent i) (DoubleActivity j) r s nr ns = absurd ((r.2) j.0 s.2.twice)
  one_fault (UnknownEvent i) (UnknownEvent j) r s nr ns = ap UnknownEvent (one_first (NamesNoEvent events) activities i j r.3 s.3)
  one_fault (UnknownEvent i) (ZeroHeadway j) r s nr ns = absurd (first_holds (NamesNoEvent events) i r.3 (s.3))
  one_fault (UnknownEvent i) (Cycle js) r s nr ns = absurd (first_holds (NamesNoEvent events) i r.3 (known events activities s.1.net s.1.made))
  one_fault (UnknownEvent i) OutOfMemory r s nr ns = absurd (ns refl)
  one_fault (ZeroHeadway i) TooMany r s nr ns = absurd (too_many s (r.0))
  one_fault (ZeroHeadway i) (DoubleEvent j) r s nr ns = absurd ((r.1) j.0 s.1.twice)
  one_fault (ZeroHeadway i) (DoubleActivity j) r s nr ns = absurd ((r.2) j.0 s.2.twice)
  one_fault (ZeroHeadway i) (UnknownEvent j) r s nr ns = absurd (first_holds (NamesNoEvent events) j s.3 (r.3))
  one_fault (ZeroHeadway i) (ZeroHeadway j) r s nr ns = ap ZeroHeadway (one_first IsZeroHeadway activities i j r.4 s.4)
  one_fault (ZeroHeadway i) (Cycle js) r s nr ns = absurd (first_holds IsZeroHeadway i r.4 (apart events activities s.1.net s.1.made))
  one_fault (ZeroHeadway i) OutOfMemory r s nr ns = absurd (ns refl)
  one_fault (Cycle is) TooMany r s nr ns = absurd (too_many s (r.0))
  one_fault (Cycle is) (DoubleEvent j) r s nr ns = absurd ((once_events events activities r.1.net r.1.made) j.0 s.1.twice)
  one_fault (Cycle is) (DoubleActivity j) r s nr ns = absurd ((once_activities events activities r.1.net r.1.made) j.0 s.2.twice)
  one_fault (Cycle is) (UnknownEvent j) r s nr ns = absurd (first_holds (NamesNoEvent events) j s.3 (known events activities r.1.net r.1.made))
  one_fault (Cycle is) (ZeroHeadway j) r s nr ns = absurd (first_holds IsZeroHeadway j s.4 (apart events activities r.1.net r.1.made))
  one_fault (Cycle is) (Cycle js) r s nr ns = tt
  one_fault (Cycle is) OutOfMemory r s nr ns = absurd (ns refl)
  one_fault OutOfMemory TooMany r s nr ns = absurd (nr refl)
  one_fault OutOfMemory (DoubleEvent j) r s nr ns = absurd (nr refl)
  one_fault OutOfMemory (DoubleActivity j) r s nr ns = absurd (nr refl)
  one_fault OutOfMemory (UnknownEvent j) r s nr ns = absurd (nr refl)
  one_fault OutOfMemory (ZeroHeadway j) r s nr ns = absurd (nr refl)
  one_fault OutOfMemory (Cycle js) r s nr ns = absurd (nr refl)
  one_fault OutOfMemory OutOfMemory r s nr ns = absurd (nr refl)

  -- records that make a network are not refused
  pub not_both : (fault : NetFault) → RefusesRecords events activities fault → (net : Net) → IsBuiltFrom events activities net → fault ≢ OutOfMemory → ⊥
  not_both TooMany r net built nr = too_many r (built.few)
  not_both (DoubleEvent i) r net built nr = (once_events events activities net built.made) i.0 r.1.twice
  not_both (DoubleActivity i) r net built nr = (once_activities events activities net built.made) i.0 r.2.twice
  not_both (UnknownEvent i) r net built nr = first_holds (NamesNoEvent events) i r.3 (known events activities net built.made)
  not_both (ZeroHeadway i) r net built nr = first_holds IsZeroHeadway i r.4 (apart events activities net built.made)
  not_both (Cycle is) r net built nr = built.network.no_start_cycle r.1.shown.places (subst (λ (n : Net). IsStartCycle n r.1.shown.places) (one_network events activities r.1.net net r.1.made built.made) r.1.shown.is_cycle)
  not_both OutOfMemory r net built nr = absurd (nr refl)
