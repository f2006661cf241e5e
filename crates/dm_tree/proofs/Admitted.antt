-- Free choices without a cycle are refused for nothing, where the history has room.
use Rattle.std.proofs.Common.{◌≡◌, ℕ, zero, suc, ◌+◌, ◌<◌, ◌⊎◌, Bool, true, false, cond, ltb, eqb, List, [], ◌∷◌, ◌++◌, length, map, get_or, Option, Some, None, is_some, refl, ap, subst, ◌∙◌, arith, inl, inr, position, slice_get}
use Rattle.std.specs.Prelude.{All, IsSome, filter}
use Rattle.std.specs.List.{range_with_len, position_or_len}
use Rattle.std.specs.List.Sorted.{IsStrictlyIncreasing}
use Rattle.std.specs.Option.{IsSomeAnd}
use Rattle.std.proofs.lemmas.Bool.{both_ways, eq-eqb, ne_eqb, lt-ltb}
use Rattle.std.proofs.lemmas.List.{get_or-map, length-map}
use Rattle.std.proofs.lemmas.List.Sums.{position_or_len_is}
use Rattle.std.proofs.lemmas.Option.{slice_get-get_or}
use Rattle.dm_base.specs.declared.ids.EventId.{EventId}
use Rattle.dm_base.specs.declared.ids.ActId.{ActId}
use Rattle.dm_base.specs.declared.limits.TheConstants.{ENTRIES}
use Rattle.dm_network.specs.declared.parts.Event.{Event}
use Rattle.dm_network.specs.declared.parts.Activity.{Activity}
use Rattle.dm_network.specs.Net.{Net, event_at, activity_at, pair_at, event_place, activity_place, is_change, no_event, no_activity, no_pair}
use Rattle.dm_network.specs.Pairs.{joins, pair_place, IsPaired}
use Rattle.dm_network.specs.Start.{IsNetwork}
use Rattle.dm_network.specs.Inside.Flat.{ArePairsInOrder}
use Rattle.dm_network.proofs.Keys.{rises_between}
use Rattle.dm_network.proofs.PairKeys.{pair_is_found, joins_forward, joins_backward}
use Rattle.dm_rows.specs.declared.messages.Decision.{Decision}
use Rattle.dm_rows.specs.declared.messages.Decision.TheVariants.{Keep as KeepIt, Drop as DropIt, First as FirstOf}
use Rattle.dm_rows.specs.declared.messages.Choice.{Choice}
use Rattle.dm_rows.specs.declared.messages.Choice.TheVariants.{Change, Pair}
use Rattle.dm_rows.specs.declared.messages.Flip.TheVariants.{Keep as KeepFlip, Drop as DropFlip}
use Rattle.dm_rows.specs.declared.messages.Message.TheVariants.{Adopt}
use Rattle.dm_rows.specs.declared.messages.Refusal.{Refusal}
use Rattle.dm_rows.specs.declared.messages.Refusal.TheVariants.{UnknownEvent, UnknownActivity, UnknownChange, UnknownPair, Passed, Cancelled, Locked, Cycle, Full, OutOfMemory}
use Rattle.dm_rows.specs.Rows.{RowsValue, passed_at, is_cancelled, is_locked_change, is_locked_pair}
use Rattle.dm_rows.specs.Active.{has_cancelled_end, IsCycle, HasNoCycle}
use Rattle.dm_rows.specs.Resolve.{flip_named}
use Rattle.dm_rows.specs.Decide.{is_free_change, is_free_pair, change_choice, pair_choice, free_choices_of, choice_of, with_decisions}
use Rattle.dm_rows.specs.Refuse.{passed_time, HeadHasPassed, IsFirstCancelled, IsChangeAhead, HasCancelledEnd, NeitherHasPassed, PairSuchThat, RefusesChange, RefusesFirst, PassesDecision, PassesAtOnce, Refuses}
use Rattle.dm_rows.proofs.PairEnds.{small_is_event, large_is_event}
use Rattle.dm_rows.proofs.Setting.{adopt_sets_decisions}
use Rattle.dm_tree.specs.Plans.{AreSomeOf}
use Rattle.dm_tree.specs.Laws.{TruePlansAreAdmitted}
use Rattle.dm_tree.proofs.Freed.{free_change_is, ends_run, free_pair_is}
use Rattle.dm_rows.proofs.Freeness.{IsFreePair, IsChoiceAt, range_within, pair_is_named, at_some, Stands, then_some, some_mapped}

-- ---- what stands in lists

chosen_stands : (allowed chosen : List Choice) → AreSomeOf allowed chosen → (k : ℕ) (c : Choice) → slice_get chosen k ≡ Some c → Stands allowed c
chosen_stands [] chosen e k c at = absurd (let none : slice_get chosen k ≡ None = ap (λ (xs : List Choice). slice_get xs k) e in cc)
chosen_stands (a ∷ allowed) [] h k c at = absurd (cc)
chosen_stands (a ∷ allowed) (b ∷ chosen) (inl h) zero c at = (0, ap Some h.0 ∙ at)
chosen_stands (a ∷ allowed) (b ∷ chosen) (inl h) (suc k) c at =
    let there = chosen_stands allowed chosen h.1 k c at in (suc there.0, there.1)
chosen_stands (a ∷ allowed) (b ∷ chosen) (inr h) k c at =
    let there = chosen_stands allowed (b ∷ chosen) h k c at in (suc there.0, there.1)

stands_in_either : {X : Type 0} (xs ys : List X) (x : X) → (i : ℕ) → slice_get (xs ++ ys) i ≡ Some x → Stands xs x ⊎ Stands ys x
stands_in_either [] ys x i at = inr (i, at)
stands_in_either (z ∷ xs) ys x zero at = inl (0, at)
stands_in_either (z ∷ xs) ys x (suc i) at =
    elim (stands_in_either xs ys x i at) [ inl s ↦ inl (suc s.0, s.1) | inr s ↦ inr s ]

listed_at : (test : ℕ → Bool) (choice : ℕ → Choice) (n : ℕ) (c : Choice) (ps : List ℕ) → ((j p : ℕ) → slice_get ps j ≡ Some p → p < n)
    → (i : ℕ) → slice_get (map choice (filter test ps)) i ≡ Some c → IsChoiceAt test choice n c
listed_at test choice n c [] below i at = absurd (cc)
listed_at test choice n c (p ∷ ps) below i at =
    elim (test p) as (λ b. test p ≡ b → slice_get (map choice (cond b (p ∷ filter test ps) (filter test ps))) i ≡ Some c → IsChoiceAt test choice n c) [
      | true ↦ λ passes here. first_or_later test choice n c p ps (below 0 p refl) passes (λ j there. listed_at test choice n c ps (λ k q. below (suc k) q) j there) i here
      | false ↦ λ fails there. listed_at test choice n c ps (λ k q. below (suc k) q) i there
    ] refl at
  where
    first_or_later : (test : ℕ → Bool) (choice : ℕ → Choice) (n : ℕ) (c : Choice) (p : ℕ) (ps : List ℕ) → p < n → test p ≡ true
        → ((j : ℕ) → slice_get (map choice (filter test ps)) j ≡ Some c → IsChoiceAt test choice n c)
        → (i : ℕ) → slice_get (choice p ∷ map choice (filter test ps)) i ≡ Some c → IsChoiceAt test choice n c
    first_or_later test choice n c p ps below passes later zero at = record { place = p; below = below; passes = passes; is_choice = cc }
    first_or_later test choice n c p ps below passes later (suc i) at = later i at

-- a free choice is that of a free change or of a free pair
free_at : (net : Net) (rows : RowsValue) (c : Choice) → Stands (free_choices_of net rows) c
    → IsChoiceAt (is_free_change net rows) (change_choice net) (length net.activities) c ⊎ IsChoiceAt (is_free_pair net rows) (pair_choice net) (length net.pairs) c
free_at net rows c s =
    elim (stands_in_either (map (change_choice net) (filter (is_free_change net rows) (range_with_len 0 (length net.activities)))) (map (pair_choice net) (filter (is_free_pair net rows) (range_with_len 0 (length net.pairs)))) c s.0 s.1) [
      | inl t ↦ inl (listed_at (is_free_change net rows) (change_choice net) (length net.activities) c (range_with_len 0 (length net.activities)) (λ j p at. let b : p < 0 + length net.activities = range_within 0 (length net.activities) j p at in omega arith) t.0 t.1)
      | inr t ↦ inr (listed_at (is_free_pair net rows) (pair_choice net) (length net.pairs) c (range_with_len 0 (length net.pairs)) (λ j p at. let b : p < 0 + length net.pairs = range_within 0 (length net.pairs) j p at in omega arith) t.0 t.1)
    ]

-- ---- places by id

key_is_found : {X : Type 0} (key : X → ℕ) (xs : List X) (d : X) → IsStrictlyIncreasing (map key xs) → (i n : ℕ) → i < length xs → key (get_or xs i d) ≡ n
    → position (λ x. eqb (key x) n) xs ≡ Some i
key_is_found key xs d rises i n within is =
    let at : position_or_len (λ x. eqb (key x) n) xs ≡ i =
    position_or_len_is (λ x. eqb (key x) n) xs i d (omega arith)
    (λ j lt. ne_eqb (key (get_or xs j d)) n (λ same.
    let less : get_or (map key xs) j 0 < get_or (map key xs) i 0 = rises_between (map key xs) rises j i lt (rw length-map within) in
    let one : get_or (map key xs) j 0 ≡ key (get_or xs j d) = get_or-map key xs j d 0 (omega arith) in
    let other : get_or (map key xs) i 0 ≡ key (get_or xs i d) = get_or-map key xs i d 0 within in
    omega arith))
    (λ _. eq-eqb (key (get_or xs i d)) n is) in
    rw (at, lt-ltb i (length xs) within) refl

event_is_found : (net : Net) → IsNetwork net → (i : ℕ) (e : EventId) → i < length net.events → (event_at net i).id ≡ e → event_place net e ≡ Some i
event_is_found net network i e within is = key_is_found (λ (x : Event). x.id.0) net.events no_event network.formed.events_ascend i e.0 within (ap (λ (x : EventId). x.0) is)

activity_is_found : (net : Net) → IsNetwork net → (a : ℕ) (id : ActId) → a < length net.activities → (activity_at net a).id ≡ id → activity_place net id ≡ Some a
activity_is_found net network a id within is = key_is_found (λ (x : Activity). x.id.0) net.activities no_activity network.formed.activities_ascend a id.0 within (ap (λ (x : ActId). x.0) is)

-- ---- changes

-- the id is that of a change whose head has not passed, whose ends are not cancelled, and that is not locked
record IsFreeChange (net : Net) (rows : RowsValue) (id : ActId) : Type 0 where
  place : ℕ
  found : activity_place net id ≡ Some place
  change : is_change (activity_at net place).kind ≡ true
  not_passed : passed_at rows (activity_at net place).head ≡ None
  runs : has_cancelled_end net rows place ≡ false
  unlocked : is_locked_change rows place ≡ false

none_from : (o : Option ℕ) → is_some o ≡ false → o ≡ None
none_from None h = refl
none_from (Some x) h = absurd (cc)

free_change : (net : Net) (rows : RowsValue) → IsNetwork net → (id : ActId) → Stands (free_choices_of net rows) (Change id) → IsFreeChange net rows id
free_change net rows network id s =
    elim (free_at net rows (Change id) s) [
      | inl c ↦
          let free = free_change_is net rows c.place c.passes in
          let e : Change (activity_at net c.place).id ≡ Change id = c.is_choice in
          let is : (activity_at net c.place).id ≡ id = cc in
          record {
            place = c.place;
            found = activity_is_found net network c.place id c.below is;
            change = free.change;
            not_passed = none_from (passed_at rows (activity_at net c.place).head) free.ahead;
            runs = free.runs;
            unlocked = free.unlocked;
          }
      | inr c ↦
          let e : Pair (event_at net (pair_at net c.place).small).id (event_at net (pair_at net c.place).large).id ≡ Change id = c.is_choice in
          absurd (cc)
    ]

-- of two events that run neither is the first that is cancelled
none_cancelled : (net : Net) (rows : RowsValue) (x y : ℕ) (e : EventId) → is_cancelled rows x ≡ false → is_cancelled rows y ≡ false →
    IsFirstCancelled net rows x y e → ⊥
none_cancelled net rows x y e one other h =
    elim h [
      | inl l ↦ both_ways (is_cancelled rows x) one l.0
      | inr r ↦ both_ways (is_cancelled rows y) other r.1
    ]

change_passes : (net : Net) (rows : RowsValue) (id : ActId) → IsFreeChange net rows id → (r : Refusal) → RefusesChange net rows id r → ⊥
change_passes net rows id f (UnknownActivity u) h = let found = f.found in let none = h.0 in cc
change_passes net rows id f (UnknownChange u) h =
    let change = f.change in
    let other = at_some (activity_place net id) f.place (λ x. is_change (activity_at net x).kind ≡ false) f.found h.0 in cc
change_passes net rows id f (Passed e t) h =
    let not_passed = f.not_passed in
    let other = at_some (activity_place net id) f.place (λ x. (is_change (activity_at net x).kind ≡ true) × HeadHasPassed net rows x e t) f.found h in
    let passed = other.1.1 in cc
change_passes net rows id f (Cancelled e) h =
    let ends = ends_run net rows f.place f.runs in
    let other = at_some (activity_place net id) f.place (λ x. IsChangeAhead net rows x × HasCancelledEnd net rows x e) f.found h in
    none_cancelled net rows (activity_at net f.place).tail (activity_at net f.place).head e ends.0 ends.1 other.1
change_passes net rows id f (Locked c) h =
    let other = at_some (activity_place net id) f.place
    (λ x. IsChangeAhead net rows x × (has_cancelled_end net rows x ≡ false) × (is_locked_change rows x ≡ true)) f.found h.0 in
    both_ways (is_locked_change rows f.place) f.unlocked other.2
change_passes net rows id f _ h = h

-- ---- pairs

in_order : (net : Net) → IsPaired net → ArePairsInOrder net.pairs
in_order net paired = record { smaller_first = paired.smaller_first; ascending = paired.ascending }

-- the ids are those of two places at which these ids stand, and the places are those of a pair
free_from : (net : Net) (rows : RowsValue) (i j k l : EventId) (one other place : ℕ) → k ≡ i → l ≡ j → event_place net k ≡ Some one →
    event_place net l ≡ Some other → pair_place net one other ≡ Some place → passed_at rows one ≡ None → passed_at rows other ≡ None →
    is_cancelled rows one ≡ false → is_cancelled rows other ≡ false → is_locked_pair rows place ≡ false → IsFreePair net rows i j
free_from net rows i j k l one other place ki lj one_found other_found found one_not other_not one_runs other_runs unlocked =
    record {
      one = one;
      other = other;
      place = place;
      one_found = subst (λ (x : EventId). event_place net x ≡ Some one) ki one_found;
      other_found = subst (λ (x : EventId). event_place net x ≡ Some other) lj other_found;
      found = found;
      one_not_passed = one_not;
      other_not_passed = other_not;
      one_runs = one_runs;
      other_runs = other_runs;
      not_locked = unlocked;
    }

-- either order of the events
free_pair_either : (net : Net) (rows : RowsValue) → IsNetwork net → (i j k l : EventId) → Stands (free_choices_of net rows) (Pair k l)
    → ((k ≡ i) × (l ≡ j)) ⊎ ((k ≡ j) × (l ≡ i)) → IsFreePair net rows i j
free_pair_either net rows network i j k l s either =
    elim (free_at net rows (Pair k l) s) [
      | inl c ↦ let e : Change (activity_at net c.place).id ≡ Pair k l = c.is_choice in absurd (cc)
      | inr c ↦
          let small : ℕ = (pair_at net c.place).small in
          let large : ℕ = (pair_at net c.place).large in
          let free = free_pair_is net rows c.place c.passes in
          let small_not = none_from (passed_at rows small) free.small_ahead in
          let large_not = none_from (passed_at rows large) free.large_ahead in
          let e : Pair (event_at net small).id (event_at net large).id ≡ Pair k l = c.is_choice in
          let small_is : (event_at net small).id ≡ k = cc in
          let large_is : (event_at net large).id ≡ l = cc in
          let small_found : event_place net k ≡ Some small = event_is_found net network small k (small_is_event net network c.place c.below) small_is in
          let large_found : event_place net l ≡ Some large = event_is_found net network large l (large_is_event net network c.place c.below) large_is in
          let order : small < large = network.formed.is_paired.smaller_first c.place c.below in
          let pairs : ArePairsInOrder net.pairs = in_order net network.formed.is_paired in
          elim either [
            | inl b ↦
                free_from net rows i j k l small large c.place b.0 b.1 small_found large_found
                (pair_is_found net.pairs pairs (λ q. joins q small large) small large (joins_forward small large (omega arith)) c.place no_pair c.below refl refl)
                small_not large_not free.small_runs free.large_runs free.unlocked
            | inr b ↦
                free_from net rows i j l k large small c.place b.1 b.0 large_found small_found
                (pair_is_found net.pairs pairs (λ q. joins q large small) small large (joins_backward small large (omega arith)) c.place no_pair c.below refl refl)
                large_not small_not free.large_runs free.small_runs free.unlocked
          ]
    ]

free_pair : (net : Net) (rows : RowsValue) → IsNetwork net → (i j : EventId) → Stands (free_choices_of net rows) (choice_of (FirstOf i j)) → IsFreePair net rows i j
free_pair net rows network i j s =
    elim (ltb i.0 j.0) as (λ b. Stands (free_choices_of net rows) (cond b (Pair i j) (Pair j i)) → IsFreePair net rows i j) [
      | true ↦ λ t. free_pair_either net rows network i j i j t (inl (refl, refl))
      | false ↦ λ t. free_pair_either net rows network i j j i t (inr (refl, refl))
    ] s

-- what is so of the pair that the ids name, and of its events
of_named : (net : Net) (rows : RowsValue) (i j : EventId) (P : ℕ → ℕ → ℕ → Type 0) → (f : IsFreePair net rows i j) → PairSuchThat net i j P →
    P f.place f.one f.other
of_named net rows i j P f h =
    at_some (pair_place net f.one f.other) f.place (λ p. P p f.one f.other) f.found
    (at_some (event_place net j) f.other (λ y. IsSomeAnd (pair_place net f.one y) (λ p. P p f.one y)) f.other_found
    (at_some (event_place net i) f.one (λ x. IsSomeAnd (event_place net j) (λ y. IsSomeAnd (pair_place net x y) (λ p. P p x y))) f.one_found h))

first_passes : (net : Net) (rows : RowsValue) (i j : EventId) → IsFreePair net rows i j → (r : Refusal) → RefusesFirst net rows i j r → ⊥
first_passes net rows i j f (UnknownEvent u) h =
    let one = f.one_found in
    let other = f.other_found in
    elim h [ inl a ↦ let none = a.0 in cc | inr b ↦ let none = b.1 in cc ]
first_passes net rows i j f (UnknownPair u v) h = let named = pair_is_named net rows i j f in let none = h.2 in cc
first_passes net rows i j f (Passed e t) h =
    let one : passed_time net rows i ≡ None = then_some (passed_at rows) (event_place net i) f.one f.one_found ∙ f.one_not_passed in
    let other : passed_time net rows j ≡ None = then_some (passed_at rows) (event_place net j) f.other f.other_found ∙ f.other_not_passed in
    elim h.1 [ inl a ↦ let some = a.0 in cc | inr b ↦ let some = b.1 in cc ]
first_passes net rows i j f (Cancelled e) h =
    let there = of_named net rows i j (λ p x y. NeitherHasPassed rows x y × IsFirstCancelled net rows x y e) f h in
    none_cancelled net rows f.one f.other e f.one_runs f.other_runs there.1
first_passes net rows i j f (Locked c) h =
    let there = of_named net rows i j
    (λ p x y. NeitherHasPassed rows x y × (is_cancelled rows x ≡ false) × (is_cancelled rows y ≡ false) × (is_locked_pair rows p ≡ true)) f h.0 in
    both_ways (is_locked_pair rows f.place) f.not_locked there.3
first_passes net rows i j f _ h = h

-- ---- decisions

module _ (net : Net) (rows : RowsValue) (network : IsNetwork net) where
  free_is_named : (d : Decision) → Stands (free_choices_of net rows) (choice_of d) → IsSome (flip_named net d)
  free_is_named (KeepIt a) s = let f = free_change net rows network a s in some_mapped (λ x. KeepFlip x) (activity_place net a) f.place f.found
  free_is_named (DropIt a) s = let f = free_change net rows network a s in some_mapped (λ x. DropFlip x) (activity_place net a) f.place f.found
  free_is_named (FirstOf i j) s =
      let f = free_pair net rows network i j s in
      rw (f.one_found, f.other_found, f.found) refl

  free_passes : (d : Decision) → Stands (free_choices_of net rows) (choice_of d) → PassesDecision net rows d
  free_passes (KeepIt a) s = change_passes net rows a (free_change net rows network a s)
  free_passes (DropIt a) s = change_passes net rows a (free_change net rows network a s)
  free_passes (FirstOf i j) s = first_passes net rows i j (free_pair net rows network i j s)

  module _ (ds : List Decision) (free : AreSomeOf (free_choices_of net rows) (map choice_of ds)) where
    decides_free : (k : ℕ) (d : Decision) → slice_get ds k ≡ Some d → Stands (free_choices_of net rows) (choice_of d)
    decides_free k d at =
        chosen_stands (free_choices_of net rows) (map choice_of ds) free k (choice_of d) (mapped_at ds k d at)
      where
        mapped_at : (xs : List Decision) (k : ℕ) (d : Decision) → slice_get xs k ≡ Some d → slice_get (map choice_of xs) k ≡ Some (choice_of d)
        mapped_at [] k d at = absurd (cc)
        mapped_at (x ∷ xs) zero d at = ap (λ (y : Decision). Some (choice_of y)) (let same : x ≡ d = cc in same)
        mapped_at (x ∷ xs) (suc k) d at = mapped_at xs k d at

    all_named : All (λ d. IsSome (flip_named net d)) ds
    all_named k d lt = free_is_named (get_or ds k d) (decides_free k (get_or ds k d) (slice_get-get_or ds k d lt))

    none_at_once : PassesAtOnce net rows (Adopt ds)
    none_at_once r h = free_passes h.decision (decides_free h.at h.decision h.stands) r h.refused

    -- an `Adopt` of free choices that leave no cycle is refused for nothing, below the limit of entries
    pub free_choices_are_admitted : (n : ℕ) → n < ENTRIES → HasNoCycle net (with_decisions net rows ds) → (r : Refusal) → Refuses net rows n (Adopt ds) r → ⊥
    free_choices_are_admitted n room no_cycle (Cycle ids) h =
        no_cycle h.2.places (subst (λ (after_all : RowsValue). IsCycle net after_all h.2.places) (adopt_sets_decisions net rows ds all_named) h.2.is_cycle)
    free_choices_are_admitted n room no_cycle (Full k) h = let full = h.2 in omega arith
    free_choices_are_admitted n room no_cycle OutOfMemory h = h
    free_choices_are_admitted n room no_cycle r h = none_at_once r h

pub true_plans_are_admitted : TruePlansAreAdmitted
true_plans_are_admitted net rows penalty budget n plan network room is =
    free_choices_are_admitted net rows network plan.choices is.choices n room is.cost.no_cycle
