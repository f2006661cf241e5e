-- A choice is free exactly where nothing refuses its decisions at once.
use Rattle.std.proofs.Common.{◌≡◌, ℕ, zero, suc, ◌+◌, ◌<◌, ◌⊎◌, Bool, true, false, cond, not, ltb, eqb, List, [], ◌∷◌, length, map, get_or, Option, Some, None, is_some, refl, sym, ap, subst, ◌∙◌, arith, inl, inr, slice_get, lt-ltb}
use Rattle.std.specs.Prelude.{◌||◌, ◌&&◌, Contains, IsSome, filter}
use Rattle.std.specs.List.{range_with_len}
use Rattle.std.specs.Option.{IsSomeAnd, option_and_then, option_map}
use Rattle.std.proofs.lemmas.Bool.{cases_Bool, eqb-true, le-ltb}
use Rattle.std.proofs.lemmas.List.Elements.{Contains-append_left, Contains-append_right, Contains-append_cases}
use Rattle.std.proofs.lemmas.List.Folds.{list_any_at}
use Rattle.std.proofs.lemmas.List.FromFn.{length-range_with_len, get_or-range_with_len}
use Rattle.std.proofs.lemmas.List.Quantifiers.{position-Some}
use Rattle.std.proofs.lemmas.Map.Views.{Contains-from_any}
use Rattle.std.proofs.lemmas.Option.{slice_get-get_or, slice_get_within}
use Rattle.dm_base.specs.declared.ids.EventId.{EventId}
use Rattle.dm_base.specs.declared.ids.ActId.{ActId}
use Rattle.dm_network.specs.declared.parts.Event.{Event}
use Rattle.dm_network.specs.declared.parts.Activity.{Activity}
use Rattle.dm_network.specs.declared.parts.Pair.{Pair as PairOfEvents}
use Rattle.dm_network.specs.Net.{Net, event_at, activity_at, pair_at, event_place, activity_place, is_change, no_event, no_activity, no_pair}
use Rattle.dm_network.specs.Pairs.{joins, pair_place, IsPaired}
use Rattle.dm_network.specs.Start.{IsNetwork}
use Rattle.dm_network.specs.Inside.Flat.{ArePairsInOrder}
use Rattle.dm_network.proofs.Keys.{key_is_found, key_rises}
use Rattle.dm_network.proofs.PairKeys.{pair_is_found, joins_forward, joins_backward, joins-true}
use Rattle.dm_rows.specs.declared.messages.Decision.{Decision}
use Rattle.dm_rows.specs.declared.messages.Decision.TheVariants.{Keep as KeepIt, Drop as DropIt, First as FirstOf}
use Rattle.dm_rows.specs.declared.messages.Choice.{Choice}
use Rattle.dm_rows.specs.declared.messages.Choice.TheVariants.{Change, Pair}
use Rattle.dm_rows.specs.declared.messages.Flip.TheVariants.{Keep as KeepFlip, Drop as DropFlip}
use Rattle.dm_rows.specs.declared.messages.Refusal.{Refusal}
use Rattle.dm_rows.specs.declared.messages.Refusal.TheVariants.{UnknownEvent, UnknownActivity, UnknownChange, UnknownPair, Passed, Cancelled, Locked}
use Rattle.dm_rows.specs.Rows.{RowsValue, passed_at, is_cancelled, is_locked_change, is_locked_pair}
use Rattle.dm_rows.specs.Active.{has_passed, has_cancelled_end}
use Rattle.dm_rows.specs.Resolve.{named_pair, flip_named}
use Rattle.dm_rows.specs.Decide.{is_free_change, is_free_pair, change_choice, pair_choice, free_changes_of, free_pairs_of, free_choices_of, choice_of}
use Rattle.dm_rows.specs.Carry.{is_free_decision, free_among}
use Rattle.dm_rows.specs.Laws.{FreeWhereNothingRefuses}
use Rattle.dm_rows.specs.Relax.{is_same_choice}
use Rattle.dm_rows.specs.Sides.{sorted_choice}
use Rattle.dm_rows.specs.Refuse.{passed_time, HeadHasPassed, IsChangeAhead, HasCancelledEnd, IsFirstCancelled, NeitherHasPassed, PairSuchThat, RefusesChange, RefusesFirst, PassesDecision, RefusesDecision, RefusesNothing}
use Rattle.dm_rows.proofs.PairEnds.{small_is_event, large_is_event}
use Rattle.dm_rows.proofs.Sides.{act_id, event_id, same_choice, same_itself}

-- ---- what stands in lists

-- an element of a list
abbrev pub Stands : {X : Type 0} → List X → X → Type 0
Stands xs x = (i : ℕ) × (slice_get xs i ≡ Some x)

stands_where : {X : Type 0} (xs : List X) (x : X) → Contains xs x → Stands xs x
stands_where xs x c = (c.0, slice_get-get_or xs c.0 x c.1 ∙ ap Some c.2)

contains_where : {X : Type 0} (xs : List X) (x : X) → Stands xs x → Contains xs x
contains_where xs x s =
    let below : s.0 < length xs = slice_get_within xs s.0 x s.1 in
    let there : slice_get xs s.0 ≡ Some (get_or xs s.0 x) = slice_get-get_or xs s.0 x below in
    let at : slice_get xs s.0 ≡ Some x = s.1 in
    let is : get_or xs s.0 x ≡ x = cc in
    (s.0, below, is)

pub range_within : (a n j p : ℕ) → slice_get (range_with_len a n) j ≡ Some p → p < a + n
range_within a zero j p at = absurd (cc)
range_within a (suc n) zero p at = let here : a ≡ p = cc in omega arith
range_within a (suc n) (suc j) p at = let there : p < a + 1 + n = range_within (a + 1) n j p at in omega arith

range_stands : (n p : ℕ) → p < n → slice_get (range_with_len 0 n) p ≡ Some p
range_stands n p below =
    let size = length-range_with_len 0 n in
    let within : p < length (range_with_len 0 n) = omega arith in
    let at : get_or (range_with_len 0 n) p 0 ≡ 0 + p = get_or-range_with_len 0 n p 0 below in
    let e : 0 + p ≡ p = omega arith in
    slice_get-get_or (range_with_len 0 n) p 0 within ∙ ap Some (at ∙ e)

-- a choice that is listed is that of a place that passes
pub record IsChoiceAt (test : ℕ → Bool) (choice : ℕ → Choice) (n : ℕ) (c : Choice) : Type 0 where
  pub place : ℕ
  pub below : place < n
  pub passes : test place ≡ true
  pub is_choice : choice place ≡ c

first_or_later : (test : ℕ → Bool) (choice : ℕ → Choice) (n : ℕ) (c : Choice) (p : ℕ) (ps : List ℕ) → p < n → test p ≡ true →
    ((j : ℕ) → slice_get (map choice (filter test ps)) j ≡ Some c → IsChoiceAt test choice n c) →
    (i : ℕ) → slice_get (choice p ∷ map choice (filter test ps)) i ≡ Some c → IsChoiceAt test choice n c
first_or_later test choice n c p ps below passes later zero at = record { place = p; below = below; passes = passes; is_choice = cc }
first_or_later test choice n c p ps below passes later (suc i) at = later i at

listed_at : (test : ℕ → Bool) (choice : ℕ → Choice) (n : ℕ) (c : Choice) (ps : List ℕ) → ((j p : ℕ) → slice_get ps j ≡ Some p → p < n) →
    (i : ℕ) → slice_get (map choice (filter test ps)) i ≡ Some c → IsChoiceAt test choice n c
listed_at test choice n c [] below i at = absurd (cc)
listed_at test choice n c (p ∷ ps) below i at =
    elim (test p) as (λ b. test p ≡ b → slice_get (map choice (cond b (p ∷ filter test ps) (filter test ps))) i ≡ Some c → IsChoiceAt test choice n c) [
      | true ↦ λ passes here.
          first_or_later test choice n c p ps (below 0 p refl) passes (λ j there. listed_at test choice n c ps (λ k q. below (suc k) q) j there) i here
      | false ↦ λ fails there. listed_at test choice n c ps (λ k q. below (suc k) q) i there
    ] refl at

-- and each that passes is listed
kept_or_not : (b : Bool) (choice : ℕ → Choice) (q : ℕ) (rest : List ℕ) (c : Choice) → Stands (map choice rest) c →
    Stands (map choice (cond b (q ∷ rest) rest)) c
kept_or_not true choice q rest c s = (suc s.0, s.1)
kept_or_not false choice q rest c s = s

kept_here : (b : Bool) (choice : ℕ → Choice) (q p : ℕ) (rest : List ℕ) → b ≡ true → q ≡ p → Stands (map choice (cond b (q ∷ rest) rest)) (choice p)
kept_here true choice q p rest e same = (0, ap (λ (r : ℕ). Some (choice r)) same)
kept_here false choice q p rest e same = absurd (cc)

kept_stands : (test : ℕ → Bool) (choice : ℕ → Choice) (ps : List ℕ) (j p : ℕ) → slice_get ps j ≡ Some p → test p ≡ true →
    Stands (map choice (filter test ps)) (choice p)
kept_stands test choice [] j p at passes = absurd (cc)
kept_stands test choice (q ∷ ps) zero p at passes =
    let same : q ≡ p = cc in kept_here (test q) choice q p (filter test ps) (ap test same ∙ passes) same
kept_stands test choice (q ∷ ps) (suc j) p at passes =
    kept_or_not (test q) choice q (filter test ps) (choice p) (kept_stands test choice ps j p at passes)

listed_from : (test : ℕ → Bool) (choice : ℕ → Choice) (n p : ℕ) → p < n → test p ≡ true →
    Contains (map choice (filter test (range_with_len 0 n))) (choice p)
listed_from test choice n p below passes =
    contains_where (map choice (filter test (range_with_len 0 n))) (choice p)
    (kept_stands test choice (range_with_len 0 n) p p (range_stands n p below) passes)

chosen_at : (test : ℕ → Bool) (choice : ℕ → Choice) (n : ℕ) (c : Choice) → Contains (map choice (filter test (range_with_len 0 n))) c →
    IsChoiceAt test choice n c
chosen_at test choice n c contains =
    let s : Stands (map choice (filter test (range_with_len 0 n))) c = stands_where (map choice (filter test (range_with_len 0 n))) c contains in
    listed_at test choice n c (range_with_len 0 n) (λ j p at. let b : p < 0 + n = range_within 0 n j p at in omega arith) s.0 s.1

-- a free choice is that of a free change or of a free pair
free_at : (net : Net) (rows : RowsValue) (c : Choice) → Contains (free_choices_of net rows) c →
    IsChoiceAt (is_free_change net rows) (change_choice net) (length net.activities) c
    ⊎ IsChoiceAt (is_free_pair net rows) (pair_choice net) (length net.pairs) c
free_at net rows c contains =
    elim (Contains-append_cases (free_changes_of net rows) (free_pairs_of net rows) c contains) [
      | inl one ↦ inl (chosen_at (is_free_change net rows) (change_choice net) (length net.activities) c one)
      | inr one ↦ inr (chosen_at (is_free_pair net rows) (pair_choice net) (length net.pairs) c one)
    ]

-- ---- tests and options

four_parts : (change passed ends locked : Bool) → (change && not passed && not ends && not locked) ≡ true →
    (change ≡ true) × (passed ≡ false) × (ends ≡ false) × (locked ≡ false)
four_parts false passed ends locked h = cc
four_parts true true ends locked h = cc
four_parts true false true locked h = cc
four_parts true false false true h = cc
four_parts true false false false h = (refl, refl, refl, refl)

four_from : (change passed ends locked : Bool) → change ≡ true → passed ≡ false → ends ≡ false → locked ≡ false →
    (change && not passed && not ends && not locked) ≡ true
four_from change passed ends locked a b c d = rw (a, b, c, d) refl

five_parts : (p c q d l : Bool) → ((not p && not c) && (not q && not d) && not l) ≡ true →
    (p ≡ false) × (c ≡ false) × (q ≡ false) × (d ≡ false) × (l ≡ false)
five_parts true c q d l h = cc
five_parts false true q d l h = cc
five_parts false false true d l h = cc
five_parts false false false true l h = cc
five_parts false false false false true h = cc
five_parts false false false false false h = (refl, refl, refl, refl, refl)

five_from : (p c q d l : Bool) → p ≡ false → c ≡ false → q ≡ false → d ≡ false → l ≡ false →
    ((not p && not c) && (not q && not d) && not l) ≡ true
five_from p c q d l a b e f g = rw (a, b, e, f, g) refl

either_parts : (x y : Bool) → (x || y) ≡ false → (x ≡ false) × (y ≡ false)
either_parts true y h = cc
either_parts false y h = (refl, h)

either_from : (x y : Bool) → x ≡ false → y ≡ false → (x || y) ≡ false
either_from x y a b = rw (a, b) refl

none_from : {X : Type 0} (o : Option X) → is_some o ≡ false → o ≡ None
none_from None h = refl
none_from (Some x) h = absurd (cc)

none_or_some : {X : Type 0} (o : Option X) → (o ≡ None) ⊎ ((x : X) × (o ≡ Some x))
none_or_some None = inl refl
none_or_some (Some x) = inr (x, refl)

pub at_some : {X : Type 0} (o : Option X) (x : X) (P : X → Type 0) → o ≡ Some x → IsSomeAnd o P → P x
at_some None x P e h = absurd h
at_some (Some y) x P e h = subst P (let same : y ≡ x = cc in same) h

some_at : {X : Type 0} (o : Option X) (x : X) (P : X → Type 0) → o ≡ Some x → P x → IsSomeAnd o P
some_at None x P e h = absurd (cc)
some_at (Some y) x P e h = subst P (let same : x ≡ y = cc in same) h

is_some_from : {X : Type 0} (o : Option X) (x : X) → o ≡ Some x → IsSome o
is_some_from o x e = rw e refl

pub then_some : {A B : Type 0} (f : A → Option B) (o : Option A) (x : A) → o ≡ Some x → option_and_then f o ≡ f x
then_some f o x e = rw e refl

-- ---- changes

-- the id is that of a free change
record IsFreeChange (net : Net) (rows : RowsValue) (id : ActId) : Type 0 where
  place : ℕ
  found : activity_place net id ≡ Some place
  change : is_change (activity_at net place).kind ≡ true
  not_passed : passed_at rows (activity_at net place).head ≡ None
  tail_runs : is_cancelled rows (activity_at net place).tail ≡ false
  head_runs : is_cancelled rows (activity_at net place).head ≡ false
  not_locked : is_locked_change rows place ≡ false

free_change : (net : Net) (rows : RowsValue) → IsNetwork net → (id : ActId) → Contains (free_choices_of net rows) (Change id) → IsFreeChange net rows id
free_change net rows network id contains =
    elim (free_at net rows (Change id) contains) [
      | inl c ↦
          let parts = four_parts (is_change (activity_at net c.place).kind) (has_passed rows (activity_at net c.place).head)
          (has_cancelled_end net rows c.place) (is_locked_change rows c.place) c.passes in
          let ends = either_parts (is_cancelled rows (activity_at net c.place).tail) (is_cancelled rows (activity_at net c.place).head) parts.2 in
          let e : Change (activity_at net c.place).id ≡ Change id = c.is_choice in
          let is : (activity_at net c.place).id ≡ id = cc in
          record {
            place = c.place;
            found = key_is_found (λ (x : Activity). x.id.0) net.activities network.formed.activities_ascend id.0 c.place no_activity c.below
                (ap (λ (x : ActId). x.0) is);
            change = parts.0;
            not_passed = none_from (passed_at rows (activity_at net c.place).head) parts.1;
            tail_runs = ends.0;
            head_runs = ends.1;
            not_locked = parts.3;
          }
      | inr c ↦
          let e : Pair (event_at net (pair_at net c.place).small).id (event_at net (pair_at net c.place).large).id ≡ Change id = c.is_choice in
          absurd (cc)
    ]

change_passes : (net : Net) (rows : RowsValue) (id : ActId) → IsFreeChange net rows id → (r : Refusal) → RefusesChange net rows id r → ⊥
change_passes net rows id f (UnknownActivity u) h = let found = f.found in let none = h.0 in cc
change_passes net rows id f (UnknownChange u) h =
    let change = f.change in
    let other = at_some (activity_place net id) f.place (λ x. is_change (activity_at net x).kind ≡ false) f.found h.0 in cc
change_passes net rows id f (Passed e t) h =
    let not_passed = f.not_passed in
    let other = at_some (activity_place net id) f.place (λ x. (is_change (activity_at net x).kind ≡ true) × HeadHasPassed net rows x e t) f.found h in
    let passed = other.1.1 in cc
change_passes net rows id f (Cancelled e) h =
    let tail = f.tail_runs in
    let head = f.head_runs in
    let other = at_some (activity_place net id) f.place (λ x. IsChangeAhead net rows x × HasCancelledEnd net rows x e) f.found h in
    elim other.1 [
      | inl a ↦ let off = a.0 in cc
      | inr b ↦ let off = b.1 in cc
    ]
change_passes net rows id f (Locked c) h =
    let free = f.not_locked in
    let other = at_some (activity_place net id) f.place
    (λ x. IsChangeAhead net rows x × (has_cancelled_end net rows x ≡ false) × (is_locked_change rows x ≡ true)) f.found h.0 in
    let locked = other.2 in cc
change_passes net rows id f _ h = h

-- a change that nothing refuses is free
module _ (net : Net) (rows : RowsValue) (id : ActId) (passes : RefusesNothing (RefusesChange net rows id)) where
  module _ (x : ℕ) (found : activity_place net id ≡ Some x) where
    is_a_change : is_change (activity_at net x).kind ≡ true
    is_a_change =
        elim (cases_Bool (is_change (activity_at net x).kind)) [
          | inl is ↦ is
          | inr other ↦ absurd (passes (UnknownChange id)
              (some_at (activity_place net id) x (λ y. is_change (activity_at net y).kind ≡ false) found other, refl))
        ]

    head_is_ahead : passed_at rows (activity_at net x).head ≡ None
    head_is_ahead =
        elim (none_or_some (passed_at rows (activity_at net x).head)) [
          | inl none ↦ none
          | inr some ↦ absurd (passes (Passed (event_at net (activity_at net x).head).id some.0)
              (some_at (activity_place net id) x
              (λ y. (is_change (activity_at net y).kind ≡ true) × HeadHasPassed net rows y (event_at net (activity_at net x).head).id some.0) found
              (is_a_change, (refl, some.1))))
        ]

    cancelled_refuses : (e : EventId) → HasCancelledEnd net rows x e → ⊥
    cancelled_refuses e has =
        passes (Cancelled e) (some_at (activity_place net id) x (λ y. IsChangeAhead net rows y × HasCancelledEnd net rows y e) found
        ((is_a_change, head_is_ahead), has))

    tail_is_running : is_cancelled rows (activity_at net x).tail ≡ false
    tail_is_running =
        elim (cases_Bool (is_cancelled rows (activity_at net x).tail)) [
          | inl on ↦ absurd (cancelled_refuses (event_at net (activity_at net x).tail).id (inl (on, refl)))
          | inr off ↦ off
        ]

    head_is_running : is_cancelled rows (activity_at net x).head ≡ false
    head_is_running =
        elim (cases_Bool (is_cancelled rows (activity_at net x).head)) [
          | inl on ↦ absurd (cancelled_refuses (event_at net (activity_at net x).head).id (inr (tail_is_running, on, refl)))
          | inr off ↦ off
        ]

    ends_run : has_cancelled_end net rows x ≡ false
    ends_run =
        either_from (is_cancelled rows (activity_at net x).tail) (is_cancelled rows (activity_at net x).head) tail_is_running head_is_running

    change_is_unlocked : is_locked_change rows x ≡ false
    change_is_unlocked =
        elim (cases_Bool (is_locked_change rows x)) [
          | inl on ↦ absurd (passes (Locked (Change id)) (
            some_at (activity_place net id) x
                (λ y. IsChangeAhead net rows y × (has_cancelled_end net rows y ≡ false) × (is_locked_change rows y ≡ true)) found
                ((is_a_change, head_is_ahead), ends_run, on),
            refl,
          ))
          | inr off ↦ off
        ]

    change_is_listed : Contains (free_choices_of net rows) (Change id)
    change_is_listed =
        let at = position-Some (λ (a : Activity). eqb a.id.0 id.0) net.activities x no_activity found in
        let named : (activity_at net x).id ≡ id = act_id (activity_at net x).id id (eqb-true (activity_at net x).id.0 id.0 at.1) in
        Contains-append_left (free_changes_of net rows) (free_pairs_of net rows) (Change id)
        (subst (λ (a : ActId). Contains (free_changes_of net rows) (Change a)) named
        (listed_from (is_free_change net rows) (change_choice net) (length net.activities) x at.0
        (four_from (is_change (activity_at net x).kind) (has_passed rows (activity_at net x).head) (has_cancelled_end net rows x) (is_locked_change rows x)
        is_a_change (ap is_some head_is_ahead) ends_run change_is_unlocked)))

  change_is_free : Contains (free_choices_of net rows) (Change id)
  change_is_free =
      elim (none_or_some (activity_place net id)) [
        | inl none ↦ absurd (passes (UnknownActivity id) (none, refl))
        | inr some ↦ change_is_listed some.0 some.1
      ]

-- ---- pairs

-- the ids are those of the events of a free pair
pub record IsFreePair (net : Net) (rows : RowsValue) (i j : EventId) : Type 0 where
  pub one : ℕ
  pub other : ℕ
  pub place : ℕ
  pub one_found : event_place net i ≡ Some one
  pub other_found : event_place net j ≡ Some other
  pub found : pair_place net one other ≡ Some place
  pub one_not_passed : passed_at rows one ≡ None
  pub other_not_passed : passed_at rows other ≡ None
  pub one_runs : is_cancelled rows one ≡ false
  pub other_runs : is_cancelled rows other ≡ false
  pub not_locked : is_locked_pair rows place ≡ false

in_order : (net : Net) → IsPaired net → ArePairsInOrder net.pairs
in_order net paired = record { smaller_first = paired.smaller_first; ascending = paired.ascending }

-- either order of the events
free_pair_either : (net : Net) (rows : RowsValue) → IsNetwork net → (i j k l : EventId) → Contains (free_choices_of net rows) (Pair k l) →
    ((k ≡ i) × (l ≡ j)) ⊎ ((k ≡ j) × (l ≡ i)) → IsFreePair net rows i j
free_pair_either net rows network i j k l contains either =
    elim (free_at net rows (Pair k l) contains) [
      | inl c ↦ let e : Change (activity_at net c.place).id ≡ Pair k l = c.is_choice in absurd (cc)
      | inr c ↦
          let small : ℕ = (pair_at net c.place).small in
          let large : ℕ = (pair_at net c.place).large in
          let parts = five_parts (has_passed rows small) (is_cancelled rows small) (has_passed rows large) (is_cancelled rows large)
          (is_locked_pair rows c.place) c.passes in
          let e : Pair (event_at net small).id (event_at net large).id ≡ Pair k l = c.is_choice in
          let small_is : (event_at net small).id ≡ k = cc in
          let large_is : (event_at net large).id ≡ l = cc in
          let small_found : event_place net k ≡ Some small =
          key_is_found (λ (x : Event). x.id.0) net.events network.formed.events_ascend k.0 small no_event (small_is_event net network c.place c.below)
          (ap (λ (x : EventId). x.0) small_is) in
          let large_found : event_place net l ≡ Some large =
          key_is_found (λ (x : Event). x.id.0) net.events network.formed.events_ascend l.0 large no_event (large_is_event net network c.place c.below)
          (ap (λ (x : EventId). x.0) large_is) in
          let order : small < large = network.formed.is_paired.smaller_first c.place c.below in
          let pairs : ArePairsInOrder net.pairs = in_order net network.formed.is_paired in
          elim either [
            | inl b ↦
                record {
                  one = small;
                  other = large;
                  place = c.place;
                  one_found = subst (λ (x : EventId). event_place net x ≡ Some small) b.0 small_found;
                  other_found = subst (λ (x : EventId). event_place net x ≡ Some large) b.1 large_found;
                  found = pair_is_found net.pairs pairs (λ q. joins q small large) small large (joins_forward small large (omega arith))
                      c.place no_pair c.below refl refl;
                  one_not_passed = none_from (passed_at rows small) parts.0;
                  other_not_passed = none_from (passed_at rows large) parts.2;
                  one_runs = parts.1;
                  other_runs = parts.3;
                  not_locked = parts.4;
                }
            | inr b ↦
                record {
                  one = large;
                  other = small;
                  place = c.place;
                  one_found = subst (λ (x : EventId). event_place net x ≡ Some large) b.1 large_found;
                  other_found = subst (λ (x : EventId). event_place net x ≡ Some small) b.0 small_found;
                  found = pair_is_found net.pairs pairs (λ q. joins q large small) small large (joins_backward small large (omega arith))
                      c.place no_pair c.below refl refl;
                  one_not_passed = none_from (passed_at rows large) parts.2;
                  other_not_passed = none_from (passed_at rows small) parts.0;
                  one_runs = parts.3;
                  other_runs = parts.1;
                  not_locked = parts.4;
                }
          ]
    ]

free_pair : (net : Net) (rows : RowsValue) → IsNetwork net → (i j : EventId) → Contains (free_choices_of net rows) (choice_of (FirstOf i j)) →
    IsFreePair net rows i j
free_pair net rows network i j contains =
    elim (ltb i.0 j.0) as (λ b. Contains (free_choices_of net rows) (cond b (Pair i j) (Pair j i)) → IsFreePair net rows i j) [
      | true ↦ λ t. free_pair_either net rows network i j i j t (inl (refl, refl))
      | false ↦ λ t. free_pair_either net rows network i j j i t (inr (refl, refl))
    ] contains

pub pair_is_named : (net : Net) (rows : RowsValue) (i j : EventId) → (f : IsFreePair net rows i j) → named_pair net i j ≡ Some f.place
pair_is_named net rows i j f =
    then_some (λ x. option_and_then (λ y. pair_place net x y) (event_place net j)) (event_place net i) f.one f.one_found
    ∙ (then_some (λ y. pair_place net f.one y) (event_place net j) f.other f.other_found ∙ f.found)

-- what holds of the pair and its events holds of those that are found
pair_such : (net : Net) (i j : EventId) (x y p : ℕ) (P : ℕ → ℕ → ℕ → Type 0) → event_place net i ≡ Some x → event_place net j ≡ Some y →
    pair_place net x y ≡ Some p → PairSuchThat net i j P → P p x y
pair_such net i j x y p P one other found such =
    at_some (pair_place net x y) p (λ q. P q x y) found
    (at_some (event_place net j) y (λ v. IsSomeAnd (pair_place net x v) (λ q. P q x v)) other
    (at_some (event_place net i) x (λ u. IsSomeAnd (event_place net j) (λ v. IsSomeAnd (pair_place net u v) (λ q. P q u v))) one such))

such_pair : (net : Net) (i j : EventId) (x y p : ℕ) (P : ℕ → ℕ → ℕ → Type 0) → event_place net i ≡ Some x → event_place net j ≡ Some y →
    pair_place net x y ≡ Some p → P p x y → PairSuchThat net i j P
such_pair net i j x y p P one other found h =
    some_at (event_place net i) x (λ u. IsSomeAnd (event_place net j) (λ v. IsSomeAnd (pair_place net u v) (λ q. P q u v))) one
    (some_at (event_place net j) y (λ v. IsSomeAnd (pair_place net x v) (λ q. P q x v)) other
    (some_at (pair_place net x y) p (λ q. P q x y) found h))

first_passes : (net : Net) (rows : RowsValue) (i j : EventId) → IsFreePair net rows i j → (r : Refusal) → RefusesFirst net rows i j r → ⊥
first_passes net rows i j f (UnknownEvent u) h =
    let one = f.one_found in
    let other = f.other_found in
    elim h [ inl a ↦ let none = a.0 in cc | inr b ↦ let none = b.1 in cc ]
first_passes net rows i j f (UnknownPair u v) h = let named = pair_is_named net rows i j f in let none = h.2 in cc
first_passes net rows i j f (Passed e t) h =
    let one : passed_time net rows i ≡ None = then_some (passed_at rows) (event_place net i) f.one f.one_found ∙ f.one_not_passed in
    let other : passed_time net rows j ≡ None = then_some (passed_at rows) (event_place net j) f.other f.other_found ∙ f.other_not_passed in
    elim h.1 [ inl a ↦ let some = a.0 in cc | inr b ↦ let some = b.1 in cc ]
first_passes net rows i j f (Cancelled e) h =
    let one = f.one_runs in
    let other = f.other_runs in
    let is = pair_such net i j f.one f.other f.place (λ p x y. NeitherHasPassed rows x y × IsFirstCancelled net rows x y e)
    f.one_found f.other_found f.found h in
    elim is.1 [ inl a ↦ let off = a.0 in cc | inr b ↦ let off = b.1 in cc ]
first_passes net rows i j f (Locked c) h =
    let free = f.not_locked in
    let is = pair_such net i j f.one f.other f.place
    (λ p x y. NeitherHasPassed rows x y × (is_cancelled rows x ≡ false) × (is_cancelled rows y ≡ false) × (is_locked_pair rows p ≡ true))
    f.one_found f.other_found f.found h.0 in
    let locked = is.3 in cc
first_passes net rows i j f _ h = h

-- a pair that nothing refuses is free
module _ (net : Net) (rows : RowsValue) (network : IsNetwork net) (i j : EventId) (passes : RefusesNothing (RefusesFirst net rows i j)) where
  module _ (x y p : ℕ) (one : event_place net i ≡ Some x) (other : event_place net j ≡ Some y) (found : pair_place net x y ≡ Some p) where
    named : named_pair net i j ≡ Some p
    named =
        then_some (λ u. option_and_then (λ v. pair_place net u v) (event_place net j)) (event_place net i) x one
        ∙ (then_some (λ v. pair_place net x v) (event_place net j) y other ∙ found)

    one_time : passed_time net rows i ≡ passed_at rows x
    one_time = then_some (passed_at rows) (event_place net i) x one

    other_time : passed_time net rows j ≡ passed_at rows y
    other_time = then_some (passed_at rows) (event_place net j) y other

    one_is_ahead : passed_at rows x ≡ None
    one_is_ahead =
        elim (none_or_some (passed_at rows x)) [
          | inl none ↦ none
          | inr some ↦ absurd (passes (Passed i some.0) (is_some_from (named_pair net i j) p named, inl (one_time ∙ some.1, refl)))
        ]

    other_is_ahead : passed_at rows y ≡ None
    other_is_ahead =
        elim (none_or_some (passed_at rows y)) [
          | inl none ↦ none
          | inr some ↦ absurd (passes (Passed j some.0)
              (is_some_from (named_pair net i j) p named, inr (one_time ∙ one_is_ahead, other_time ∙ some.1, refl)))
        ]

    cancelled_first : (e : EventId) → IsFirstCancelled net rows x y e → ⊥
    cancelled_first e is =
        passes (Cancelled e) (such_pair net i j x y p (λ q u v. NeitherHasPassed rows u v × IsFirstCancelled net rows u v e) one other found
        ((one_is_ahead, other_is_ahead), is))

    one_is_running : is_cancelled rows x ≡ false
    one_is_running =
        elim (cases_Bool (is_cancelled rows x)) [
          | inl on ↦ absurd (cancelled_first (event_at net x).id (inl (on, refl)))
          | inr off ↦ off
        ]

    other_is_running : is_cancelled rows y ≡ false
    other_is_running =
        elim (cases_Bool (is_cancelled rows y)) [
          | inl on ↦ absurd (cancelled_first (event_at net y).id (inr (one_is_running, on, refl)))
          | inr off ↦ off
        ]

    pair_is_unlocked : is_locked_pair rows p ≡ false
    pair_is_unlocked =
        elim (cases_Bool (is_locked_pair rows p)) [
          | inl on ↦ absurd (passes (Locked (sorted_choice (Pair i j))) (
            such_pair net i j x y p
                (λ q u v. NeitherHasPassed rows u v × (is_cancelled rows u ≡ false) × (is_cancelled rows v ≡ false) × (is_locked_pair rows q ≡ true))
                one other found ((one_is_ahead, other_is_ahead), one_is_running, other_is_running, on),
            refl,
          ))
          | inr off ↦ off
        ]

    at_one : (x < length net.events) × (eqb (event_at net x).id.0 i.0 ≡ true) × ((k : ℕ) → k < x → eqb (event_at net k).id.0 i.0 ≡ false)
    at_one = position-Some (λ (e : Event). eqb e.id.0 i.0) net.events x no_event one

    at_other : (y < length net.events) × (eqb (event_at net y).id.0 j.0 ≡ true) × ((k : ℕ) → k < y → eqb (event_at net k).id.0 j.0 ≡ false)
    at_other = position-Some (λ (e : Event). eqb e.id.0 j.0) net.events y no_event other

    one_id : (event_at net x).id ≡ i
    one_id = event_id (event_at net x).id i (eqb-true (event_at net x).id.0 i.0 at_one.1)

    other_id : (event_at net y).id ≡ j
    other_id = event_id (event_at net y).id j (eqb-true (event_at net y).id.0 j.0 at_other.1)

    at_pair : (p < length net.pairs) × (joins (pair_at net p) x y ≡ true) × ((k : ℕ) → k < p → joins (pair_at net k) x y ≡ false)
    at_pair = position-Some (λ (q : PairOfEvents). joins q x y) net.pairs p no_pair found

    -- which of both the small one is
    forward : (pair_at net p).small ≡ x → (pair_at net p).large ≡ y → Contains (free_choices_of net rows) (choice_of (FirstOf i j))
    forward small large =
        let order : (pair_at net p).small < (pair_at net p).large = network.formed.is_paired.smaller_first p at_pair.0 in
        let lower : (event_at net x).id.0 < (event_at net y).id.0 =
        key_rises (λ (e : Event). e.id.0) net.events network.formed.events_ascend x y no_event (omega arith) at_other.0 in
        let first : (event_at net x).id.0 ≡ i.0 = ap (λ (e : EventId). e.0) one_id in
        let second : (event_at net y).id.0 ≡ j.0 = ap (λ (e : EventId). e.0) other_id in
        let test : ltb i.0 j.0 ≡ true = lt-ltb i.0 j.0 (omega arith) in
        let choice : pair_choice net p ≡ Pair i j =
        ap (λ (k : ℕ). Pair (event_at net k).id (event_at net (pair_at net p).large).id) small
        ∙ ap (λ (k : ℕ). Pair (event_at net x).id (event_at net k).id) large
        ∙ ap (λ (e : EventId). Pair e (event_at net y).id) one_id ∙ ap (λ (e : EventId). Pair i e) other_id in
        subst (λ (b : Bool). Contains (free_choices_of net rows) (cond b (Pair i j) (Pair j i))) (sym test)
        (Contains-append_right (free_changes_of net rows) (free_pairs_of net rows) (Pair i j)
        (subst (Contains (free_pairs_of net rows)) choice
        (listed_from (is_free_pair net rows) (pair_choice net) (length net.pairs) p at_pair.0
        (five_from (has_passed rows (pair_at net p).small) (is_cancelled rows (pair_at net p).small)
        (has_passed rows (pair_at net p).large) (is_cancelled rows (pair_at net p).large) (is_locked_pair rows p)
        (ap (has_passed rows) small ∙ ap is_some one_is_ahead) (ap (is_cancelled rows) small ∙ one_is_running)
        (ap (has_passed rows) large ∙ ap is_some other_is_ahead) (ap (is_cancelled rows) large ∙ other_is_running) pair_is_unlocked))))

    backward : (pair_at net p).small ≡ y → (pair_at net p).large ≡ x → Contains (free_choices_of net rows) (choice_of (FirstOf i j))
    backward small large =
        let order : (pair_at net p).small < (pair_at net p).large = network.formed.is_paired.smaller_first p at_pair.0 in
        let lower : (event_at net y).id.0 < (event_at net x).id.0 =
        key_rises (λ (e : Event). e.id.0) net.events network.formed.events_ascend y x no_event (omega arith) at_one.0 in
        let first : (event_at net x).id.0 ≡ i.0 = ap (λ (e : EventId). e.0) one_id in
        let second : (event_at net y).id.0 ≡ j.0 = ap (λ (e : EventId). e.0) other_id in
        let test : ltb i.0 j.0 ≡ false = le-ltb i.0 j.0 (omega arith) in
        let choice : pair_choice net p ≡ Pair j i =
        ap (λ (k : ℕ). Pair (event_at net k).id (event_at net (pair_at net p).large).id) small
        ∙ ap (λ (k : ℕ). Pair (event_at net y).id (event_at net k).id) large
        ∙ ap (λ (e : EventId). Pair e (event_at net x).id) other_id ∙ ap (λ (e : EventId). Pair j e) one_id in
        subst (λ (b : Bool). Contains (free_choices_of net rows) (cond b (Pair i j) (Pair j i))) (sym test)
        (Contains-append_right (free_changes_of net rows) (free_pairs_of net rows) (Pair j i)
        (subst (Contains (free_pairs_of net rows)) choice
        (listed_from (is_free_pair net rows) (pair_choice net) (length net.pairs) p at_pair.0
        (five_from (has_passed rows (pair_at net p).small) (is_cancelled rows (pair_at net p).small)
        (has_passed rows (pair_at net p).large) (is_cancelled rows (pair_at net p).large) (is_locked_pair rows p)
        (ap (has_passed rows) small ∙ ap is_some other_is_ahead) (ap (is_cancelled rows) small ∙ other_is_running)
        (ap (has_passed rows) large ∙ ap is_some one_is_ahead) (ap (is_cancelled rows) large ∙ one_is_running) pair_is_unlocked))))

    pair_is_listed : Contains (free_choices_of net rows) (choice_of (FirstOf i j))
    pair_is_listed =
        elim (joins-true (pair_at net p) x y at_pair.1) [
          | inl h ↦ forward h.0 h.1
          | inr h ↦ backward h.0 h.1
        ]

  module _ (x y : ℕ) (one : event_place net i ≡ Some x) (other : event_place net j ≡ Some y) where
    no_pair_refuses : pair_place net x y ≡ None → ⊥
    no_pair_refuses none =
        passes (UnknownPair i j) (
          is_some_from (event_place net i) x one,
          is_some_from (event_place net j) y other,
          then_some (λ u. option_and_then (λ v. pair_place net u v) (event_place net j)) (event_place net i) x one
              ∙ (then_some (λ v. pair_place net x v) (event_place net j) y other ∙ none),
          refl,
          refl,
        )

    pair_is_found_free : Contains (free_choices_of net rows) (choice_of (FirstOf i j))
    pair_is_found_free =
        elim (none_or_some (pair_place net x y)) [
          | inl none ↦ absurd (no_pair_refuses none)
          | inr some ↦ pair_is_listed x y some.0 one other some.1
        ]

  pair_is_free : Contains (free_choices_of net rows) (choice_of (FirstOf i j))
  pair_is_free =
      elim (none_or_some (event_place net i)) [
        | inl none ↦ absurd (passes (UnknownEvent i) (inl (none, refl)))
        | inr one ↦ elim (none_or_some (event_place net j)) [
          | inl none ↦ absurd (passes (UnknownEvent j) (inr (is_some_from (event_place net i) one.0 one.1, none, refl)))
          | inr other ↦ pair_is_found_free one.0 other.0 one.1 other.1
        ]
      ]

-- ---- decisions

pub some_mapped : {A B : Type 0} (f : A → B) (o : Option A) (x : A) → o ≡ Some x → IsSome (option_map f o)
some_mapped f o x e = rw e refl

-- a decision of a free choice names something
pub free_is_named : (net : Net) (rows : RowsValue) → IsNetwork net → (d : Decision) → Contains (free_choices_of net rows) (choice_of d) →
    IsSome (flip_named net d)
free_is_named net rows network (KeepIt a) s =
    let f = free_change net rows network a s in some_mapped (λ x. KeepFlip x) (activity_place net a) f.place f.found
free_is_named net rows network (DropIt a) s =
    let f = free_change net rows network a s in some_mapped (λ x. DropFlip x) (activity_place net a) f.place f.found
free_is_named net rows network (FirstOf i j) s = let f = free_pair net rows network i j s in rw (f.one_found, f.other_found, f.found) refl

-- and nothing refuses it at once
pub free_passes : (net : Net) (rows : RowsValue) → IsNetwork net → (d : Decision) → Contains (free_choices_of net rows) (choice_of d) →
    PassesDecision net rows d
free_passes net rows network (KeepIt a) s = change_passes net rows a (free_change net rows network a s)
free_passes net rows network (DropIt a) s = change_passes net rows a (free_change net rows network a s)
free_passes net rows network (FirstOf i j) s = first_passes net rows i j (free_pair net rows network i j s)

-- what nothing refuses at once decides a free choice
pub passes_free : (net : Net) (rows : RowsValue) → IsNetwork net → (d : Decision) → PassesDecision net rows d →
    Contains (free_choices_of net rows) (choice_of d)
passes_free net rows network (KeepIt a) passes = change_is_free net rows a passes
passes_free net rows network (DropIt a) passes = change_is_free net rows a passes
passes_free net rows network (FirstOf i j) passes = pair_is_free net rows network i j passes

pub free_where_nothing_refuses : FreeWhereNothingRefuses
free_where_nothing_refuses net rows d network = (free_passes net rows network d, passes_free net rows network d)

-- ---- decisions that are kept

pub passing_is_free : (net : Net) (rows : RowsValue) → IsNetwork net → (d : Decision) → PassesDecision net rows d → is_free_decision net rows d ≡ true
passing_is_free net rows network d passes =
    let c : Contains (free_choices_of net rows) (choice_of d) = passes_free net rows network d passes in
    list_any_at (is_same_choice (choice_of d)) (free_choices_of net rows) c.0 (choice_of d) c.1
    (ap (is_same_choice (choice_of d)) c.2 ∙ same_itself (choice_of d))

pub refused_is_not_free : (net : Net) (rows : RowsValue) → IsNetwork net → (d : Decision) (r : Refusal) → RefusesDecision net rows d r →
    is_free_decision net rows d ≡ false
refused_is_not_free net rows network d r refused =
    elim (cases_Bool (is_free_decision net rows d)) [
      | inl on ↦ absurd (free_passes net rows network d
          (Contains-from_any {K = Choice} {eq = is_same_choice} same_choice (choice_of d) (free_choices_of net rows) on) r refused)
      | inr off ↦ off
    ]

kept_alone : (b : Bool) (d : Decision) → b ≡ true → cond b (d ∷ []) [] ≡ d ∷ []
kept_alone true d e = refl
kept_alone false d e = cc

left_out : (b : Bool) (d : Decision) → b ≡ false → cond b (d ∷ []) [] ≡ []
left_out true d e = cc
left_out false d e = refl

-- one decision that nothing refuses is kept, and one that is refused is not
pub one_kept : (net : Net) (rows : RowsValue) → IsNetwork net → (d : Decision) → PassesDecision net rows d → d ∷ [] ≡ free_among net rows (d ∷ [])
one_kept net rows network d passes = sym (kept_alone (is_free_decision net rows d) d (passing_is_free net rows network d passes))

pub one_left_out : (net : Net) (rows : RowsValue) → IsNetwork net → (d : Decision) (r : Refusal) → RefusesDecision net rows d r →
    [] ≡ free_among net rows (d ∷ [])
one_left_out net rows network d r refused =
    sym (left_out (is_free_decision net rows d) d (refused_is_not_free net rows network d r refused))
