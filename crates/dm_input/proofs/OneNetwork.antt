-- Records make one network at most.
use Rattle.std.proofs.Common.{◌≡◌, ℕ, suc, ◌<◌, List, [], ◌∷◌, length, map, get_or, Option, Some, None, refl, sym, ap, subst, ◌∙◌, inl, inr, arith, position}
use Rattle.std.specs.Prelude.{IsSome, if◌then◌else◌}
use Rattle.std.specs.List.{Contains}
use Rattle.std.specs.List.Sorted.{IsStrictlyIncreasing, IsPermutation}
use Rattle.std.proofs.lemmas.List.{length-map, get_or-map, get_or_default}
use Rattle.std.proofs.lemmas.List.Sorted.{Contains-permutation, IsPermutation-sym}
use Rattle.std.proofs.lemmas.List.Quantifiers.{position-Some}
use Rattle.dm_base.proofs.Lists.{one_rising}
use Rattle.dm_base.specs.declared.rows.EventRow.{EventRow}
use Rattle.dm_base.specs.declared.rows.ActRow.{ActRow}
use Rattle.dm_network.specs.declared.parts.Event.{Event}
use Rattle.dm_network.specs.declared.parts.Activity.{Activity}
use Rattle.dm_network.specs.declared.parts.Pair.{Pair}
use Rattle.dm_network.specs.Net.{Net, event_at, activity_at, pair_at, no_event, no_activity, no_pair, is_headway}
use Rattle.dm_network.specs.Pairs.{joins, pair_place, IsHeadwayFrom, FormPair, ComesBefore, IsPaired}
use Rattle.dm_network.specs.Build.{event_row, activity_row, IsMadeOf}
use Rattle.dm_network.specs.Inside.Stages.{event_with}
use Rattle.dm_network.proofs.Keys.{key_rises, key_is_found}
use Rattle.dm_network.proofs.PairKeys.{joins_forward, pairs_come_before}
use Rattle.dm_network.specs.Inside.Flat.{ArePairsInOrder}
use Rattle.dm_base.specs.declared.rows.ActKind.{ActKind}
use Rattle.dm_network.proofs.Resolving.{position_is_some}

-- lists with the same elements at the same places
same_lists : {X : Type 0} (xs ys : List X) → length xs ≡ length ys → ((i : ℕ) (d : X) → i < length xs → get_or xs i d ≡ get_or ys i d) → xs ≡ ys
same_lists [] [] size each = refl
same_lists [] (y ∷ ys) size each = absurd (omega arith)
same_lists (x ∷ xs) [] size each = absurd (omega arith)
same_lists (x ∷ xs) (y ∷ ys) size each =
    let head : x ≡ y = each 0 x (omega arith) in
    let tail : xs ≡ ys = same_lists xs ys (omega arith) (λ i d lt. each (suc i) d (omega arith)) in
    ap (λ w. w ∷ xs) head ∙ ap (λ l. y ∷ l) tail

-- ---- by id

module _ {R : Type 0} (id : R → ℕ) where
  abbrev Lower : R → R → Type 0
  Lower r s = id r < id s

  not_both : (r s : R) → Lower r s → Lower s r → ⊥
  not_both r s a b = omega arith

  pub one_by_id : (records xs ys : List R) → IsPermutation records xs → IsPermutation records ys → IsStrictlyIncreasing (map id xs) → IsStrictlyIncreasing (map id ys) → xs ≡ ys
  one_by_id records xs ys p q ux uy =
      one_rising Lower not_both xs ys (key_rises id xs ux) (key_rises id ys uy)
      (λ z c. Contains-permutation records ys z q (Contains-permutation xs records z (IsPermutation-sym records xs p) c))
      (λ z c. Contains-permutation records xs z p (Contains-permutation ys records z (IsPermutation-sym records ys q) c))

pub event_ids : (events : List Event) → map (λ row. row.id.0) (map event_row events) ≡ map (λ e. e.id.0) events
event_ids [] = refl
event_ids (e ∷ es) = ap (λ l. e.id.0 ∷ l) (event_ids es)

pub activity_ids : (net : Net) (activities : List Activity) → map (λ row. row.id.0) (map (activity_row net) activities) ≡ map (λ a. a.id.0) activities
activity_ids net [] = refl
activity_ids net (a ∷ rest) = ap (λ l. a.id.0 ∷ l) (activity_ids net rest)

event_back : (events : List Event) → map event_with (map event_row events) ≡ events
event_back [] = refl
event_back (e ∷ es) = ap (λ l. e ∷ l) (event_back es)

some_is : {X : Type 0} (x y : X) → Some x ≡ Some y → x ≡ y
some_is x y e = cc

is_some_from : {X : Type 0} (o : Option X) → (o ≡ None → ⊥) → IsSome o
is_some_from None h = absurd (h refl)
is_some_from (Some x) h = refl

record Placed (o : Option ℕ) : Type 0 where
  place : ℕ
  is : o ≡ Some place

placed : (o : Option ℕ) → IsSome o → Placed o
placed None h = absurd cc
placed (Some x) h = record { place = x; is = refl }

not_before_both : (p q : Pair) → ComesBefore p q → ComesBefore q p → ⊥
not_before_both p q (inl a) (inl b) = omega arith
not_before_both p q (inl a) (inr b) = let e = b.0 in omega arith
not_before_both p q (inr a) (inl b) = let e = a.0 in omega arith
not_before_both p q (inr a) (inr b) = let x = a.1 in let y = b.1 in omega arith

module _ (events : List EventRow) (activities : List ActRow) (m n : Net) (made : IsMadeOf events activities m) (other : IsMadeOf events activities n) where
  same_events : m.events ≡ n.events
  same_events =
      let rows : map event_row m.events ≡ map event_row n.events =
      one_by_id (λ row. row.id.0) events (map event_row m.events) (map event_row n.events) made.same_events other.same_events
      (subst IsStrictlyIncreasing (sym (event_ids m.events)) made.formed.events_ascend) (subst IsStrictlyIncreasing (sym (event_ids n.events)) other.formed.events_ascend) in
      sym (event_back m.events) ∙ (ap (map event_with) rows ∙ event_back n.events)

  same_rows : map (activity_row m) m.activities ≡ map (activity_row n) n.activities
  same_rows =
      one_by_id (λ row. row.id.0) activities (map (activity_row m) m.activities) (map (activity_row n) n.activities) made.same_activities other.same_activities
      (subst IsStrictlyIncreasing (sym (activity_ids m m.activities)) made.formed.activities_ascend) (subst IsStrictlyIncreasing (sym (activity_ids n n.activities)) other.formed.activities_ascend)

  as_many : length m.activities ≡ length n.activities
  as_many = sym (length-map m.activities (activity_row m)) ∙ (ap length same_rows ∙ length-map n.activities (activity_row n))

  row_at : (a : ℕ) → a < length m.activities → activity_row m (activity_at m a) ≡ activity_row n (activity_at n a)
  row_at a lt =
      let l = get_or-map (activity_row m) m.activities a no_activity (activity_row m no_activity) lt in
      let r = get_or-map (activity_row n) n.activities a no_activity (activity_row m no_activity) (let s = as_many in omega arith) in
      sym l ∙ (ap (λ rows. get_or rows a (activity_row m no_activity)) same_rows ∙ r)

  -- an event of both is at one place
  same_place : (i j : ℕ) → i < length m.events → j < length n.events → (event_at m i).id ≡ (event_at n j).id → i ≡ j
  same_place i j lt in' e =
      let here = key_is_found (λ (x : Event). x.id.0) n.events other.formed.events_ascend (event_at n j).id.0 i no_event (let s = ap length same_events in omega arith)
      (ap (λ es. (get_or es i no_event).id.0) (sym same_events) ∙ ap (λ id. id.0) e) in
      let there = key_is_found (λ (x : Event). x.id.0) n.events other.formed.events_ascend (event_at n j).id.0 j no_event in' refl in
      some_is i j (sym here ∙ there)

  same_tail : (a : ℕ) → a < length m.activities → (activity_at m a).tail ≡ (activity_at n a).tail
  same_tail a lt = same_place _ _ (made.formed.ends_are_known.tails a lt) (other.formed.ends_are_known.tails a (let s = as_many in omega arith)) (ap (λ row. row.tail) (row_at a lt))

  same_head : (a : ℕ) → a < length m.activities → (activity_at m a).head ≡ (activity_at n a).head
  same_head a lt = same_place _ _ (made.formed.ends_are_known.heads a lt) (other.formed.ends_are_known.heads a (let s = as_many in omega arith)) (ap (λ row. row.head) (row_at a lt))

  same_kind : (a : ℕ) → a < length m.activities → (activity_at m a).kind ≡ (activity_at n a).kind
  same_kind a lt = ap (λ row. row.kind) (row_at a lt)

  headway_too : (i j a : ℕ) → IsHeadwayFrom m i j a → IsHeadwayFrom n i j a
  headway_too i j a h =
      record {
        is_activity = (let lt = h.is_activity in let s = as_many in omega arith);
        headway = ap is_headway (sym (same_kind a h.is_activity)) ∙ h.headway;
        tail = sym (same_tail a h.is_activity) ∙ h.tail;
        head = sym (same_head a h.is_activity) ∙ h.head;
      }

  pair_too : (i j : ℕ) → FormPair m i j → FormPair n i j
  pair_too i j f = (f.0, (f.1.0, headway_too i j f.1.0 f.1.1), (f.2.0, headway_too j i f.2.0 f.2.1))

  -- a pair of the one is a pair of the other
  pair_in : (z : Pair) → Contains m.pairs z → Contains n.pairs z
  pair_in z c =
      let at : pair_at m c.0 ≡ z = get_or_default m.pairs c.0 no_pair z c.1 ∙ c.2 in
      let up : z.small < z.large = subst (λ (p : Pair). p.small < p.large) at (made.formed.is_paired.smaller_first c.0 c.1) in
      let test = joins_forward z.small z.large (omega arith) in
      let found : IsSome (pair_place m z.small z.large) =
      is_some_from (pair_place m z.small z.large) (position_is_some (λ p. joins p z.small z.large) m.pairs c.0 z c.1 (test.passes (get_or m.pairs c.0 z) (ap (λ p. p.small) c.2) (ap (λ p. p.large) c.2))) in
      let there = placed (pair_place n z.small z.large) ((other.formed.is_paired.exact z.small z.large).1 (pair_too z.small z.large ((made.formed.is_paired.exact z.small z.large).0 found))) in
      let p = position-Some (λ p. joins p z.small z.large) n.pairs there.place z there.is in
      let rises : (get_or n.pairs there.place z).small < (get_or n.pairs there.place z).large =
      subst (λ (q : Pair). q.small < q.large) (get_or_default n.pairs there.place no_pair z p.0) (other.formed.is_paired.smaller_first there.place p.0) in
      let only = test.only (get_or n.pairs there.place z) rises p.1 in
      let is : record { small = (get_or n.pairs there.place z).small; large = (get_or n.pairs there.place z).large } ≡ z = rw (only.0, only.1) refl in
      (there.place, p.0, is)

activity_is : (x y : Activity) → x.id ≡ y.id → x.kind ≡ y.kind → x.tail ≡ y.tail → x.head ≡ y.head → x.lower ≡ y.lower → x.weight ≡ y.weight → x.pair ≡ y.pair → x ≡ y
activity_is x y id kind tail head lower weight pair =
    ap (λ v. record x { id = v }) id
    ∙ (ap (λ v. record x { id = y.id; kind = v }) kind
    ∙ (ap (λ v. record x { id = y.id; kind = y.kind; tail = v }) tail
    ∙ (ap (λ v. record x { id = y.id; kind = y.kind; tail = y.tail; head = v }) head
    ∙ (ap (λ v. record x { id = y.id; kind = y.kind; tail = y.tail; head = y.head; lower = v }) lower
    ∙ (ap (λ v. record x { id = y.id; kind = y.kind; tail = y.tail; head = y.head; lower = y.lower; weight = v }) weight
    ∙ ap (λ v. record y { pair = v }) pair)))))

in_order : (net : Net) → IsPaired net → ArePairsInOrder net.pairs
in_order net paired = record { smaller_first = paired.smaller_first; ascending = paired.ascending }

module _ (events : List EventRow) (activities : List ActRow) (m n : Net) (made : IsMadeOf events activities m) (other : IsMadeOf events activities n) where
  same_pairs : m.pairs ≡ n.pairs
  same_pairs =
      one_rising ComesBefore not_before_both m.pairs n.pairs
      (pairs_come_before m.pairs (in_order m made.formed.is_paired)) (pairs_come_before n.pairs (in_order n other.formed.is_paired))
      (pair_in events activities m n made other) (pair_in events activities n m other made)

  abbrev pair_by : ActKind → ℕ → ℕ → List Pair → Option ℕ
  pair_by kind tail head pairs = if is_headway kind then position (λ p. joins p tail head) pairs else None

  same_pair : (a : ℕ) → a < length m.activities → (activity_at m a).pair ≡ (activity_at n a).pair
  same_pair a lt =
      let kind = same_kind events activities m n made other a lt in
      let tail = same_tail events activities m n made other a lt in
      let head = same_head events activities m n made other a lt in
      let middle : pair_by (activity_at m a).kind (activity_at m a).tail (activity_at m a).head m.pairs ≡ pair_by (activity_at n a).kind (activity_at n a).tail (activity_at n a).head n.pairs =
      ap (λ k. pair_by k (activity_at m a).tail (activity_at m a).head m.pairs) kind
      ∙ (ap (λ i. pair_by (activity_at n a).kind i (activity_at m a).head m.pairs) tail
      ∙ (ap (λ j. pair_by (activity_at n a).kind (activity_at n a).tail j m.pairs) head
      ∙ ap (λ ps. pair_by (activity_at n a).kind (activity_at n a).tail (activity_at n a).head ps) same_pairs)) in
      made.formed.is_paired.belongs a lt ∙ (middle ∙ sym (other.formed.is_paired.belongs a (let s = as_many events activities m n made other in omega arith)))

  same_activity : (a : ℕ) → a < length m.activities → activity_at m a ≡ activity_at n a
  same_activity a lt =
      let row = row_at events activities m n made other a lt in
      let x : Activity = activity_at m a in
      let y : Activity = activity_at n a in
      let is_id : x.id ≡ y.id = ap (λ r. r.id) row in
      let is_kind : x.kind ≡ y.kind = ap (λ r. r.kind) row in
      let is_tail : x.tail ≡ y.tail = same_tail events activities m n made other a lt in
      let is_head : x.head ≡ y.head = same_head events activities m n made other a lt in
      let is_lower : x.lower ≡ y.lower = ap (λ r. r.lower) row in
      let is_weight : x.weight ≡ y.weight = ap (λ r. r.weight) row in
      let is_pair : x.pair ≡ y.pair = same_pair a lt in
      activity_is x y is_id is_kind is_tail is_head is_lower is_weight is_pair

  same_activities : m.activities ≡ n.activities
  same_activities =
      same_lists m.activities n.activities (as_many events activities m n made other)
      (λ i d lt. get_or_default m.activities i d no_activity lt
      ∙ (same_activity i lt ∙ get_or_default n.activities i no_activity d (let s = as_many events activities m n made other in omega arith)))

  -- the records make one network
  pub one_network : m ≡ n
  one_network =
      ap (λ es. record m { events = es }) (same_events events activities m n made other)
      ∙ (ap (λ list. record m { events = n.events; activities = list }) same_activities ∙ ap (λ ps. record n { pairs = ps }) same_pairs)
