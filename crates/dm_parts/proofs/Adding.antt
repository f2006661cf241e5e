-- The costs within shares and the cost beside them add up.
use Rattle.std.proofs.Common.{◌≡◌, ℕ, zero, suc, ◌+◌, ◌-◌, ◌*◌, ◌<◌, Bool, true, false, cond, List, [], ◌∷◌, length, Some, refl, sym, ap, subst, ◌∙◌, arith}
use Rattle.std.specs.Prelude.{not, ◌&&◌, ◌||◌, Contains, sum_by, slice_get, ◌==◌}
use Rattle.std.specs.List.{range_with_len, list_any}
use Rattle.std.proofs.Math.Nat.{mul-add}
use Rattle.std.proofs.lemmas.Bool.{eqb-true}
use Rattle.std.proofs.lemmas.List.{get_or-map, length-map}
use Rattle.std.proofs.lemmas.List.Sums.{sum_by-cons}
use Rattle.dm_base.specs.declared.ids.ActId.{ActId}
use Rattle.dm_base.specs.declared.ids.EventId.{EventId}
use Rattle.dm_network.specs.declared.parts.Event.{Event}
use Rattle.dm_network.specs.declared.parts.Activity.{Activity}
use Rattle.dm_network.specs.Net.{Net, no_event, no_activity, event_at, activity_at}
use Rattle.dm_rows.specs.declared.messages.Decision.{Decision}
use Rattle.dm_rows.specs.Rows.{RowsValue, is_cancelled}
use Rattle.dm_rows.specs.Timetable.{time_at}
use Rattle.dm_rows.specs.Cost.{is_arrival, event_cost, cancelled_weight, charged_weight, is_lost_change, cost_charging, cost_of}
use Rattle.dm_rows.specs.Decide.{with_decisions}
use Rattle.dm_rows.specs.Relax.{is_relaxed_lost}
use Rattle.dm_tree.specs.Relaxed.{relaxed_cost_of}
use Rattle.dm_paths.proofs.Agreeing.{passes_one}
use Rattle.dm_parts.specs.declared.shares.Share.{Share}
use Rattle.dm_parts.specs.Shares.{has_arrival, has_change, have_arrival, have_change, event_within, activity_within, event_beside, activity_beside, within, beside, AreApart}
use Rattle.dm_parts.specs.Weights.{DifferInWeights}
use Rattle.dm_parts.specs.Laws.{CostsAddUp}
use Rattle.dm_parts.proofs.Alike.{agreeing, same_dropped, same_relaxed_dropped, same_with, is_missed, same_missed, within_differs, beside_differs}

-- sums that agree place by place
pub sum_same : (f g : ℕ → ℕ) (a n : ℕ) → ((i : ℕ) → i < a + n → f i ≡ g i) → sum_by f (range_with_len a n) ≡ sum_by g (range_with_len a n)
sum_same f g a zero h = refl
sum_same f g a (suc n) h =
    let here : f a ≡ g a = h a (omega arith) in
    let later = sum_same f g (a + 1) n (λ i lt. h i (omega arith)) in
    let e = sum_by-cons f a (range_with_len (a + 1) n) in
    let e' = sum_by-cons g a (range_with_len (a + 1) n) in
    e ∙ (ap (λ k. k + sum_by f (range_with_len (a + 1) n)) here ∙ ap (λ k. g a + k) later) ∙ sym e'

pub sum_of_sums : {X : Type 0} (f g : X → ℕ) (xs : List X) → sum_by (λ x. f x + g x) xs ≡ sum_by f xs + sum_by g xs
sum_of_sums f g [] = refl
sum_of_sums f g (x ∷ xs) =
    let later = sum_of_sums f g xs in
    let e = sum_by-cons (λ y. f y + g y) x xs in
    let e' = sum_by-cons f x xs in
    let e'' = sum_by-cons g x xs in
    omega (arith, later, e, e', e'')

pub sum_of_nothing : {X : Type 0} (xs : List X) → sum_by (λ x. 0) xs ≡ 0
sum_of_nothing [] = refl
sum_of_nothing (x ∷ xs) = let e = sum_by-cons (λ y. 0) x xs in let later = sum_of_nothing xs in omega (arith, e, later)

sum_of_products : {X : Type 0} (p : ℕ) (f : X → ℕ) (xs : List X) → sum_by (λ x. p * f x) xs ≡ p * sum_by f xs
sum_of_products p f [] = omega arith
sum_of_products p f (x ∷ xs) =
    let later = sum_of_products p f xs in
    let e = sum_by-cons (λ y. p * f y) x xs in
    let e' : p * sum_by f (x ∷ xs) ≡ p * (f x + sum_by f xs) = ap (λ n. p * n) (sum_by-cons f x xs) in
    let e'' = mul-add p (f x) (sum_by f xs) in
    omega (arith, later, e, e', e'')

-- no two of the list pass the test
abbrev AtMostOne : {X : Type 0} → (X → Bool) → List X → Type 0
AtMostOne {X} test xs = (m n : ℕ) (a b : X) → slice_get xs m ≡ Some a → slice_get xs n ≡ Some b → test a ≡ true → test b ≡ true → m ≡ n

none_passes : {X : Type 0} (test : X → Bool) (w : ℕ) (xs : List X) → ((n : ℕ) (a : X) → slice_get xs n ≡ Some a → test a ≡ true → ⊥) →
    (sum_by (λ x. cond (test x) w 0) xs ≡ 0) × (list_any test xs ≡ false)
none_passes test w [] none = (refl, refl)
none_passes test w (x ∷ xs) none = by_test (test x) refl (none_passes test w xs (λ n a at passes. none (suc n) a at passes))
  where
    by_test : (b : Bool) → test x ≡ b → (sum_by (λ y. cond (test y) w 0) xs ≡ 0) × (list_any test xs ≡ false) →
        (sum_by (λ y. cond (test y) w 0) (x ∷ xs) ≡ 0) × (list_any test (x ∷ xs) ≡ false)
    by_test true is later = absurd (none 0 x refl is)
    by_test false is later = (
      (let e = sum_by-cons (λ y. cond (test y) w 0) x xs in
          let f : cond (test x) w 0 ≡ 0 = ap (λ b. cond b w 0) is in
          let g = later.0 in
          omega (arith, e, f, g)),
      ap (λ b. b || list_any test xs) is ∙ later.1,
    )

-- what at most one takes, and what is left otherwise, is the whole
one_takes : {X : Type 0} (test : X → Bool) (w : ℕ) (xs : List X) → AtMostOne test xs →
    sum_by (λ x. cond (test x) w 0) xs + cond (list_any test xs) 0 w ≡ w
one_takes test w [] one = omega arith
one_takes test w (x ∷ xs) one = by_test (test x) refl (one_takes test w xs)
  where
    by_test : (b : Bool) → test x ≡ b → (AtMostOne test xs → sum_by (λ y. cond (test y) w 0) xs + cond (list_any test xs) 0 w ≡ w) →
        sum_by (λ y. cond (test y) w 0) (x ∷ xs) + cond (list_any test (x ∷ xs)) 0 w ≡ w
    by_test true is later =
        let none = none_passes test w xs (λ n a at passes. let same : 0 ≡ suc n = one 0 (suc n) x a refl at is passes in omega arith) in
        let e = sum_by-cons (λ y. cond (test y) w 0) x xs in
        let f : cond (test x) w 0 ≡ w = ap (λ b. cond b w 0) is in
        let g : cond (list_any test (x ∷ xs)) 0 w ≡ 0 = ap (λ b. cond (b || list_any test xs) 0 w) is in
        let zero = none.0 in
        omega (arith, e, f, g, zero)
    by_test false is later =
        let rest = later (λ m n a b at at' pa pb. let same : suc m ≡ suc n = one (suc m) (suc n) a b at at' pa pb in omega arith) in
        let e = sum_by-cons (λ y. cond (test y) w 0) x xs in
        let f : cond (test x) w 0 ≡ 0 = ap (λ b. cond b w 0) is in
        let g : cond (list_any test (x ∷ xs)) 0 w ≡ cond (list_any test xs) 0 w = ap (λ b. cond (b || list_any test xs) 0 w) is in
        omega (arith, e, f, g, rest)

-- the same over places, of which each is taken at most once
all_taken : {X : Type 0} (test : X → ℕ → Bool) (f : ℕ → ℕ) (xs : List X) → ((i : ℕ) → AtMostOne (λ x. test x i) xs) → (places : List ℕ) →
    sum_by (λ x. sum_by (λ i. cond (test x i) (f i) 0) places) xs + sum_by (λ i. cond (list_any (λ x. test x i) xs) 0 (f i)) places
    ≡ sum_by f places
all_taken test f xs one [] = let none = sum_of_nothing xs in omega (arith, none)
all_taken {X} test f xs one (i ∷ places) =
    let later = all_taken test f xs one places in
    let here = one_takes (λ x. test x i) (f i) xs (one i) in
    let each = sum_of_sums (λ x. cond (test x i) (f i) 0) (λ x. sum_by (λ j. cond (test x j) (f j) 0) places) xs in
    let e : sum_by (λ x. sum_by (λ j. cond (test x j) (f j) 0) (i ∷ places)) xs
    ≡ sum_by (λ x. cond (test x i) (f i) 0 + sum_by (λ j. cond (test x j) (f j) 0) places) xs =
    ap (λ (g : X → ℕ). sum_by g xs) (agreeing (λ x. sum_by-cons (λ j. cond (test x j) (f j) 0) i places)) in
    let e' = sum_by-cons (λ j. cond (list_any (λ x. test x j) xs) 0 (f j)) i places in
    let e'' = sum_by-cons f i places in
    omega (arith, later, here, each, e, e', e'')

-- four sums that add up, of which three are multiplied
costs_join : {X : Type 0} (f late gone dear lost : X → ℕ) (xs : List X)
    (p late_left gone_left dear_left lost_left all_late all_gone all_dear all_lost : ℕ) →
    ((x : X) → f x ≡ late x + p * gone x + p * dear x + p * lost x) → sum_by late xs + late_left ≡ all_late →
    sum_by gone xs + gone_left ≡ all_gone → sum_by dear xs + dear_left ≡ all_dear → sum_by lost xs + lost_left ≡ all_lost →
    sum_by f xs + (late_left + p * gone_left + p * dear_left + p * lost_left) ≡ all_late + p * all_gone + p * all_dear + p * all_lost
costs_join {X} f late gone dear lost xs p late_left gone_left dear_left lost_left all_late all_gone all_dear all_lost each a b c d =
    let e : sum_by f xs ≡ sum_by (λ x. late x + p * gone x + p * dear x + p * lost x) xs = ap (λ (g : X → ℕ). sum_by g xs) (agreeing each) in
    let three = sum_of_sums (λ x. late x + p * gone x + p * dear x) (λ x. p * lost x) xs in
    let two = sum_of_sums (λ x. late x + p * gone x) (λ x. p * dear x) xs in
    let one = sum_of_sums late (λ x. p * gone x) xs in
    let g' = sum_of_products p gone xs in
    let d' = sum_of_products p dear xs in
    let l' = sum_of_products p lost xs in
    let b' : p * (sum_by gone xs + gone_left) ≡ p * all_gone = ap (λ n. p * n) b in
    let c' : p * (sum_by dear xs + dear_left) ≡ p * all_dear = ap (λ n. p * n) c in
    let e' : p * (sum_by lost xs + lost_left) ≡ p * all_lost = ap (λ n. p * n) d in
    let b'' = mul-add p (sum_by gone xs) gone_left in
    let c'' = mul-add p (sum_by dear xs) dear_left in
    let e'' = mul-add p (sum_by lost xs) lost_left in
    omega (arith, e, three, two, one, g', d', l', a, b', c', e', b'', c'', e'')

-- a weight that is kept or not, in a product and under a test
kept_product : (arrives kept : Bool) (w late : ℕ) → cond arrives (cond kept w 0 * late) 0 ≡ cond kept (cond arrives (w * late) 0) 0
kept_product true true w late = refl
kept_product true false w late = omega arith
kept_product false true w late = refl
kept_product false false w late = refl

left_product : (arrives taken : Bool) (w late : ℕ) → cond arrives (cond taken 0 w * late) 0 ≡ cond taken 0 (cond arrives (w * late) 0)
left_product true true w late = omega arith
left_product true false w late = refl
left_product false true w late = refl
left_product false false w late = refl

kept_weight : (charged kept : Bool) (w : ℕ) → cond charged (cond kept w 0) 0 ≡ cond kept (cond charged w 0) 0
kept_weight true true w = refl
kept_weight true false w = refl
kept_weight false true w = refl
kept_weight false false w = refl

left_weight : (charged taken : Bool) (w : ℕ) → cond charged (cond taken 0 w) 0 ≡ cond taken 0 (cond charged w 0)
left_weight true true w = refl
left_weight true false w = refl
left_weight false true w = refl
left_weight false false w = refl

event_id : (a b : EventId) → a.0 ≡ b.0 → a ≡ b
event_id a b e = let f : ℕ → EventId = λ n. record { 0 = n } in ap f e

activity_id : (a b : ActId) → a.0 ≡ b.0 → a ≡ b
activity_id a b e = let f : ℕ → ActId = λ n. record { 0 = n } in ap f e

-- a share that has an id lists it
pub lists_arrival : (share : Share) (id : EventId) → has_arrival share id ≡ true → Contains share.arrivals id
lists_arrival share id h =
    let one = passes_one (λ (e : EventId). e.0 == id.0) share.arrivals h in
    subst (Contains share.arrivals) (event_id one.0 id (eqb-true one.0.0 id.0 one.2)) one.1

pub lists_change : (share : Share) (id : ActId) → has_change share id ≡ true → Contains share.changes id
lists_change share id h =
    let one = passes_one (λ (a : ActId). a.0 == id.0) share.changes h in
    subst (Contains share.changes) (activity_id one.0 id (eqb-true one.0.0 id.0 one.2)) one.1

-- one share is apart
one_place : (share a b : Share) (m n : ℕ) → slice_get (share ∷ []) m ≡ Some a → slice_get (share ∷ []) n ≡ Some b → m ≡ n
one_place share a b zero zero at at' = refl
one_place share a b zero (suc n) at at' = cc
one_place share a b (suc m) n at at' = cc

pub alone_is_apart : (share : Share) → AreApart (share ∷ [])
alone_is_apart share = record {
  arrivals = λ m n a b id at at' l r. one_place share a b m n at at';
  changes = λ m n a b id at at' l r. one_place share a b m n at at';
}

module _ (net : Net) (shares : List Share) (apart : AreApart shares) where
  arrival_once : (i : ℕ) → AtMostOne (λ share. has_arrival share (event_at net i).id) shares
  arrival_once i m n a b at at' pa pb =
      let id : EventId = (event_at net i).id in
      apart.arrivals m n a b id at at' (lists_arrival a id pa) (lists_arrival b id pb)

  change_once : (i : ℕ) → AtMostOne (λ share. has_change share (activity_at net i).id) shares
  change_once i m n a b at at' pa pb =
      let id : ActId = (activity_at net i).id in
      apart.changes m n a b id at at' (lists_change a id pa) (lists_change b id pb)

  -- weight times lateness of what is not cancelled
  pub late_within : (rows : RowsValue) (x : List ℕ) (share : Share) →
      sum_by (event_cost (within net share) rows x) (range_with_len 0 (length (within net share).events))
      ≡ sum_by (λ i. cond (has_arrival share (event_at net i).id) (event_cost net rows x i) 0) (range_with_len 0 (length net.events))
  late_within rows x share =
      ap (λ n. sum_by (event_cost (within net share) rows x) (range_with_len 0 n)) (length-map net.events (event_within share))
      ∙ sum_same (event_cost (within net share) rows x) (λ i. cond (has_arrival share (event_at net i).id) (event_cost net rows x i) 0) 0 (length net.events)
      (λ i lt.
      let e : Event = event_at net i in
      ap (λ y. cond (is_arrival y.kind && not (is_cancelled rows i)) (y.weight * (time_at x i - y.time)) 0)
      (get_or-map (event_within share) net.events i no_event no_event (omega (arith, lt)))
      ∙ kept_product (is_arrival e.kind && not (is_cancelled rows i)) (has_arrival share e.id) e.weight (time_at x i - e.time))

  pub late_beside : (rows : RowsValue) (x : List ℕ) →
      sum_by (event_cost (beside net shares) rows x) (range_with_len 0 (length (beside net shares).events))
      ≡ sum_by (λ i. cond (have_arrival shares (event_at net i).id) 0 (event_cost net rows x i)) (range_with_len 0 (length net.events))
  late_beside rows x =
      ap (λ n. sum_by (event_cost (beside net shares) rows x) (range_with_len 0 n)) (length-map net.events (event_beside shares))
      ∙ sum_same (event_cost (beside net shares) rows x) (λ i. cond (have_arrival shares (event_at net i).id) 0 (event_cost net rows x i)) 0 (length net.events)
      (λ i lt.
      let e : Event = event_at net i in
      ap (λ y. cond (is_arrival y.kind && not (is_cancelled rows i)) (y.weight * (time_at x i - y.time)) 0)
      (get_or-map (event_beside shares) net.events i no_event no_event (omega (arith, lt)))
      ∙ left_product (is_arrival e.kind && not (is_cancelled rows i)) (have_arrival shares e.id) e.weight (time_at x i - e.time))

  -- weights of cancelled arrivals
  pub cancelled_within : (rows : RowsValue) (share : Share) →
      sum_by (cancelled_weight (within net share) rows) (range_with_len 0 (length (within net share).events))
      ≡ sum_by (λ i. cond (has_arrival share (event_at net i).id) (cancelled_weight net rows i) 0) (range_with_len 0 (length net.events))
  cancelled_within rows share =
      ap (λ n. sum_by (cancelled_weight (within net share) rows) (range_with_len 0 n)) (length-map net.events (event_within share))
      ∙ sum_same (cancelled_weight (within net share) rows) (λ i. cond (has_arrival share (event_at net i).id) (cancelled_weight net rows i) 0) 0 (length net.events)
      (λ i lt.
      let e : Event = event_at net i in
      ap (λ y. cond (is_arrival y.kind && is_cancelled rows i) y.weight 0)
      (get_or-map (event_within share) net.events i no_event no_event (omega (arith, lt)))
      ∙ kept_weight (is_arrival e.kind && is_cancelled rows i) (has_arrival share e.id) e.weight)

  pub cancelled_beside : (rows : RowsValue) →
      sum_by (cancelled_weight (beside net shares) rows) (range_with_len 0 (length (beside net shares).events))
      ≡ sum_by (λ i. cond (have_arrival shares (event_at net i).id) 0 (cancelled_weight net rows i)) (range_with_len 0 (length net.events))
  cancelled_beside rows =
      ap (λ n. sum_by (cancelled_weight (beside net shares) rows) (range_with_len 0 n)) (length-map net.events (event_beside shares))
      ∙ sum_same (cancelled_weight (beside net shares) rows) (λ i. cond (have_arrival shares (event_at net i).id) 0 (cancelled_weight net rows i)) 0 (length net.events)
      (λ i lt.
      let e : Event = event_at net i in
      ap (λ y. cond (is_arrival y.kind && is_cancelled rows i) y.weight 0)
      (get_or-map (event_beside shares) net.events i no_event no_event (omega (arith, lt)))
      ∙ left_weight (is_arrival e.kind && is_cancelled rows i) (have_arrival shares e.id) e.weight)

  -- weights that are charged for
  pub charged_within : (charged : ℕ → Bool) (share : Share) →
      sum_by (charged_weight (within net share) charged) (range_with_len 0 (length (within net share).activities))
      ≡ sum_by (λ a. cond (has_change share (activity_at net a).id) (charged_weight net charged a) 0) (range_with_len 0 (length net.activities))
  charged_within charged share =
      ap (λ n. sum_by (charged_weight (within net share) charged) (range_with_len 0 n)) (length-map net.activities (activity_within share))
      ∙ sum_same (charged_weight (within net share) charged) (λ a. cond (has_change share (activity_at net a).id) (charged_weight net charged a) 0) 0
      (length net.activities)
      (λ a lt.
      let e : Activity = activity_at net a in
      ap (λ y. cond (charged a) y.weight 0) (get_or-map (activity_within share) net.activities a no_activity no_activity (omega (arith, lt)))
      ∙ kept_weight (charged a) (has_change share e.id) e.weight)

  pub charged_beside : (charged : ℕ → Bool) →
      sum_by (charged_weight (beside net shares) charged) (range_with_len 0 (length (beside net shares).activities))
      ≡ sum_by (λ a. cond (have_change shares (activity_at net a).id) 0 (charged_weight net charged a)) (range_with_len 0 (length net.activities))
  charged_beside charged =
      ap (λ n. sum_by (charged_weight (beside net shares) charged) (range_with_len 0 n)) (length-map net.activities (activity_beside shares))
      ∙ sum_same (charged_weight (beside net shares) charged) (λ a. cond (have_change shares (activity_at net a).id) 0 (charged_weight net charged a)) 0
      (length net.activities)
      (λ a lt.
      let e : Activity = activity_at net a in
      ap (λ y. cond (charged a) y.weight 0) (get_or-map (activity_beside shares) net.activities a no_activity no_activity (omega (arith, lt)))
      ∙ left_weight (charged a) (have_change shares e.id) e.weight)

  lateness_adds_up : (rows : RowsValue) (x : List ℕ) →
      sum_by (λ share. sum_by (event_cost (within net share) rows x) (range_with_len 0 (length (within net share).events))) shares
      + sum_by (event_cost (beside net shares) rows x) (range_with_len 0 (length (beside net shares).events))
      ≡ sum_by (event_cost net rows x) (range_with_len 0 (length net.events))
  lateness_adds_up rows x =
      ap (λ (f : Share → ℕ). sum_by f shares + sum_by (event_cost (beside net shares) rows x) (range_with_len 0 (length (beside net shares).events)))
      (agreeing (late_within rows x))
      ∙ ap
      (λ k. sum_by (λ share. sum_by (λ i. cond (has_arrival share (event_at net i).id) (event_cost net rows x i) 0) (range_with_len 0 (length net.events))) shares + k)
      (late_beside rows x)
      ∙ all_taken (λ share i. has_arrival share (event_at net i).id) (event_cost net rows x) shares arrival_once (range_with_len 0 (length net.events))

  cancelled_adds_up : (rows : RowsValue) →
      sum_by (λ share. sum_by (cancelled_weight (within net share) rows) (range_with_len 0 (length (within net share).events))) shares
      + sum_by (cancelled_weight (beside net shares) rows) (range_with_len 0 (length (beside net shares).events))
      ≡ sum_by (cancelled_weight net rows) (range_with_len 0 (length net.events))
  cancelled_adds_up rows =
      ap (λ (f : Share → ℕ). sum_by f shares + sum_by (cancelled_weight (beside net shares) rows) (range_with_len 0 (length (beside net shares).events)))
      (agreeing (cancelled_within rows))
      ∙ ap
      (λ k. sum_by (λ share. sum_by (λ i. cond (has_arrival share (event_at net i).id) (cancelled_weight net rows i) 0) (range_with_len 0 (length net.events))) shares + k)
      (cancelled_beside rows)
      ∙ all_taken (λ share i. has_arrival share (event_at net i).id) (cancelled_weight net rows) shares arrival_once (range_with_len 0 (length net.events))

  charges_add_up : (charged : ℕ → Bool) →
      sum_by (λ share. sum_by (charged_weight (within net share) charged) (range_with_len 0 (length (within net share).activities))) shares
      + sum_by (charged_weight (beside net shares) charged) (range_with_len 0 (length (beside net shares).activities))
      ≡ sum_by (charged_weight net charged) (range_with_len 0 (length net.activities))
  charges_add_up charged =
      ap
      (λ (f : Share → ℕ). sum_by f shares + sum_by (charged_weight (beside net shares) charged) (range_with_len 0 (length (beside net shares).activities)))
      (agreeing (charged_within charged))
      ∙ ap
      (λ k. sum_by (λ share. sum_by (λ a. cond (has_change share (activity_at net a).id) (charged_weight net charged a) 0) (range_with_len 0 (length net.activities))) shares + k)
      (charged_beside charged)
      ∙ all_taken (λ share a. has_change share (activity_at net a).id) (charged_weight net charged) shares change_once
      (range_with_len 0 (length net.activities))

  -- the sums that a cost is made of
  abbrev late_in : Net → RowsValue → List ℕ → ℕ
  late_in n rows x = sum_by (event_cost n rows x) (range_with_len 0 (length n.events))

  abbrev cancelled_in : Net → RowsValue → ℕ
  cancelled_in n rows = sum_by (cancelled_weight n rows) (range_with_len 0 (length n.events))

  abbrev charged_in : Net → (ℕ → Bool) → ℕ
  charged_in n charged = sum_by (charged_weight n charged) (range_with_len 0 (length n.activities))

  pub cost_is : (n : Net) (rows : RowsValue) (charged : ℕ → Bool) (x : List ℕ) (penalty : ℕ) → DifferInWeights net n →
      cost_charging n rows charged x penalty
      ≡ late_in n rows x + penalty * cancelled_in n rows + penalty * charged_in n charged + penalty * charged_in n (is_missed net rows x)
  cost_is n rows charged x penalty d =
      ap (λ (t : ℕ → Bool). late_in n rows x + penalty * cancelled_in n rows + penalty * charged_in n charged + penalty * charged_in n t)
      (sym (agreeing (same_missed net n d rows x)))

  pub adds_up : (rows : RowsValue) (charged : ℕ → Bool) (x : List ℕ) (penalty : ℕ) →
      cost_charging net rows charged x penalty
      ≡ sum_by (λ share. cost_charging (within net share) rows charged x penalty) shares
      + cost_charging (beside net shares) rows charged x penalty
  adds_up rows charged x penalty =
      let missed : ℕ → Bool = is_missed net rows x in
      sym (costs_join (λ share. cost_charging (within net share) rows charged x penalty) (λ share. late_in (within net share) rows x)
      (λ share. cancelled_in (within net share) rows)
      (λ share. charged_in (within net share) charged) (λ share. charged_in (within net share) missed) shares penalty
      (late_in (beside net shares) rows x) (cancelled_in (beside net shares) rows)
      (charged_in (beside net shares) charged) (charged_in (beside net shares) missed)
      (late_in net rows x) (cancelled_in net rows) (charged_in net charged) (charged_in net missed)
      (λ share. cost_is (within net share) rows charged x penalty (within_differs net share))
      (lateness_adds_up rows x) (cancelled_adds_up rows) (charges_add_up charged) (charges_add_up missed))
      ∙ ap (λ k. sum_by (λ share. cost_charging (within net share) rows charged x penalty) shares + k)
      (sym (cost_is (beside net shares) rows charged x penalty (beside_differs net shares)))

  pub costs : (rows : RowsValue) (x : List ℕ) (penalty : ℕ) →
      cost_of net rows x penalty
      ≡ sum_by (λ share. cost_of (within net share) rows x penalty) shares + cost_of (beside net shares) rows x penalty
  costs rows x penalty =
      adds_up rows (is_lost_change net rows) x penalty
      ∙ ap (λ (f : Share → ℕ). sum_by f shares + cost_charging (beside net shares) rows (is_lost_change net rows) x penalty)
      (agreeing (λ share. ap (λ (t : ℕ → Bool). cost_charging (within net share) rows t x penalty)
      (agreeing (same_dropped net (within net share) (within_differs net share) rows))))
      ∙ ap (λ (t : ℕ → Bool). sum_by (λ share. cost_of (within net share) rows x penalty) shares + cost_charging (beside net shares) rows t x penalty)
      (agreeing (same_dropped net (beside net shares) (beside_differs net shares) rows))

  relaxed_in : (n : Net) (rows : RowsValue) (path : List Decision) (x : List ℕ) (penalty : ℕ) → DifferInWeights net n →
      cost_charging n (with_decisions net rows path) (is_relaxed_lost net rows path) x penalty ≡ relaxed_cost_of n rows path x penalty
  relaxed_in n rows path x penalty d =
      ap (λ (t : ℕ → Bool). cost_charging n (with_decisions net rows path) t x penalty) (agreeing (same_relaxed_dropped net n d rows path))
      ∙ ap (λ (r : RowsValue). cost_charging n r (is_relaxed_lost n rows path) x penalty) (same_with net n d rows path)

  pub relaxed : (rows : RowsValue) (path : List Decision) (x : List ℕ) (penalty : ℕ) →
      relaxed_cost_of net rows path x penalty
      ≡ sum_by (λ share. relaxed_cost_of (within net share) rows path x penalty) shares
      + relaxed_cost_of (beside net shares) rows path x penalty
  relaxed rows path x penalty =
      adds_up (with_decisions net rows path) (is_relaxed_lost net rows path) x penalty
      ∙ ap
      (λ (f : Share → ℕ). sum_by f shares
      + cost_charging (beside net shares) (with_decisions net rows path) (is_relaxed_lost net rows path) x penalty)
      (agreeing (λ share. relaxed_in (within net share) rows path x penalty (within_differs net share)))
      ∙ ap (λ k. sum_by (λ share. relaxed_cost_of (within net share) rows path x penalty) shares + k)
      (relaxed_in (beside net shares) rows path x penalty (beside_differs net shares))

pub costs_add_up : CostsAddUp
costs_add_up = record {
  costs = λ net rows shares x penalty apart. costs net shares apart rows x penalty;
  relaxed = λ net rows path shares x penalty apart. relaxed net shares apart rows path x penalty;
}
