-- Pairs in order, and the pairs that headways form.
use Rattle.std.proofs.Common.{◌≡◌, ◌≢◌, ℕ, zero, suc, ◌+◌, ◌-◌, ◌<◌, ◌≤◌, ◌⊎◌, ◌&&◌, Bool, true, false, cond, eqb, ltb, List, [], ◌∷◌, ◌++◌, length, map, take, get_or, set, refl, sym, ap, ◌∙◌, subst, inl, inr, arith, Some, None, Option, filter_map, IsPermutation, Contains}
use Rattle.std.specs.List.{cons_option}
use Rattle.std.specs.List.Sorted.{IsPartitionPoint, IsPartitionedBy, IsSortedBy}
use Rattle.std.specs.Ordering.{nat_cmp, is_lt, ordering_then}
use Rattle.std.proofs.lemmas.Bool.{cases_order, cases_eq, cases_lt, both_ways, eqb-true, eq-eqb, lt-ltb, le-ltb, ltb-true, and_parts, and_from}
use Rattle.std.proofs.lemmas.List.{get_or_default, get_or_append_left, get_or_push, length-append, same_lists, get_or-map, length-map, length-set, get_or-set_same, get_or-set_other, take_at}
use Rattle.std.proofs.lemmas.List.Sorted.{Contains-permutation, IsPermutation-sym}
use Rattle.std.proofs.lemmas.List.Elements.{Contains-push, Contains-push_cases, Contains-append_left, Contains-get_or}
use Rattle.dm_network.specs.declared.parts.Activity.{Activity}
use Rattle.dm_network.specs.declared.parts.Pair.{Pair}
use Rattle.dm_network.specs.Net.{no_pair, no_activity, is_headway}
use Rattle.dm_network.specs.Pairs.{ComesBefore}
use Rattle.dm_network.specs.Inside.Flat.{ArePairsInOrder, stands_before}
use Rattle.dm_network.specs.Inside.Stages.{HasHeadway, headway_pair, upward_pair, downward_pair, PairsDoNotFall, AreCommon, AreTwoWay, with_pair, AscendStrictly, DiffersFromLast}
use Rattle.dm_network.proofs.PairKeys.{stands_before-true, stands_before-from}

pub same_pair : (p q : Pair) → p.small ≡ q.small → p.large ≡ q.large → p ≡ q
same_pair p q s l = rw (← s, ← l) refl

pub pair_cases : (p q : Pair) → ComesBefore p q ⊎ ((p ≡ q) ⊎ ComesBefore q p)
pair_cases p q =
    elim (cases_order p.small q.small) [
      | inl same ↦
          elim (cases_order p.large q.large) [
            | inl too ↦ inr (inl (same_pair p q same too))
            | inr (inl less) ↦ inl (inr (same, less))
            | inr (inr more) ↦ inr (inr (inr (sym same, more)))
          ]
      | inr (inl less) ↦ inl (inl less)
      | inr (inr more) ↦ inr (inr (inl more))
    ]

pub before_trans : (p q r : Pair) → ComesBefore p q → ComesBefore q r → ComesBefore p r
before_trans p q r a b =
    elim a [
      | inl less ↦ elim b [ inl more ↦ inl (omega arith) | inr tie ↦ let t = tie.0 in inl (omega arith) ]
      | inr tie ↦ elim b [ inl more ↦ let t = tie.0 in inl (omega arith) | inr too ↦ let t = tie.1 in let u = too.1 in inr (tie.0 ∙ too.0, omega arith) ]
    ]

pub never_before_itself : (p : Pair) → ComesBefore p p → ⊥
never_before_itself p h = elim h [ inl less ↦ omega arith | inr tie ↦ let t = tie.1 in omega arith ]

-- what does not come before one, when that one does not come before another, does not come before the other
pub not_before_trans : (p q r : Pair) → (ComesBefore q p → ⊥) → (ComesBefore r q → ⊥) → ComesBefore r p → ⊥
not_before_trans p q r a b h =
    elim (pair_cases p q) [
      | inl less ↦ b (before_trans r p q h less)
      | inr (inl same) ↦ b (subst (λ x. ComesBefore r x) same h)
      | inr (inr more) ↦ a more
    ]

-- the order of the sort is that of pairs
pub sorts_before : (p q : Pair) → ComesBefore p q → is_lt (ordering_then (nat_cmp p.small q.small) (nat_cmp p.large q.large)) ≡ true
sorts_before p q h =
    elim h [
      | inl less ↦ let a = lt-ltb p.small q.small less in rw a refl
      | inr tie ↦
          let a = le-ltb p.small q.small (let t = tie.0 in omega arith) in
          let b = eq-eqb p.small q.small tie.0 in
          let c = lt-ltb p.large q.large tie.1 in
          rw (a, b, c) refl
    ]

module _ (pairs : List Pair)
    (sorted : IsSortedBy (λ p q. is_lt (ordering_then (nat_cmp p.small q.small) (nat_cmp p.large q.large))) pairs) where
  adjacent : (k : ℕ) → k + 1 < length pairs → ComesBefore (get_or pairs (k + 1) no_pair) (get_or pairs k no_pair) → ⊥
  adjacent k lt h =
      let s = sorted k no_pair (omega arith) lt in
      let t = sorts_before (get_or pairs (k + 1) no_pair) (get_or pairs k no_pair) h in
      both_ways _ s t

  far : (i n : ℕ) → i + n < length pairs → ComesBefore (get_or pairs (i + n) no_pair) (get_or pairs i no_pair) → ⊥
  far i zero lt h =
      let e : i + 0 ≡ i = omega arith in
      never_before_itself (get_or pairs i no_pair) (subst (λ m. ComesBefore (get_or pairs m no_pair) (get_or pairs i no_pair)) e h)
  far i (suc n) lt h =
      let e : i + suc n ≡ i + n + 1 = omega arith in
      not_before_trans (get_or pairs i no_pair) (get_or pairs (i + n) no_pair) (get_or pairs (i + n + 1) no_pair)
      (far i n (omega arith)) (adjacent (i + n) (omega arith))
      (subst (λ m. ComesBefore (get_or pairs m no_pair) (get_or pairs i no_pair)) e h)

  pub sorted_do_not_fall : PairsDoNotFall pairs
  sorted_do_not_fall i j le lt h =
      let e : i + (j - i) ≡ j = omega arith in
      far i (j - i) (omega arith) (subst (λ m. ComesBefore (get_or pairs m no_pair) (get_or pairs i no_pair)) (sym e) h)

module _ (pairs : List Pair) (up : PairsDoNotFall pairs) where
  pub falls_nowhere : (i j : ℕ) (d : Pair) → i ≤ j → j < length pairs → ComesBefore (get_or pairs j d) (get_or pairs i d) → ⊥
  falls_nowhere i j d le lt h =
      up i j le lt
      (subst (λ p. ComesBefore p (get_or pairs i no_pair)) (get_or_default pairs j d no_pair lt)
      (subst (λ p. ComesBefore (get_or pairs j d) p) (get_or_default pairs i d no_pair (omega arith)) h))

  pub do_not_fall_partitioned : (small large : ℕ) → IsPartitionedBy (λ p. stands_before p small large) pairs
  do_not_fall_partitioned small large i j d le lt h =
      let target : Pair = record { small = small; large = large } in
      let b : ComesBefore (get_or pairs j d) target = stands_before-true (get_or pairs j d) small large h in
      elim (pair_cases (get_or pairs i d) target) [
        | inl before ↦ stands_before-from (get_or pairs i d) small large before
        | inr (inl same) ↦ absurd (falls_nowhere i j d le lt (subst (λ x. ComesBefore (get_or pairs j d) x) (sym same) b))
        | inr (inr after) ↦ absurd (falls_nowhere i j d le lt (before_trans (get_or pairs j d) target (get_or pairs i d) b after))
      ]

  pub contained_there : (p : Pair) (q : ℕ) (d : Pair) → q < length pairs → (get_or pairs q d).small ≡ p.small → (get_or pairs q d).large ≡ p.large → Contains pairs p
  contained_there p q d lt s l = (q, lt, get_or_default pairs q p d lt ∙ same_pair (get_or pairs q d) p s l)

  pub contained_nowhere : (p : Pair) (q : ℕ) (d : Pair) → q ≤ length pairs →
      IsPartitionPoint (λ x. stands_before x p.small p.large ≡ true) (λ x. stands_before x p.small p.large ≡ false) pairs q →
      (q < length pairs → (get_or pairs q d).small ≡ p.small → (get_or pairs q d).large ≡ p.large → ⊥) → Contains pairs p → ⊥
  contained_nowhere p q d le part other h =
      let k = h.0 in
      let kd : get_or pairs h.0 d ≡ p = get_or_default pairs h.0 d p h.1 ∙ h.2 in
      elim (cases_lt h.0 q) [
        | inl before ↦
            let t = stands_before-true (get_or pairs h.0 d) p.small p.large (part.0 h.0 d (omega arith) before) in
            never_before_itself p (subst (λ x. ComesBefore x p) kd t)
        | inr after ↦
            let lt = h.1 in
            let in' : q < length pairs = omega arith in
            elim (pair_cases (get_or pairs q d) p) [
              | inl less ↦
                  let y = stands_before-from (get_or pairs q d) p.small p.large less in
                  let n = part.1 q d (omega arith) in' in
                  both_ways _ n y
              | inr (inl same) ↦ other in' (ap (λ x. x.small) same) (ap (λ x. x.large) same)
              | inr (inr more) ↦ falls_nowhere q h.0 d after lt (subst (λ x. ComesBefore x (get_or pairs q d)) (sym kd) more)
            ]
      ]

-- the pairs of the first places that stand in both lists
pub record AreCommonTo (upward downward : List Pair) (i : ℕ) (pairs : List Pair) : Type 0 where
  pub in_order : AscendStrictly pairs
  pub from_upward : (p : Pair) → Contains pairs p → (k : ℕ) × (k < i) × (get_or upward k no_pair ≡ p)
  pub from_downward : (p : Pair) → Contains pairs p → Contains downward p
  pub all : (k : ℕ) → k < i → Contains downward (get_or upward k no_pair) → Contains pairs (get_or upward k no_pair)

module _ (upward downward : List Pair) (i : ℕ) (pairs : List Pair) (is : AreCommonTo upward downward i pairs) where
  later : (p : Pair) → Contains pairs p → (k : ℕ) × (k < i + 1) × (get_or upward k no_pair ≡ p)
  later p h = let f = is.from_upward p h in let lt = f.1 in (f.0, omega arith, f.2)

  skip : (Contains downward (get_or upward i no_pair) → Contains pairs (get_or upward i no_pair)) → AreCommonTo upward downward (i + 1) pairs
  skip here = record {
    in_order = is.in_order;
    from_upward = later;
    from_downward = is.from_downward;
    all = λ k lt c. elim (cases_eq k i) [
      | inl same ↦ subst (λ m. Contains pairs (get_or upward m no_pair)) (sym same) (here (subst (λ m. Contains downward (get_or upward m no_pair)) same c))
      | inr other ↦ is.all k (omega arith) c
    ];
  }

  pub common_absent : (Contains downward (get_or upward i no_pair) → ⊥) → AreCommonTo upward downward (i + 1) pairs
  common_absent none = skip (λ c. absurd (none c))

  pub common_again : (DiffersFromLast pairs (get_or upward i no_pair) → ⊥) → AreCommonTo upward downward (i + 1) pairs
  common_again old = skip (λ _.
      elim (cases_lt 0 (length pairs)) [
        | inl some ↦
            elim (pair_cases (get_or pairs (length pairs - 1) no_pair) (get_or upward i no_pair)) [
              | inl less ↦ absurd (old (λ _ same. never_before_itself (get_or upward i no_pair) (subst (λ x. ComesBefore x (get_or upward i no_pair)) same less)))
              | inr (inl same) ↦ subst (λ x. Contains pairs x) same (Contains-get_or pairs (length pairs - 1) no_pair (omega arith))
              | inr (inr more) ↦ absurd (old (λ _ same. never_before_itself (get_or upward i no_pair) (subst (λ x. ComesBefore (get_or upward i no_pair) x) same more)))
            ]
        | inr none ↦ absurd (old (λ some. absurd (omega arith)))
      ])

  before_new : PairsDoNotFall upward → i < length upward → DiffersFromLast pairs (get_or upward i no_pair) →
      (j : ℕ) → j < length pairs → ComesBefore (get_or pairs j no_pair) (get_or upward i no_pair)
  before_new up lt new j in' =
      let last : ℕ = length pairs - 1 in
      let f = is.from_upward (get_or pairs (length pairs - 1) no_pair) (Contains-get_or pairs (length pairs - 1) no_pair (omega arith)) in
      let below = f.1 in
      let ends : ComesBefore (get_or pairs (length pairs - 1) no_pair) (get_or upward i no_pair) =
      elim (pair_cases (get_or pairs (length pairs - 1) no_pair) (get_or upward i no_pair)) [
        | inl less ↦ less
        | inr (inl same) ↦ absurd (new (omega arith) same)
        | inr (inr more) ↦ absurd (up f.0 i (omega arith) lt (subst (λ x. ComesBefore (get_or upward i no_pair) x) (sym f.2) more))
      ] in
      elim (cases_eq j (length pairs - 1)) [
        | inl at ↦ subst (λ m. ComesBefore (get_or pairs m no_pair) (get_or upward i no_pair)) (sym at) ends
        | inr other ↦
            before_trans (get_or pairs j no_pair) (get_or pairs (length pairs - 1) no_pair) (get_or upward i no_pair)
            (is.in_order j (length pairs - 1) (omega arith) (omega arith)) ends
      ]

  pub common_more : (up : PairsDoNotFall upward) → i < length upward → DiffersFromLast pairs (get_or upward i no_pair) →
      Contains downward (get_or upward i no_pair) → AreCommonTo upward downward (i + 1) (pairs ++ get_or upward i no_pair ∷ [])
  common_more up lt new down = record {
    in_order = λ j k before in'.
        let old : get_or (pairs ++ get_or upward i no_pair ∷ []) j no_pair ≡ get_or pairs j no_pair =
        get_or_append_left pairs (get_or upward i no_pair ∷ []) no_pair j (omega (arith, length-append pairs (get_or upward i no_pair ∷ []))) in
        elim (cases_lt k (length pairs)) [
          | inl lower ↦
              let too : get_or (pairs ++ get_or upward i no_pair ∷ []) k no_pair ≡ get_or pairs k no_pair =
              get_or_append_left pairs (get_or upward i no_pair ∷ []) no_pair k lower in
              rw (old, too) (is.in_order j k before lower)
          | inr end ↦
              let at : length pairs ≡ k = omega (arith, length-append pairs (get_or upward i no_pair ∷ [])) in
              let here : get_or (pairs ++ get_or upward i no_pair ∷ []) k no_pair ≡ get_or upward i no_pair =
              get_or_push pairs (get_or upward i no_pair) no_pair k at in
              rw (old, here) (before_new up lt new j (omega arith))
        ];
    from_upward = λ p h. elim (Contains-push_cases pairs (get_or upward i no_pair) p h) [
      | inl old ↦ later p old
      | inr here ↦ (i, omega arith, here)
    ];
    from_downward = λ p h. elim (Contains-push_cases pairs (get_or upward i no_pair) p h) [
      | inl old ↦ is.from_downward p old
      | inr here ↦ subst (λ x. Contains downward x) here down
    ];
    all = λ k below c. elim (cases_eq k i) [
      | inl same ↦ subst (λ m. Contains (pairs ++ get_or upward i no_pair ∷ []) (get_or upward m no_pair)) (sym same) (Contains-push pairs (get_or upward i no_pair))
      | inr other ↦ Contains-append_left pairs (get_or upward i no_pair ∷ []) (get_or upward k no_pair) (is.all k (omega arith) c)
    ];
  }

  pub common_all : i ≡ length upward → AreCommon upward downward pairs
  common_all all p = (
    (λ h. let f = is.from_upward p h in let lt = f.1 in ((f.0, omega arith, get_or_default upward f.0 p no_pair (omega arith) ∙ f.2), is.from_downward p h)),
    (λ h.
        let lt = h.0.1 in
        let e : get_or upward h.0.0 no_pair ≡ p = get_or_default upward h.0.0 no_pair p lt ∙ h.0.2 in
        subst (λ x. Contains pairs x) e (is.all h.0.0 (omega arith) (subst (λ x. Contains downward x) (sym e) h.1))),
  )

some_same : (p q : Pair) → Some p ≡ Some q → p ≡ q
some_same p q h = cc

-- what a filter that maps keeps
module _ {X Y : Type 0} (f : X → Option Y) where
  pub record ComesFrom (xs : List X) (y : Y) : Type 0 where
    pub place : ℕ
    pub within : place < length xs
    pub given : (d : X) → f (get_or xs place d) ≡ Some y

  gives_later : (x : X) (xs : List X) (y : Y) → ComesFrom xs y → ComesFrom (x ∷ xs) y
  gives_later x xs y g = let w = g.within in record { place = suc g.place; within = omega arith; given = g.given }

  gives_first : (x : X) (xs : List X) (y : Y) (o : Option Y) → f x ≡ o → (Contains (filter_map f xs) y → ComesFrom xs y) →
      Contains (cons_option o (filter_map f xs)) y → ComesFrom (x ∷ xs) y
  gives_first x xs y None e more c = gives_later x xs y (more c)
  gives_first x xs y (Some z) e more (zero, lt, is) = record { place = 0; within = omega arith; given = λ d. e ∙ ap Some is }
  gives_first x xs y (Some z) e more (suc k, lt, is) = gives_later x xs y (more (k, omega arith, is))

  pub gives_from : (xs : List X) (y : Y) → Contains (filter_map f xs) y → ComesFrom xs y
  gives_from [] y h = let lt = h.1 in absurd (omega arith)
  gives_from (x ∷ xs) y h = gives_first x xs y (f x) refl (gives_from xs y) h

  contains_later : (z : Y) (ys : List Y) (y : Y) → Contains ys y → Contains (z ∷ ys) y
  contains_later z ys y (k, lt, is) = (suc k, omega arith, is)

  pub gives_to : (xs : List X) (k : ℕ) (d : X) (y : Y) → k < length xs → f (get_or xs k d) ≡ Some y → Contains (filter_map f xs) y
  gives_to [] k d y lt h = absurd (omega arith)
  gives_to (x ∷ xs) zero d y lt h = rw h (0, omega arith, refl)
  gives_to (x ∷ xs) (suc k) d y lt h = go (f x) refl (gives_to xs k d y (omega arith) h)
    where
      go : (o : Option Y) → f x ≡ o → Contains (filter_map f xs) y → Contains (cons_option o (filter_map f xs)) y
      go None e c = c
      go (Some z) e c = contains_later z (filter_map f xs) y c

upward_pair-from : (a : Activity) (p : Pair) → is_headway a.kind ≡ true → a.tail ≡ p.small → a.head ≡ p.large → p.small < p.large → upward_pair a ≡ Some p
upward_pair-from a p headway t h lt =
    let less = lt-ltb a.tail a.head (omega arith) in
    rw (headway, less) (ap Some (same_pair (record { small = a.tail; large = a.head }) p t h))

downward_pair-from : (a : Activity) (p : Pair) → is_headway a.kind ≡ true → a.tail ≡ p.large → a.head ≡ p.small → p.small < p.large → downward_pair a ≡ Some p
downward_pair-from a p headway t h lt =
    let less = lt-ltb a.head a.tail (omega arith) in
    rw (headway, less) (ap Some (same_pair (record { small = a.head; large = a.tail }) p h t))

-- what the two tests say of an activity that passes
pub record Leads (a : Activity) (p : Pair) (tail head : ℕ) : Type 0 where
  pub headway : is_headway a.kind ≡ true
  pub rises : p.small < p.large
  pub tail_is : a.tail ≡ tail
  pub head_is : a.head ≡ head

-- and of the pair of its ends, where the first of two of them is the smaller one
ends_are : (a : Activity) (small large : ℕ) (p : Pair) → headway_pair a small large ≡ Some p →
    (is_headway a.kind ≡ true) × (p.small < p.large) × (small ≡ p.small) × (large ≡ p.large)
ends_are a small large p h = go (is_headway a.kind && ltb small large) refl h
  where
    go : (b : Bool) → (is_headway a.kind && ltb small large) ≡ b → cond b (Some (record { small = small; large = large })) None ≡ Some p →
        (is_headway a.kind ≡ true) × (p.small < p.large) × (small ≡ p.small) × (large ≡ p.large)
    go false e h = cc
    go true e h =
        let both = and_parts (is_headway a.kind) (ltb small large) e in
        let lt = ltb-true small large both.1 in
        let is : record { small = small; large = large } ≡ p = some_same (record { small = small; large = large }) p h in
        let s : small ≡ p.small = ap (λ x. x.small) is in
        let l : large ≡ p.large = ap (λ x. x.large) is in
        (both.0, omega arith, s, l)

upward_pair-leads : (a : Activity) (p : Pair) → upward_pair a ≡ Some p → Leads a p p.small p.large
upward_pair-leads a p h = let is = ends_are a a.tail a.head p h in record { headway = is.0; rises = is.1; tail_is = is.2; head_is = is.3 }

downward_pair-leads : (a : Activity) (p : Pair) → downward_pair a ≡ Some p → Leads a p p.large p.small
downward_pair-leads a p h = let is = ends_are a a.head a.tail p h in record { headway = is.0; rises = is.1; tail_is = is.3; head_is = is.2 }

headway_among : (activities : List Activity) (k : ℕ) (p : Pair) (i j : ℕ) → k < length activities → Leads (get_or activities k no_activity) p i j → HasHeadway activities i j
headway_among activities k p i j lt is = (k, record { is_activity = lt; headway = is.headway; tail = is.tail_is; head = is.head_is })

-- pairs that stand among the upward and among the downward headways are the two-way ones
pub common_are_two_way : (activities : List Activity) (up up' down down' pairs : List Pair) →
    up ≡ filter_map upward_pair activities → IsPermutation up up' → down ≡ filter_map downward_pair activities → IsPermutation down down' →
    AreCommon up' down' pairs → AreTwoWay activities pairs
common_are_two_way activities up up' down down' pairs up_is up_same down_is down_same common p = (
  (λ h.
      let c = (common p).0 h in
      let u = gives_from upward_pair activities p (subst (λ xs. Contains xs p) up_is (Contains-permutation up' up p (IsPermutation-sym up up' up_same) c.0)) in
      let d = gives_from downward_pair activities p (subst (λ xs. Contains xs p) down_is (Contains-permutation down' down p (IsPermutation-sym down down' down_same) c.1)) in
      let ul = upward_pair-leads (get_or activities u.place no_activity) p (u.given no_activity) in
      let dl = downward_pair-leads (get_or activities d.place no_activity) p (d.given no_activity) in
      (ul.rises, headway_among activities u.place p p.small p.large u.within ul, headway_among activities d.place p p.large p.small d.within dl)),
  (λ (lt, u, d).
      (common p).1 (
        Contains-permutation up up' p up_same (subst (λ xs. Contains xs p) (sym up_is)
            (gives_to upward_pair activities u.0 no_activity p u.1.is_activity (upward_pair-from (get_or activities u.0 no_activity) p u.1.headway u.1.tail u.1.head lt))),
        Contains-permutation down down' p down_same (subst (λ xs. Contains xs p) (sym down_is)
            (gives_to downward_pair activities d.0 no_activity p d.1.is_activity (downward_pair-from (get_or activities d.0 no_activity) p d.1.headway d.1.tail d.1.head lt))),
      )),
)

pub two_way_in_order : (activities : List Activity) (pairs : List Pair) → AscendStrictly pairs → AreTwoWay activities pairs → ArePairsInOrder pairs
two_way_in_order activities pairs up two_way = record {
  smaller_first = λ p lt. ((two_way (get_or pairs p no_pair)).0 (Contains-get_or pairs p no_pair lt)).0;
  ascending = up;
}

-- the first activities have their pairs
pub record ArePairedTo (pairs : List Pair) (old : List Activity) (i : ℕ) (items : List Activity) : Type 0 where
  pub as_many : length items ≡ length old
  pub front : (k : ℕ) (d : Activity) → k < i → k < length old → get_or items k d ≡ with_pair pairs (get_or old k d)
  pub rest : (k : ℕ) (d : Activity) → i ≤ k → get_or items k d ≡ get_or old k d

pub paired_more : (pairs : List Pair) (old : List Activity) (i : ℕ) (items : List Activity) (a : Activity) → ArePairedTo pairs old i items → i < length items →
    ((d : Activity) → a ≡ with_pair pairs (get_or items i d)) → ArePairedTo pairs old (i + 1) (set items i a)
paired_more pairs old i items a is lt at = record {
  as_many = length-set items i a ∙ is.as_many;
  front = λ k d below in'.
      elim (cases_eq k i) [
        | inl same ↦
            subst (λ m. get_or (set items i a) m d ≡ with_pair pairs (get_or old m d)) (sym same)
            (get_or-set_same items i a d lt ∙ at d ∙ ap (with_pair pairs) (is.rest i d (omega arith)))
        | inr other ↦ get_or-set_other items i k a d other ∙ is.front k d (omega arith) in'
      ];
  rest = λ k d le. let ne : k ≢ i = omega arith in get_or-set_other items i k a d ne ∙ is.rest k d (omega arith);
}

pub paired_all : (pairs : List Pair) (old : List Activity) (i : ℕ) (items : List Activity) → ArePairedTo pairs old i items → length old ≤ i →
    items ≡ map (with_pair pairs) old
paired_all pairs old i items is all =
    same_lists items (map (with_pair pairs) old) (is.as_many ∙ sym (length-map old (with_pair pairs)))
    (λ k d lt. let n = is.as_many in is.front k d (omega arith) (omega arith) ∙ sym (get_or-map (with_pair pairs) old k d d (omega arith)))

pub written_back : {X : Type 0} (n : ℕ) (xs ys : List X) → length xs ≡ n → take n (xs ++ ys) ≡ xs
written_back n xs ys h = take_at xs ys n h

-- the derived test of two pairs
pub pairs_equal : (p q : Pair) (b : Bool) → b ≡ (eqb p.small q.small && eqb p.large q.large) → ((b ≡ true → p ≡ q) × (p ≡ q → b ≡ true))
pairs_equal p q b e = (
  (λ t. let both = and_parts (eqb p.small q.small) (eqb p.large q.large) (sym e ∙ t) in
      same_pair p q (eqb-true p.small q.small both.0) (eqb-true p.large q.large both.1)),
  (λ h. e ∙ and_from (eqb p.small q.small) (eqb p.large q.large) (eq-eqb p.small q.small (ap (λ x. x.small) h)) (eq-eqb p.large q.large (ap (λ x. x.large) h))),
)

pub paired_none : (pairs : List Pair) (old : List Activity) → ArePairedTo pairs old 0 old
paired_none pairs old = record { as_many = refl; front = λ k d lt. absurd (omega arith); rest = λ k d le. refl }

pub paired_step : (pairs : List Pair) (old : List Activity) (i : ℕ) (items : List Activity) (pair : Option ℕ) → ArePairedTo pairs old i items → i < length items →
    pair ≡ (with_pair pairs (get_or items i no_activity)).pair →
    ArePairedTo pairs old (i + 1) (set items i (record (get_or items i no_activity) { pair = pair }))
paired_step pairs old i items pair is lt e =
    paired_more pairs old i items (record (get_or items i no_activity) { pair = pair }) is lt
    (λ d. ap (λ p. record (get_or items i no_activity) { pair = p }) e ∙ ap (with_pair pairs) (get_or_default items i no_activity d lt))
