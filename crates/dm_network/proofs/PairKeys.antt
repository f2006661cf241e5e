-- Look-ups of pairs by their two events.
use Rattle.std.proofs.Common.{◌≡◌, ℕ, ◌<◌, ◌≤◌, ◌⊎◌, Bool, true, false, eqb, ltb, ◌&&◌, List, length, get_or, refl, sym, ◌∙◌, subst, inl, inr, arith, Some, None, position}
use Rattle.std.specs.List.{position_or_len}
use Rattle.std.specs.List.Sorted.{IsPartitionPoint, IsPartitionedBy}
use Rattle.std.proofs.lemmas.Bool.{cases_order, cases_eq, ltb-true, eqb-true, eq-eqb, lt-ltb, le-ltb, or_cases, or_left, or_right, and_parts, and_from, false_from_ne_true}
use Rattle.std.proofs.lemmas.List.{get_or_default}
use Rattle.std.proofs.lemmas.List.Sums.{position_or_len_is}
use Rattle.dm_network.specs.declared.parts.Pair.{Pair}
use Rattle.dm_network.specs.Net.{no_pair}
use Rattle.dm_network.specs.Pairs.{joins, ComesBefore}
use Rattle.dm_network.specs.Inside.Flat.{ArePairsInOrder, stands_before}

-- the test that stands_before makes
pub stands_before-true : (p : Pair) (small large : ℕ) → stands_before p small large ≡ true → (p.small < small) ⊎ ((p.small ≡ small) × (p.large < large))
stands_before-true p small large h =
    elim (or_cases (ltb p.small small) (eqb p.small small && ltb p.large large) h) [
      | inl less ↦ inl (ltb-true p.small small less)
      | inr tie ↦
          let both = and_parts (eqb p.small small) (ltb p.large large) tie in
          inr (eqb-true p.small small both.0, ltb-true p.large large both.1)
    ]

pub stands_before-from : (p : Pair) (small large : ℕ) → (p.small < small) ⊎ ((p.small ≡ small) × (p.large < large)) → stands_before p small large ≡ true
stands_before-from p small large h =
    elim h [
      | inl less ↦ or_left (ltb p.small small) (eqb p.small small && ltb p.large large) (lt-ltb p.small small less)
      | inr tie ↦ or_right (ltb p.small small) (eqb p.small small && ltb p.large large)
          (and_from (eqb p.small small) (ltb p.large large) (eq-eqb p.small small tie.0) (lt-ltb p.large large tie.1))
    ]

-- a test passes exactly the pair of these two events
pub record PassesOnly (test : Pair → Bool) (small large : ℕ) : Type 0 where
  pub passes : (p : Pair) → p.small ≡ small → p.large ≡ large → test p ≡ true
  pub only : (p : Pair) → p.small < p.large → test p ≡ true → (p.small ≡ small) × (p.large ≡ large)

pub joins-from : (p : Pair) (i j : ℕ) → ((p.small ≡ i) × (p.large ≡ j)) ⊎ ((p.small ≡ j) × (p.large ≡ i)) → joins p i j ≡ true
joins-from p i j h =
    elim h [
      | inl s ↦ or_left (eqb p.small i && eqb p.large j) (eqb p.small j && eqb p.large i)
          (and_from (eqb p.small i) (eqb p.large j) (eq-eqb p.small i s.0) (eq-eqb p.large j s.1))
      | inr s ↦ or_right (eqb p.small i && eqb p.large j) (eqb p.small j && eqb p.large i)
          (and_from (eqb p.small j) (eqb p.large i) (eq-eqb p.small j s.0) (eq-eqb p.large i s.1))
    ]

pub joins-true : (p : Pair) (i j : ℕ) → joins p i j ≡ true → ((p.small ≡ i) × (p.large ≡ j)) ⊎ ((p.small ≡ j) × (p.large ≡ i))
joins-true p i j h =
    elim (or_cases (eqb p.small i && eqb p.large j) (eqb p.small j && eqb p.large i) h) [
      | inl s ↦ let b = and_parts (eqb p.small i) (eqb p.large j) s in inl (eqb-true p.small i b.0, eqb-true p.large j b.1)
      | inr s ↦ let b = and_parts (eqb p.small j) (eqb p.large i) s in inr (eqb-true p.small j b.0, eqb-true p.large i b.1)
    ]

pub joins_forward : (small large : ℕ) → small ≤ large → PassesOnly (λ p. joins p small large) small large
joins_forward small large le = record {
  passes = λ p s l. joins-from p small large (inl (s, l));
  only = λ p up h. elim (joins-true p small large h) [ inl b ↦ (b.0, b.1) | inr b ↦ absurd (omega arith) ];
}

pub joins_backward : (small large : ℕ) → small ≤ large → PassesOnly (λ p. joins p large small) small large
joins_backward small large le = record {
  passes = λ p s l. joins-from p large small (inr (s, l));
  only = λ p up h. elim (joins-true p large small h) [ inl b ↦ absurd (omega arith) | inr b ↦ (b.0, b.1) ];
}

module _ (pairs : List Pair) (ok : ArePairsInOrder pairs) where
  pub pairs_come_before : (i j : ℕ) (d : Pair) → i < j → j < length pairs → ComesBefore (get_or pairs i d) (get_or pairs j d)
  pairs_come_before i j d lt in' =
      let h = ok.ascending i j lt in' in
      subst (λ p. ComesBefore p (get_or pairs j d)) (get_or_default pairs i no_pair d (omega arith))
      (subst (λ p. ComesBefore (get_or pairs i no_pair) p) (get_or_default pairs j no_pair d in') h)

  pub pairs_are_partitioned : (small large : ℕ) → IsPartitionedBy (λ p. stands_before p small large) pairs
  pairs_are_partitioned small large i j d le in' h =
      elim (cases_eq i j) [
        | inl same ↦ subst (λ m. stands_before (get_or pairs m d) small large ≡ true) (sym same) h
        | inr other ↦
            let c = pairs_come_before i j d (omega arith) in' in
            let t = stands_before-true (get_or pairs j d) small large h in
            stands_before-from (get_or pairs i d) small large
            (elim c [
              | inl less ↦ elim t [ inl a ↦ inl (omega arith) | inr a ↦ inl (omega arith) ]
              | inr tie ↦ elim t [ inl a ↦ inl (omega arith) | inr a ↦ inr (tie.0 ∙ a.0, omega arith) ]
            ])
      ]

  pub pair_rises : (j : ℕ) (d : Pair) → j < length pairs → (get_or pairs j d).small < (get_or pairs j d).large
  pair_rises j d lt = subst (λ p. p.small < p.large) (get_or_default pairs j no_pair d lt) (ok.smaller_first j lt)

  module _ (test : Pair → Bool) (small large : ℕ) (exact : PassesOnly test small large) where
    pub pair_is_found : (q : ℕ) (d : Pair) → q < length pairs → (get_or pairs q d).small ≡ small → (get_or pairs q d).large ≡ large →
        position test pairs ≡ Some q
    pair_is_found q d in' s l =
        let at : position_or_len test pairs ≡ q =
        position_or_len_is test pairs q d (omega arith)
        (λ j lt. false_from_ne_true (test (get_or pairs j d))
        (λ h. let b = exact.only (get_or pairs j d) (pair_rises j d (omega arith)) h in
        elim (pairs_come_before j q d lt in') [ inl less ↦ omega arith | inr tie ↦ let t = tie.1 in omega arith ]))
        (λ _. exact.passes (get_or pairs q d) s l) in
        rw (at, lt-ltb q (length pairs) in')

    pub pair_is_absent : (q : ℕ) (d : Pair) → q ≤ length pairs →
        IsPartitionPoint (λ p. stands_before p small large ≡ true) (λ p. stands_before p small large ≡ false) pairs q →
        (q < length pairs → (get_or pairs q d).small ≡ small → (get_or pairs q d).large ≡ large → ⊥) → position test pairs ≡ None
    pair_is_absent q d le part other =
        let differs : (j : ℕ) → j < length pairs → (get_or pairs j d).small ≡ small → (get_or pairs j d).large ≡ large → ⊥ =
        λ j lt s l. elim (cases_order j q) [
          | inl here ↦ other (omega arith) (subst (λ m. (get_or pairs m d).small ≡ small) here s) (subst (λ m. (get_or pairs m d).large ≡ large) here l)
          | inr (inl before) ↦
              elim (stands_before-true (get_or pairs j d) small large (part.0 j d (omega arith) before)) [
                | inl less ↦ omega arith
                | inr tie ↦ let t = tie.1 in omega arith
              ]
          | inr (inr after) ↦
              let n = part.1 q d (omega arith) (omega arith) in
              let y : stands_before (get_or pairs q d) small large ≡ true =
              stands_before-from (get_or pairs q d) small large
              (elim (pairs_come_before q j d after lt) [
                | inl less ↦ inl (omega arith)
                | inr tie ↦ inr (tie.0 ∙ s, (let t = tie.1 in omega arith))
              ]) in
              cc
        ] in
        let at : position_or_len test pairs ≡ length pairs =
        position_or_len_is test pairs (length pairs) d (omega arith)
        (λ j lt. false_from_ne_true (test (get_or pairs j d))
        (λ h. let b = exact.only (get_or pairs j d) (pair_rises j d lt) h in differs j lt b.0 b.1))
        (λ lt. absurd (omega arith)) in
        rw (at, le-ltb (length pairs) (length pairs) (omega arith))

-- where a pair joins two events, no other pair of a list in order does
joins_only : (p : Pair) (i j : ℕ) → p.small < p.large → joins p i j ≡ true → PassesOnly (λ q. joins q i j) p.small p.large
joins_only p i j up here = record {
  passes = λ q s l. elim (joins-true p i j here) [
    | inl b ↦ joins-from q i j (inl (s ∙ b.0, l ∙ b.1))
    | inr b ↦ joins-from q i j (inr (s ∙ b.0, l ∙ b.1))
  ];
  only = λ q rises joined. elim (joins-true p i j here) [
    | inl b ↦ elim (joins-true q i j joined) [ inl d ↦ (d.0 ∙ sym b.0, d.1 ∙ sym b.1) | inr d ↦ absurd (omega (arith, up, rises, b.0, b.1, d.0, d.1)) ]
    | inr b ↦ elim (joins-true q i j joined) [ inl d ↦ absurd (omega (arith, up, rises, b.0, b.1, d.0, d.1)) | inr d ↦ (d.0 ∙ sym b.0, d.1 ∙ sym b.1) ]
  ];
}

pub joined_there : (pairs : List Pair) → ArePairsInOrder pairs → (place i j : ℕ) → place < length pairs → joins (get_or pairs place no_pair) i j ≡ true
    → position (λ p. joins p i j) pairs ≡ Some place
joined_there pairs ok place i j within here =
    pair_is_found pairs ok (λ p. joins p i j) (get_or pairs place no_pair).small (get_or pairs place no_pair).large
    (joins_only (get_or pairs place no_pair) i j (pair_rises pairs ok place no_pair within) here) place no_pair within refl refl
