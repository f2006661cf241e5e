-- The steps of the walk keep what holds of it.
use Rattle.std.proofs.Common.{◌≡◌, ◌≢◌, ℕ, suc, ◌+◌, ◌<◌, ◌≤◌, cond, List, length, set, ◌⊎◌, refl, sym, ap, subst, ◌∙◌, inl, inr, arith, eq-eqb, ne_eqb, length-set, get_or-set_same, get_or-set_other, slice_index}
use Rattle.std.specs.Prelude.{◌==◌, count_by}
use Rattle.std.proofs.lemmas.Bool.{cases_eq, cases_lt}
use Rattle.std.proofs.lemmas.List.Sums.{sum_by-set, get_or-le-sum_by}
use Rattle.dm_graph.specs.declared.walk.ArcsByHead.{ArcsByHead}
use Rattle.dm_graph.specs.Inside.Walk.{IsHeldAt, tail_at, Stands, AreMarks, LeadsTo, AreLooks}

-- a read of a list after a write elsewhere, and at the place written
pub other : (xs : List ℕ) (i v k : ℕ) → k ≢ i → slice_index (set xs i v) k ≡ slice_index xs k
other xs i v k ne = get_or-set_other xs i k v 0 ne

pub same : (xs : List ℕ) (i v k : ℕ) → k ≡ i → i < length xs → slice_index (set xs i v) k ≡ v
same xs i v k is lt = ap (λ j. slice_index (set xs i v) j) is ∙ get_or-set_same xs i v 0 lt

-- one for a rank of n, which no place has
one_at : ℕ → ℕ → ℕ
one_at n r = cond (r == n) 1 0

one_at-same : (n r : ℕ) → r ≡ n → one_at n r ≡ 1
unfolding one_at
one_at-same n r is = rw (eq-eqb r n is)

one_at-other : (n r : ℕ) → (r ≡ n → ⊥) → one_at n r ≡ 0
unfolding one_at
one_at-other n r ne = rw (ne_eqb r n ne)

count-set : (n : ℕ) (rank : List ℕ) (e r : ℕ) → e < length rank →
    count_by (λ r. r == n) (set rank e r) + one_at n (slice_index rank e) ≡ count_by (λ r. r == n) rank + one_at n r
unfolding one_at
count-set n rank e r lt = sum_by-set (λ r. cond (r == n) 1 0) rank e r 0 lt

count-le : (n : ℕ) (rank : List ℕ) (e : ℕ) → e < length rank → one_at n (slice_index rank e) ≤ count_by (λ r. r == n) rank
unfolding one_at
count-le n rank e lt = get_or-le-sum_by (λ r. cond (r == n) 1 0) rank e 0 lt

module _ (n : ℕ) (order rank : List ℕ) (placed top : ℕ) (m : AreMarks n order rank placed top) where
  -- an event whose rank is n is not met, so there is a place for it
  pub room : (u : ℕ) → u < n → slice_index rank u ≡ n → placed < top
  room u lt is =
      let c = m.rank_count in
      let some = count-le n rank u (omega arith) in
      let one = one_at-same n (slice_index rank u) is in
      let all = m.unmet in
      omega arith

  -- how many events are not met, after an event got a rank that is a place
  unmet_after : (e r before : ℕ) → e < n → r < n → one_at n (slice_index rank e) ≡ before →
      placed + count_by (λ r. r == n) (set rank e r) + before ≡ top
  unmet_after e r before lt is_place was =
      let c = m.rank_count in
      let count = count-set n rank e r (omega arith) in
      let now = one_at-other n r (omega arith) in
      let all = m.unmet in
      omega arith

  module _ (u : ℕ) (lt : u < n) (unmet : slice_index rank u ≡ n) (above : ℕ) (is_top : top ≡ suc above) where
    abbrev order' : List ℕ
    order' = set order above u

    abbrev rank' : List ℕ
    rank' = set rank u above

    pub not_met : (e : ℕ) → slice_index rank e < n → e ≢ u
    not_met e below is = let same : slice_index rank e ≡ slice_index rank u = ap (slice_index rank) is in omega arith

    enter_stands : (place : ℕ) → place ≢ above → place < n → Stands n order rank place → Stands n order' rank' place
    enter_stands place ne within s =
        let o : slice_index order' place ≡ slice_index order place = other order above u place ne in
        let known : slice_index rank (slice_index order place) < n = let r = s.is_ranked in omega arith in
        record {
          is_event = let e = s.is_event in omega arith;
          is_ranked = ap (slice_index rank') o ∙ other rank u above (slice_index order place) (not_met (slice_index order place) known) ∙ s.is_ranked;
        }

    pub enter_marks : AreMarks n order' rank' placed above
    enter_marks =
        let oc = m.order_count in
        let rc = m.rank_count in
        let t = m.top_within in
        let r = room u lt unmet in
        let now = unmet_after u above 1 lt (omega arith) (one_at-same n (slice_index rank u) unmet) in
        record {
          order_count = length-set order above u ∙ m.order_count;
          rank_count = length-set rank u above ∙ m.rank_count;
          top_within = omega arith;
          unmet = omega arith;
          placed_stand = λ place below. enter_stands place (omega arith) (omega arith) (m.placed_stand place below);
          path_stands = λ place from within.
              elim (cases_eq place above) [
                | inl is ↦
                    let o : slice_index order' place ≡ u = same order above u place is (omega arith) in
                    record {
                      is_event = omega arith;
                      is_ranked = ap (slice_index rank') o ∙ same rank u above u refl (omega arith) ∙ sym is;
                    }
                | inr ne ↦ enter_stands place ne within (m.path_stands place (omega arith) within)
              ];
          rank_within = λ e lt'.
              elim (cases_eq e u) [
                | inl is ↦ let o = same rank u above e is (omega arith) in omega arith
                | inr ne ↦ let o = other rank u above e ne in let w = m.rank_within e lt' in omega arith
              ];
          met = λ e lt' below.
              elim (cases_eq e u) [
                | inl is ↦ let o = same rank u above e is (omega arith) in inr (omega arith)
                | inr ne ↦
                    let o = other rank u above e ne in
                    elim (m.met e lt' (omega arith)) [
                      | inl early ↦ inl (omega arith)
                      | inr late ↦ inr (omega arith)
                    ]
              ];
          ranked = λ e lt' below.
              elim (cases_eq e u) [
                | inl is ↦
                    let o : slice_index rank' e ≡ above = same rank u above e is (omega arith) in
                    ap (slice_index order') o ∙ same order above u above refl (omega arith) ∙ sym is
                | inr ne ↦
                    let o : slice_index rank' e ≡ slice_index rank e = other rank u above e ne in
                    let apart : slice_index rank e ≢ above =
                    elim (m.met e lt' (omega arith)) [
                      | inl early ↦ λ q. absurd (omega arith)
                      | inr late ↦ λ q. absurd (omega arith)
                    ] in
                    ap (slice_index order') o ∙ other order above u (slice_index rank e) apart ∙ m.ranked e lt' (omega arith)
              ];
        }

    module _ (by_head : ArcsByHead) (next : List ℕ)
        (l : AreLooks by_head n order rank next placed top)
        (leads : top < n → LeadsTo by_head next (slice_index order top) u) where
      placed_within : placed ≤ n
      placed_within = let t = m.top_within in let a = m.unmet in omega arith

      pub enter_looks : AreLooks by_head n order' rank' next placed above
      enter_looks =
          let oc = m.order_count in
          let rc = m.rank_count in
          let t = m.top_within in
          let p = placed_within in
          let r = room u lt unmet in
          record {
            next_count = l.next_count;
            begun = l.begun;
            not_past = l.not_past;
            looked = λ e place lt' from to held_at.
                let was = l.looked e place lt' from to held_at in
                let o = other rank u above (tail_at by_head place) (not_met (tail_at by_head place) (omega arith)) in
                omega arith;
            forward = λ e place lt' below in_row held_at.
                elim (cases_eq e u) [
                  | inl is ↦ let o = same rank u above e is (omega arith) in absurd (omega arith)
                  | inr ne ↦
                      let o = other rank u above e ne in
                      let was = l.forward e place lt' (omega arith) in_row held_at in
                      let q = other rank u above (tail_at by_head place) (not_met (tail_at by_head place) (omega arith)) in
                      omega arith
                ];
            path = λ place from within.
                let o : slice_index order' (place + 1) ≡ slice_index order (place + 1) = other order above u (place + 1) (omega arith) in
                elim (cases_eq place above) [
                  | inl is ↦
                      let q : slice_index order' place ≡ u = same order above u place is (omega arith) in
                      let at_top : place + 1 ≡ top = omega arith in
                      rw (o, q, at_top) (leads (omega arith))
                  | inr ne ↦
                      let q : slice_index order' place ≡ slice_index order place = other order above u place ne in
                      rw (o, q) (l.path place (omega arith) within)
                ];
          }

  module _ (v : ℕ) (short : top < n) (is_v : slice_index order top ≡ v) where
    pub v_is_event : v < n
    v_is_event = let s = (m.path_stands top (omega arith) short).is_event in omega arith

    pub v_rank : slice_index rank v ≡ top
    v_rank = ap (slice_index rank) (sym is_v) ∙ (m.path_stands top (omega arith) short).is_ranked

    pub placed_below : placed ≤ top
    placed_below = let a = m.unmet in omega arith

    order_after : List ℕ
    order_after = set order placed v

    rank_after : List ℕ
    rank_after = set rank v placed

    pub not_top : (e : ℕ) → slice_index rank e ≢ top → e ≢ v
    not_top e ne is = ne (ap (slice_index rank) is ∙ v_rank)

    place_stands : (place : ℕ) → place ≢ placed → place ≢ top → place < n → Stands n order rank place → Stands n order_after rank_after place
    unfolding order_after rank_after
    place_stands place ne apart within s =
        let o : slice_index order_after place ≡ slice_index order place = other order placed v place ne in
        let not_v : slice_index order place ≢ v = not_top (slice_index order place) (λ q. apart (sym s.is_ranked ∙ q)) in
        record {
          is_event = let e = s.is_event in omega arith;
          is_ranked = ap (slice_index rank_after) o ∙ other rank v placed (slice_index order place) not_v ∙ s.is_ranked;
        }

    -- an event other than v that is met stands neither at the top nor at the place that v takes
    elsewhere : (e : ℕ) → e < n → slice_index rank e < n → e ≢ v → (slice_index rank e < placed) ⊎ (suc top ≤ slice_index rank e)
    elsewhere e lt below ne =
        elim (m.met e lt below) [
          | inl early ↦ inl early
          | inr late ↦
              elim (cases_eq (slice_index rank e) top) [
                | inl is ↦ absurd (ne (sym (m.ranked e lt below) ∙ ap (slice_index order) is ∙ is_v))
                | inr apart ↦ inr (omega arith)
              ]
        ]

    pub place_marks : AreMarks n (set order placed v) (set rank v placed) (suc placed) (suc top)
    unfolding order_after rank_after
    place_marks =
        let oc = m.order_count in
        let rc = m.rank_count in
        let p = placed_below in
        let ve = v_is_event in
        let vr = v_rank in
        let now = unmet_after v placed 0 ve (omega arith) (one_at-other n (slice_index rank v) (omega arith)) in
        record {
          order_count = length-set order placed v ∙ m.order_count;
          rank_count = length-set rank v placed ∙ m.rank_count;
          top_within = omega arith;
          unmet = omega arith;
          placed_stand = λ place below.
              elim (cases_eq place placed) [
                | inl is ↦
                    let o : slice_index order_after place ≡ v = same order placed v place is (omega arith) in
                    record {
                      is_event = omega arith;
                      is_ranked = ap (slice_index rank_after) o ∙ same rank v placed v refl (omega arith) ∙ sym is;
                    }
                | inr ne ↦ place_stands place ne (omega arith) (omega arith) (m.placed_stand place (omega arith))
              ];
          path_stands = λ place from within. place_stands place (omega arith) (omega arith) within (m.path_stands place (omega arith) within);
          rank_within = λ e lt.
              elim (cases_eq e v) [
                | inl is ↦ let o = same rank v placed e is (omega arith) in omega arith
                | inr ne ↦ let o = other rank v placed e ne in let w = m.rank_within e lt in omega arith
              ];
          met = λ e lt below.
              elim (cases_eq e v) [
                | inl is ↦ let o = same rank v placed e is (omega arith) in inl (omega arith)
                | inr ne ↦
                    let o = other rank v placed e ne in
                    elim (elsewhere e lt (omega arith) ne) [
                      | inl early ↦ inl (omega arith)
                      | inr late ↦ inr (omega arith)
                    ]
              ];
          ranked = λ e lt below.
              elim (cases_eq e v) [
                | inl is ↦
                    let o : slice_index rank_after e ≡ placed = same rank v placed e is (omega arith) in
                    ap (slice_index order_after) o ∙ same order placed v placed refl (omega arith) ∙ sym is
                | inr ne ↦
                    let o : slice_index rank_after e ≡ slice_index rank e = other rank v placed e ne in
                    let apart : slice_index rank e ≢ placed =
                    elim (elsewhere e lt (omega arith) ne) [
                      | inl early ↦ λ q. absurd (omega arith)
                      | inr late ↦ λ q. absurd (omega arith)
                    ] in
                    ap (slice_index order_after) o ∙ other order placed v (slice_index rank e) apart ∙ m.ranked e lt (omega arith)
              ];
        }

    module _ (by_head : ArcsByHead) (next : List ℕ)
        (l : AreLooks by_head n order rank next placed top) where
      -- the tail of an arc, once it is placed, is not v
      placed_apart : (e : ℕ) → slice_index rank e < placed → e ≢ v
      placed_apart e early = let p = placed_below in not_top e (λ q. absurd (omega arith))

      pub place_looks : slice_index next v ≡ slice_index by_head.offsets.now (v + 1) →
          AreLooks by_head n (set order placed v) (set rank v placed) next (suc placed) (suc top)
      place_looks over =
          let oc = m.order_count in
          let rc = m.rank_count in
          let p = placed_below in
          let ve = v_is_event in
          let vr = v_rank in
          record {
            next_count = l.next_count;
            begun = l.begun;
            not_past = l.not_past;
            looked = λ e place lt from to held_at.
                let was = l.looked e place lt from to held_at in
                let o = other rank v placed (tail_at by_head place) (placed_apart (tail_at by_head place) was) in
                omega arith;
            forward = λ e place lt below in_row held_at.
                elim (cases_eq e v) [
                  | inl is ↦
                      let o = same rank v placed e is (omega arith) in
                      let ends : slice_index by_head.offsets.now (e + 1) ≡ slice_index next e = subst (λ k. slice_index by_head.offsets.now (k + 1) ≡ slice_index next k) (sym is) (sym over) in
                      let b = in_row.begun in
                      let f = in_row.not_over in
                      let was = l.looked e place lt b (omega arith) held_at in
                      let q = other rank v placed (tail_at by_head place) (placed_apart (tail_at by_head place) was) in
                      omega arith
                  | inr ne ↦
                      let o = other rank v placed e ne in
                      let r = m.rank_within e lt in
                      let early : slice_index rank e < placed =
                      elim (elsewhere e lt (omega arith) ne) [
                        | inl early ↦ early
                        | inr late ↦ absurd (omega arith)
                      ] in
                      let was = l.forward e place lt early in_row held_at in
                      let q = other rank v placed (tail_at by_head place) (placed_apart (tail_at by_head place) (omega arith)) in
                      omega arith
                ];
            path = λ place from within.
                let o : slice_index (set order placed v) (place + 1) ≡ slice_index order (place + 1) = other order placed v (place + 1) (omega arith) in
                let q : slice_index (set order placed v) place ≡ slice_index order place = other order placed v place (omega arith) in
                rw (o, q) (l.path place (omega arith) within);
          }

      pub skip_looks : slice_index next v < slice_index by_head.offsets.now (v + 1) →
          (IsHeldAt by_head (slice_index next v) → slice_index rank (tail_at by_head (slice_index next v)) < placed) →
          AreLooks by_head n order rank (set next v (slice_index next v + 1)) placed top
      skip_looks not_over free =
          let nc = l.next_count in
          let ve = v_is_event in
          record {
            next_count = length-set next v (slice_index next v + 1) ∙ l.next_count;
            begun = λ e lt.
                let b = l.begun e lt in
                elim (cases_eq e v) [
                  | inl is ↦
                      let o = same next v (slice_index next v + 1) e is (omega arith) in
                      let q : slice_index next e ≡ slice_index next v = ap (slice_index next) is in
                      omega arith
                  | inr ne ↦ let o = other next v (slice_index next v + 1) e ne in omega arith
                ];
            not_past = λ e lt.
                let b = l.not_past e lt in
                elim (cases_eq e v) [
                  | inl is ↦
                      let o = same next v (slice_index next v + 1) e is (omega arith) in
                      let q : slice_index by_head.offsets.now (e + 1) ≡ slice_index by_head.offsets.now (v + 1) = ap (λ k. slice_index by_head.offsets.now (k + 1)) is in
                      omega arith
                  | inr ne ↦ let o = other next v (slice_index next v + 1) e ne in omega arith
                ];
            looked = λ e place lt from to held_at.
                elim (cases_lt place (slice_index next e)) [
                  | inl before ↦ l.looked e place lt from before held_at
                  | inr not_before ↦
                      elim (cases_eq e v) [
                        | inl is ↦
                            let o = same next v (slice_index next v + 1) e is (omega arith) in
                            let q : slice_index next e ≡ slice_index next v = ap (slice_index next) is in
                            let here : place ≡ slice_index next v = omega arith in
                            subst (λ k. slice_index rank (tail_at by_head k) < placed) (sym here)
                            (free (subst (λ k. IsHeldAt by_head k) here held_at))
                        | inr ne ↦ let o = other next v (slice_index next v + 1) e ne in absurd (omega arith)
                      ]
                ];
            forward = l.forward;
            path = λ place from within.
                let s = m.path_stands (place + 1) (omega arith) within in
                let apart : slice_index order (place + 1) ≢ v = not_top (slice_index order (place + 1)) (λ q. let r = s.is_ranked in absurd (omega arith)) in
                let p = l.path place from within in
                let o : slice_index (set next v (slice_index next v + 1)) (slice_index order (place + 1)) ≡ slice_index next (slice_index order (place + 1)) =
                other next v (slice_index next v + 1) (slice_index order (place + 1)) apart in
                record {
                  not_over = let f = p.not_over in omega arith;
                  is_held = subst (λ k. IsHeldAt by_head k) (sym o) p.is_held;
                  tail = ap (tail_at by_head) o ∙ p.tail;
                };
          }

-- an event that is met and not placed stands on the path
pub on_path : (n : ℕ) (order rank : List ℕ) (placed top : ℕ) → AreMarks n order rank placed top →
    (e r : ℕ) → e < n → r ≡ slice_index rank e → placed ≤ r → (r ≡ n → ⊥) →
    (slice_index order r ≡ e) × (top ≤ r) × (r < n)
on_path n order rank placed top m e r lt is late known =
    let w = m.rank_within e lt in
    let below : slice_index rank e < n = omega arith in
    let from : top ≤ slice_index rank e =
    elim (m.met e lt below) [
      | inl early ↦ absurd (omega arith)
      | inr on ↦ on
    ] in
    (ap (slice_index order) is ∙ m.ranked e lt below, omega arith, omega arith)
