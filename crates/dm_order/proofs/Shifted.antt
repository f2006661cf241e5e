-- An order in which the events reached were moved behind the others of an interval.
use Rattle.std.proofs.Common.{◌≡◌, ℕ, ◌+◌, ◌-◌, ◌<◌, ◌≤◌, Bool, true, false, List, sym, ap, subst, ◌∙◌, ◌⊎◌, inl, inr, arith, slice_index}
use Rattle.std.proofs.lemmas.Bool.{cases_lt}
use Rattle.dm_graph.specs.Arrays.{AreRanks}
use Rattle.dm_order.specs.Inside.Shifting.{moved, AreRankedAnew, ArePutAnew}
use Rattle.dm_order.proofs.Counting.{moved_below, moved_behind, moved_rises, comes_from}

-- a place is the one at an offset of the interval
pub record IsInside (low count k : ℕ) : Type 0 where
  pub i : ℕ
  pub below : i < count
  pub is : k ≡ low + i

pub inside_or : (low count k : ℕ) → IsInside low count k ⊎ ((k < low) ⊎ (low + count ≤ k))
inside_or low count k =
    elim (cases_lt k low) [
      | inl before ↦ inr (inl before)
      | inr from ↦
          elim (cases_lt k (low + count)) [
            | inl within ↦ inl (record { i = k - low; below = omega arith; is = omega arith })
            | inr behind ↦ inr (inr behind)
          ]
    ]

module _ (n : ℕ) (order ranks : List ℕ) (ranked : AreRanks n order ranks) (p : ℕ → Bool) (low count : ℕ) (within : low + count ≤ n)
    (order' ranks' : List ℕ) (ra : AreRankedAnew p order low count count ranks ranks') (pa : ArePutAnew p low count count order order') where
  event_at_place : (e k : ℕ) → e < n → slice_index ranks e ≡ k → slice_index order k ≡ e
  event_at_place e k lt is = ap (slice_index order) (sym is) ∙ ranked.stands_there e lt

  inside_goes : (e i : ℕ) → e < n → slice_index ranks e ≡ low + i → i < count → slice_index ranks' e ≡ low + moved p count i
  inside_goes e i lt is below =
      ap (slice_index ranks') (sym (event_at_place e (low + i) lt is)) ∙ ra.anew i below

  outside_stays : (e : ℕ) → e < n → (slice_index ranks e < low) ⊎ (low + count ≤ slice_index ranks e) → slice_index ranks' e ≡ slice_index ranks e
  outside_stays e lt out =
      ra.others e (λ i below is.
      let r : slice_index ranks e ≡ low + i = ap (slice_index ranks) (sym is) ∙ ranked.is_ranked (low + i) (omega arith) in
      elim out [ inl a ↦ omega arith | inr b ↦ omega arith ])

  order_inside : (k : ℕ) → k < count → (i : ℕ) → moved p count i ≡ k → i < count → slice_index order' (low + k) ≡ slice_index order (low + i)
  order_inside k lt i is below = ap (λ (j : ℕ). slice_index order' (low + j)) (sym is) ∙ pa.put i below

  -- what stands at a place of the interval afterwards, and where it comes from
  record ComesInside (k : ℕ) : Type 0 where
    i : ℕ
    below : i < count
    stood : slice_index order' k ≡ slice_index order (low + i)
    goes : low + moved p count i ≡ k

  comes_inside : (k : ℕ) → IsInside low count k → ComesInside k
  comes_inside k in' =
      let from = comes_from p count in'.i in'.below in
      record {
        i = from.i;
        below = from.below;
        stood = ap (slice_index order') in'.is ∙ order_inside in'.i in'.below from.i from.is from.below;
        goes = ap (λ (j : ℕ). low + j) from.is ∙ sym in'.is;
      }

  pub shifted_ranks : AreRanks n order' ranks'
  shifted_ranks =
      record {
        order_count = pa.as_many ∙ ranked.order_count;
        rank_count = ra.as_many ∙ ranked.rank_count;
        has_place = λ e lt.
            elim (inside_or low count (slice_index ranks e)) [
              | inl in' ↦ let g = inside_goes e in'.i lt in'.is in'.below in let b = moved_below p count in'.i in'.below in omega arith
              | inr out ↦ let g = outside_stays e lt out in let h = ranked.has_place e lt in omega arith
            ];
        stands_there = λ e lt.
            elim (inside_or low count (slice_index ranks e)) [
              | inl in' ↦
                  ap (slice_index order') (inside_goes e in'.i lt in'.is in'.below) ∙ pa.put in'.i in'.below
                  ∙ event_at_place e (low + in'.i) lt in'.is
              | inr out ↦
                  ap (slice_index order') (outside_stays e lt out) ∙ pa.outside (slice_index ranks e) out ∙ ranked.stands_there e lt
            ];
        is_event = λ k lt.
            elim (inside_or low count k) [
              | inl in' ↦
                  let from = comes_inside k in' in
                  let o = from.stood in
                  let b = from.below in
                  let e = ranked.is_event (low + from.i) (omega arith) in
                  omega arith
              | inr out ↦ let o = pa.outside k out in let e = ranked.is_event k lt in omega arith
            ];
        is_ranked = λ k lt.
            elim (inside_or low count k) [
              | inl in' ↦
                  let from = comes_inside k in' in
                  ap (slice_index ranks') from.stood ∙ ra.anew from.i from.below ∙ from.goes
              | inr out ↦
                  let r = ranked.is_ranked k lt in
                  let there : (slice_index ranks (slice_index order k) < low) ⊎ (low + count ≤ slice_index ranks (slice_index order k)) =
                  subst (λ (j : ℕ). (j < low) ⊎ (low + count ≤ j)) (sym r) out in
                  ap (slice_index ranks') (pa.outside k out) ∙ outside_stays (slice_index order k) (ranked.is_event k lt) there ∙ r
            ];
      }

  -- an event before another one stays before it, if it carries the other with it
  pub stays_before : (x y : ℕ) → x < n → y < n → slice_index ranks x < slice_index ranks y →
      ((i j : ℕ) → slice_index ranks x ≡ low + i → slice_index ranks y ≡ low + j → j < count → p i ≡ true → p j ≡ true) →
      slice_index ranks' x < slice_index ranks' y
  stays_before x y x_in y_in before carries =
      elim (inside_or low count (slice_index ranks x)) [
        | inl xi ↦
            let gx = inside_goes x xi.i x_in xi.is xi.below in
            let bx = moved_below p count xi.i xi.below in
            let xis = xi.is in
            let xb = xi.below in
            elim (inside_or low count (slice_index ranks y)) [
              | inl yi ↦
                  let yis = yi.is in
                  let gy = inside_goes y yi.i y_in yi.is yi.below in
                  let m = moved_rises p count xi.i yi.i (omega arith) yi.below (carries xi.i yi.i xi.is yi.is yi.below) in
                  omega arith
              | inr out ↦ let gy = outside_stays y y_in out in elim out [ inl a ↦ omega arith | inr b ↦ omega arith ]
            ]
        | inr out ↦
            let gx = outside_stays x x_in out in
            elim (inside_or low count (slice_index ranks y)) [
              | inl yi ↦
                  let yis = yi.is in
                  let yb = yi.below in
                  let gy = inside_goes y yi.i y_in yi.is yi.below in
                  elim out [ inl a ↦ omega arith | inr b ↦ omega arith ]
              | inr out' ↦ let gy = outside_stays y y_in out' in omega arith
            ]
      ]

  -- an event that was not reached comes before one that was
  pub comes_before : (x y i j : ℕ) → x < n → y < n → slice_index ranks x ≡ low + i → slice_index ranks y ≡ low + j → i < count → j < count →
      p i ≡ false → p j ≡ true → slice_index ranks' x < slice_index ranks' y
  comes_before x y i j x_in y_in xis yis ib jb fails passes =
      let gx = inside_goes x i x_in xis ib in
      let gy = inside_goes y j y_in yis jb in
      let m = moved_behind p count i j ib fails passes in
      omega arith
