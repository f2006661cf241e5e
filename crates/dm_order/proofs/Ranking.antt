-- Events that are given new places one after another.
use Rattle.std.proofs.Common.{◌≡◌, ℕ, ◌+◌, ◌<◌, ◌≤◌, Bool, true, false, List, length, sym, ap, ◌∙◌, inl, inr, arith, slice_index, get_or-set_same, get_or-set_other, length-set}
use Rattle.std.specs.Prelude.{slice_set, if◌then◌else◌}
use Rattle.std.proofs.lemmas.Bool.{cases_lt}
use Rattle.dm_graph.specs.Arrays.{AreRanks}
use Rattle.dm_order.specs.Inside.Shifting.{passing, failing, moved, AreRankedAnew, AreCopied, ArePutAnew, MayBePut, ArePut}
use Rattle.dm_order.proofs.Counting.{moved_below, moved_apart}

module _ (n : ℕ) (order before : List ℕ) (ranked : AreRanks n order before) (p : ℕ → Bool) (low count m : ℕ) (within : low + count ≤ n) (below : m < count) where
  apart : (i : ℕ) → i < m → slice_index order (low + i) ≡ slice_index order (low + m) → ⊥
  apart i lt same =
      let a = ranked.is_ranked (low + i) (omega arith) in
      let b = ranked.is_ranked (low + m) (omega arith) in
      let e : slice_index before (slice_index order (low + i)) ≡ slice_index before (slice_index order (low + m)) = ap (slice_index before) same in
      omega arith

  pub ranked_more : (now : List ℕ) (event place : ℕ) → AreRankedAnew p order low count m before now →
      event ≡ slice_index order (low + m) → place ≡ low + moved p count m → AreRankedAnew p order low count (m + 1) before (slice_set now event place)
  ranked_more now event place had is goes =
      let rc = ranked.rank_count in
      let nc = had.as_many in
      let e_in : slice_index order (low + m) < n = ranked.is_event (low + m) (omega arith) in
      record {
        as_many = length-set now event place ∙ had.as_many;
        anew = λ i lt. elim (cases_lt i m) [
          | inl earlier ↦
              get_or-set_other now event (slice_index order (low + i)) place 0 (λ same. apart i earlier (same ∙ is)) ∙ had.anew i earlier
          | inr here ↦
              let i_is : i ≡ m = omega arith in
              let there : slice_index order (low + i) ≡ event = ap (λ (j : ℕ). slice_index order (low + j)) i_is ∙ sym is in
              ap (slice_index (slice_set now event place)) there ∙ get_or-set_same now event place 0 (omega arith)
              ∙ goes ∙ ap (λ (j : ℕ). low + moved p count j) (sym i_is)
        ];
        others = λ e none.
            get_or-set_other now event e place 0 (λ same. none m (omega arith) (sym is ∙ sym same))
            ∙ had.others e (λ i lt. none i (omega arith));
      }

  pub copied_more : (spare : List ℕ) (event : ℕ) → AreCopied order low m spare → m < length spare → event ≡ slice_index order (low + m) →
      AreCopied order low (m + 1) (slice_set spare m event)
  copied_more spare event had room is =
      record {
        copied = λ i lt. elim (cases_lt i m) [
          | inl earlier ↦ get_or-set_other spare m i event 0 (λ same. absurd (omega arith)) ∙ had.copied i earlier
          | inr here ↦
              let i_is : i ≡ m = omega arith in
              ap (slice_index (slice_set spare m event)) i_is ∙ get_or-set_same spare m event 0 room ∙ is ∙ ap (λ (j : ℕ). slice_index order (low + j)) (sym i_is)
        ];
      }

  -- the next places of both kinds
  pub place_taken : (place other reached others : ℕ) (r : Bool) → r ≡ p m → others ≡ failing p count →
      other ≡ low + failing p m → reached ≡ low + others + passing p m → place ≡ (if r then reached else other) → place ≡ low + moved p count m
  place_taken place other reached others r r_is others_is other_is reached_is place_is =
      taken (p m) (place_is ∙ ap (λ (b : Bool). if b then reached else other) r_is)
    where
      taken : (b : Bool) → place ≡ (if b then reached else other) → place ≡ low + (if b then failing p count + passing p m else failing p m)
      taken true is = omega arith
      taken false is = omega arith

module _ (n : ℕ) (order ranks : List ℕ) (ranked : AreRanks n order ranks) (p : ℕ → Bool) (low count : ℕ) (within : low + count ≤ n)
    (ranks' spare : List ℕ) (ra : AreRankedAnew p order low count count ranks ranks') (copied : AreCopied order low count spare) (room : count ≤ length spare) where
  pub goes_to : (i : ℕ) → i < count → slice_index ranks' (slice_index spare i) ≡ low + moved p count i
  goes_to i lt = ap (slice_index ranks') (copied.copied i lt) ∙ ra.anew i lt

  pub may_be_put : MayBePut low count n ranks' spare
  may_be_put = record {
    room = room;
    within = within;
    rank_count = ra.as_many ∙ ranked.rank_count;
    is_event = λ i lt. let c = copied.copied i lt in let e = ranked.is_event (low + i) (omega arith) in omega arith;
    not_before = λ i lt. let g = goes_to i lt in omega arith;
    not_behind = λ i lt. let g = goes_to i lt in let b = moved_below p count i lt in omega arith;
    apart = λ i j before lt same.
        let g = goes_to i (omega arith) in
        let h = goes_to j lt in
        moved_apart p count i j before lt (omega arith);
  }

  pub put_where_moved : (order' : List ℕ) → ArePut low count count ranks' spare order order' → ArePutAnew p low count count order order'
  put_where_moved order' put = record {
    as_many = put.as_many;
    put = λ i lt. ap (slice_index order') (sym (goes_to i lt)) ∙ put.put i lt ∙ copied.copied i lt;
    outside = put.outside;
  }
