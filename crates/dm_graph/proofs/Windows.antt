-- Rows that are windows of one list, each with the places whose end is the row's event.
use Rattle.std.proofs.Common.{◌≡◌, ℕ, zero, suc, ◌+◌, ◌-◌, ◌<◌, ◌≤◌, Bool, true, List, ◌∷◌, length, refl, sym, ap, subst, ◌∙◌, inl, inr, arith, eqb-true, eq-eqb, slice_index, slice_range}
use Rattle.std.specs.Prelude.{◌==◌}
use Rattle.std.specs.List.{range_with_len, filter}
use Rattle.std.proofs.lemmas.Bool.{cases_Bool, cases_eq}
use Rattle.std.proofs.lemmas.List.Edits.{get_or-between, length-between}
use Rattle.dm_graph.specs.Arrays.{InRow, AreArcRows, ListsArcs}

-- what a filter of the numbers from a on keeps at a place
pub record Kept (p : ℕ → Bool) (a n x : ℕ) : Type 0 where
  pub passes : p x ≡ true
  pub from : a ≤ x
  pub below : x < a + n

wider : (p : ℕ → Bool) (a n x : ℕ) → Kept p (a + 1) n x → Kept p a (suc n) x
wider p a n x h =
    let f = h.from in
    let b = h.below in
    record { passes = h.passes; from = omega arith; below = omega arith }

kept_cons : (p : ℕ → Bool) (a n : ℕ) (ys : List ℕ) → p a ≡ true →
    ((k : ℕ) → k < length ys → Kept p (a + 1) n (slice_index ys k)) → (k : ℕ) → k < suc (length ys) → Kept p a (suc n) (slice_index (a ∷ ys) k)
kept_cons p a n ys passes each zero lt = record { passes = passes; from = omega arith; below = omega arith }
kept_cons p a n ys passes each (suc k) lt = wider p a n (slice_index ys k) (each k (omega arith))

pub kept_at : (p : ℕ → Bool) (a n k : ℕ) → k < length (filter p (range_with_len a n)) → Kept p a n (slice_index (filter p (range_with_len a n)) k)
kept_at p a zero k lt = absurd (omega arith)
kept_at p a (suc n) k lt =
    elim (cases_Bool (p a)) [
      | inl passes ↦ rw passes (kept_cons p a n (filter p (range_with_len (a + 1) n)) passes (kept_at p (a + 1) n) k (rw passes at lt))
      | inr fails ↦ rw fails (wider p a n (slice_index (filter p (range_with_len (a + 1) n)) k) (kept_at p (a + 1) n k (rw fails at lt)))
    ]

-- a number that passes stands at some place of the filter
pub record StandsAt (xs : List ℕ) (x : ℕ) : Type 0 where
  pub place : ℕ
  pub within : place < length xs
  pub is : slice_index xs place ≡ x

stands_later : (x a : ℕ) (ys : List ℕ) → StandsAt ys x → StandsAt (a ∷ ys) x
stands_later x a ys s = let w = s.within in record { place = suc s.place; within = omega arith; is = s.is }

pub stands_in : (p : ℕ → Bool) (a n x : ℕ) → p x ≡ true → a ≤ x → x < a + n → StandsAt (filter p (range_with_len a n)) x
stands_in p a zero x passes from below = absurd (omega arith)
stands_in p a (suc n) x passes from below =
    elim (cases_eq x a) [
      | inl is ↦
          let here : p a ≡ true = ap p (sym is) ∙ passes in
          rw here (record { place = 0; within = omega arith; is = sym is })
      | inr ne ↦
          let later = stands_in p (a + 1) n x passes (omega arith) (omega arith) in
          elim (cases_Bool (p a)) [
            | inl too ↦ rw too (stands_later x a (filter p (range_with_len (a + 1) n)) later)
            | inr not ↦ rw not later
          ]
    ]

module _ (events arcs : ℕ) (end : ℕ → ℕ) (offsets places : List ℕ)
    (offset_count : length offsets ≡ events + 1)
    (rises : (e : ℕ) → e < events → slice_index offsets e ≤ slice_index offsets (e + 1))
    (within : (e : ℕ) → e < events → slice_index offsets (e + 1) ≤ length places)
    (row : (e : ℕ) → e < events → slice_range places (slice_index offsets e) (slice_index offsets (e + 1)) ≡ filter (λ a. end a == e) (range_with_len 0 arcs)) where
  row_count : (e : ℕ) → e < events → length (filter (λ a. end a == e) (range_with_len 0 arcs)) ≡ slice_index offsets (e + 1) - slice_index offsets e
  row_count e lt = ap length (sym (row e lt)) ∙ length-between places (slice_index offsets e) (slice_index offsets (e + 1)) (within e lt)

  -- the element of a row at a place, as the filter has it
  row_read : (e k : ℕ) → e < events → slice_index offsets e + k < slice_index offsets (e + 1) →
      slice_index (filter (λ a. end a == e) (range_with_len 0 arcs)) k ≡ slice_index places (slice_index offsets e + k)
  row_read e k lt below =
      ap (λ xs. slice_index xs k) (sym (row e lt)) ∙ get_or-between places (slice_index offsets e) (slice_index offsets (e + 1)) k 0 below

  row_kept : (e place : ℕ) → e < events → InRow offsets e place → Kept (λ a. end a == e) 0 arcs (slice_index places place)
  row_kept e place lt in_row =
      let b = in_row.begun in
      let f = in_row.not_over in
      let n = row_count e lt in
      let is : slice_index offsets e + (place - slice_index offsets e) ≡ place = omega arith in
      let read : slice_index (filter (λ a. end a == e) (range_with_len 0 arcs)) (place - slice_index offsets e) ≡ slice_index places place =
      row_read e (place - slice_index offsets e) lt (omega arith) ∙ ap (slice_index places) is in
      subst (λ x. Kept (λ a. end a == e) 0 arcs x) read
      (kept_at (λ a. end a == e) 0 arcs (place - slice_index offsets e) (omega arith))

  -- windows that hold, for each event, the places whose end it is, are rows that list them
  pub rows_of_windows : AreArcRows events arcs offsets places
  rows_of_windows = record {
    offset_count = offset_count;
    rises = rises;
    within = within;
    has_arcs = λ e place lt in_row. let b = (row_kept e place lt in_row).below in omega arith;
  }

  pub windows_list : ListsArcs events arcs end offsets places
  windows_list = record {
    ends_there = λ e place lt in_row. eqb-true (end (slice_index places place)) e (row_kept e place lt in_row).passes;
    has_each = λ a lt is_event.
        let s = stands_in (λ b. end b == end a) 0 arcs a (eq-eqb (end a) (end a) refl) (omega arith) (omega arith) in
        let n = row_count (end a) is_event in
        let w = s.within in
        record {
          place = slice_index offsets (end a) + s.place;
          in_row = record { begun = omega arith; not_over = omega arith };
          is = sym (row_read (end a) s.place is_event (omega arith)) ∙ s.is;
        };
  }
