-- What is listed first, and flags of what is not met, one activity after another.
use Rattle.std.proofs.Common.{◌≡◌, ℕ, zero, suc, ◌+◌, ◌<◌, ◌≤◌, Bool, true, false, List, [], ◌∷◌, ◌++◌, length, map, set, Some, None, refl, sym, ap, subst, ◌∙◌, ◌⊎◌, inl, inr, arith}
use Rattle.std.specs.Prelude.{filter, ◌&&◌, ◌||◌, slice_get, ◌==◌}
use Rattle.std.specs.List.{range_with_len, list_any}
use Rattle.std.proofs.lemmas.Bool.{cases_eq, cond-true, cond-false, and_from, and_left, and_right, eq-eqb, or_right, ne_eqb}
use Rattle.std.proofs.lemmas.List.Folds.{list_any-append}
use Rattle.dm_network.specs.Net.{Net, activity_at}
use Rattle.dm_network.proofs.Filling.{range_more}
use Rattle.dm_rows.specs.Rows.{RowsValue}
use Rattle.dm_rows.specs.Relax.{is_of_pair, is_unmet_from}
use Rattle.dm_rows.specs.Cost.{comes_too_early}
use Rattle.dm_paths.specs.Flags.{AreFlags}
use Rattle.dm_paths.proofs.Decided.{flags_set, flags_same}
use Rattle.dm_relax.specs.Inside.Flags.{end_of, is_unmet_so_far}

-- the first place that passes comes first among those listed
first_from : {X : Type 0} (f : ℕ → X) (test : ℕ → Bool) (a n i : ℕ) → a ≤ i → i < a + n → ((k : ℕ) → k < i → test k ≡ false) → test i ≡ true →
    slice_get (map f (filter test (range_with_len a n))) 0 ≡ Some (f i)
first_from f test a zero i low high none here = absurd (omega arith)
first_from f test a (suc n) i low high none here =
    let rest : List ℕ = filter test (range_with_len (a + 1) n) in
    elim (cases_eq i a) [
      | inl same ↦
          let t : test a ≡ true = subst (λ k. test k ≡ true) same here in
          ap (λ ys. slice_get (map f ys) 0) (cond-true (test a) (a ∷ rest) rest t) ∙ ap (λ k. Some (f k)) (sym same)
      | inr other ↦
          ap (λ ys. slice_get (map f ys) 0) (cond-false (test a) (a ∷ rest) rest (none a (omega arith)))
          ∙ first_from f test (a + 1) n i (omega arith) (omega arith) none here
    ]

pub first_listed : {X : Type 0} (f : ℕ → X) (test : ℕ → Bool) (n i : ℕ) → i < n → ((k : ℕ) → k < i → test k ≡ false) → test i ≡ true →
    slice_get (map f (filter test (range_with_len 0 n))) 0 ≡ Some (f i)
first_listed f test n i below none here = first_from f test 0 n i (omega arith) (omega arith) none here

none_from : (test : ℕ → Bool) (a n : ℕ) → ((k : ℕ) → k < a + n → test k ≡ false) → filter test (range_with_len a n) ≡ []
none_from test a zero none = refl
none_from test a (suc n) none =
    let rest : List ℕ = filter test (range_with_len (a + 1) n) in
    cond-false (test a) (a ∷ rest) rest (none a (omega arith)) ∙ none_from test (a + 1) n (λ k lt. none k (omega arith))

pub none_listed : {X : Type 0} (f : ℕ → X) (test : ℕ → Bool) (n i : ℕ) → n ≤ i → ((k : ℕ) → k < i → test k ≡ false) →
    slice_get (map f (filter test (range_with_len 0 n))) 0 ≡ None
none_listed f test n i le none =
    ap (λ ys. slice_get (map f ys) 0) (none_from test 0 n (λ k lt. none k (omega arith)))

-- one activity more
or_false : (b c : Bool) → c ≡ false → (b || c) ≡ b
or_false true c e = refl
or_false false c e = e

unmet_more : (net : Net) (rows : RowsValue) (x : List ℕ) (small : Bool) (n p : ℕ) →
    is_unmet_so_far net rows x small (n + 1) p ≡ (is_unmet_so_far net rows x small n p || is_unmet_from net rows x p (end_of net small p) n)
unmet_more net rows x small n p =
    let test : ℕ → Bool = is_unmet_from net rows x p (end_of net small p) in
    let e : 0 + n ≡ n = omega arith in
    ap (list_any test) (range_more 0 n ∙ ap (λ m. range_with_len 0 n ++ m ∷ []) e)
    ∙ list_any-append test (range_with_len 0 n) (n ∷ [])
    ∙ ap (λ b. list_any test (range_with_len 0 n) || b) (alone (test n))
  where
    alone : (b : Bool) → (b || false) ≡ b
    alone true = refl
    alone false = refl

pub unmet_same : (net : Net) (rows : RowsValue) (x : List ℕ) (small : Bool) (n p : ℕ) → is_unmet_from net rows x p (end_of net small p) n ≡ false →
    is_unmet_so_far net rows x small (n + 1) p ≡ is_unmet_so_far net rows x small n p
unmet_same net rows x small n p h = unmet_more net rows x small n p ∙ or_false (is_unmet_so_far net rows x small n p) (is_unmet_from net rows x p (end_of net small p) n) h

pub unmet_now : (net : Net) (rows : RowsValue) (x : List ℕ) (small : Bool) (n p : ℕ) → is_unmet_from net rows x p (end_of net small p) n ≡ true →
    true ≡ is_unmet_so_far net rows x small (n + 1) p
unmet_now net rows x small n p h =
    sym (unmet_more net rows x small n p ∙ or_right (is_unmet_so_far net rows x small n p) (is_unmet_from net rows x p (end_of net small p) n) h)

-- an activity counts for its own pair alone
pub of_no_pair : (net : Net) (rows : RowsValue) (x : List ℕ) (p t n : ℕ) → (activity_at net n).pair ≡ None → is_unmet_from net rows x p t n ≡ false
of_no_pair net rows x p t n is =
    and_left (is_of_pair p (activity_at net n).pair && (activity_at net n).tail == t) (comes_too_early net rows x n)
    (and_left (is_of_pair p (activity_at net n).pair) ((activity_at net n).tail == t) (ap (is_of_pair p) is))

pub of_other_pair : (net : Net) (rows : RowsValue) (x : List ℕ) (p q t n : ℕ) → (activity_at net n).pair ≡ Some q → (p ≡ q → ⊥) → is_unmet_from net rows x p t n ≡ false
of_other_pair net rows x p q t n is other =
    and_left (is_of_pair p (activity_at net n).pair && (activity_at net n).tail == t) (comes_too_early net rows x n)
    (and_left (is_of_pair p (activity_at net n).pair) ((activity_at net n).tail == t)
    (ap (is_of_pair p) is ∙ ne_eqb q p (λ e. other (sym e))))

-- an activity that is not met, out of the end of its pair
pub unmet_marked : (net : Net) (rows : RowsValue) (x : List ℕ) (small : Bool) (n p : ℕ) (flags : List Bool) → p < length net.pairs →
    (activity_at net n).pair ≡ Some p → ((activity_at net n).tail == end_of net small p) ≡ true → comes_too_early net rows x n ≡ true →
    AreFlags (is_unmet_so_far net rows x small n) (length net.pairs) flags →
    AreFlags (is_unmet_so_far net rows x small (n + 1)) (length net.pairs) (set flags p true)
unmet_marked net rows x small n p flags below is tail early h =
    let act = activity_at net n in
    flags_set (is_unmet_so_far net rows x small n) (is_unmet_so_far net rows x small (n + 1)) (length net.pairs) p flags true h below
    (sym (unmet_now net rows x small n p
    (and_from (is_of_pair p act.pair && act.tail == end_of net small p) (comes_too_early net rows x n)
    (and_from (is_of_pair p act.pair) (act.tail == end_of net small p) (ap (is_of_pair p) is ∙ eq-eqb p p refl) tail) early)))
    (λ k lt apart. unmet_same net rows x small n k (of_other_pair net rows x k p (end_of net small k) n is apart))

-- and one that is met, leaves the other end, or has no pair
pub unmet_of_its_pair : (net : Net) (rows : RowsValue) (x : List ℕ) (small : Bool) (n p : ℕ) (flags : List Bool) →
    (activity_at net n).pair ≡ Some p → (((activity_at net n).tail == end_of net small p) ≡ false) ⊎ (comes_too_early net rows x n ≡ false) →
    AreFlags (is_unmet_so_far net rows x small n) (length net.pairs) flags → AreFlags (is_unmet_so_far net rows x small (n + 1)) (length net.pairs) flags
unmet_of_its_pair net rows x small n p flags is met h =
    let act = activity_at net n in
    flags_same (is_unmet_so_far net rows x small n) (is_unmet_so_far net rows x small (n + 1)) (length net.pairs) flags h
    (λ k lt. unmet_same net rows x small n k
    (elim (cases_eq k p) [
      | inr apart ↦ of_other_pair net rows x k p (end_of net small k) n is apart
      | inl same ↦ elim met [
        | inl other ↦
            and_left (is_of_pair k act.pair && act.tail == end_of net small k) (comes_too_early net rows x n)
            (and_right (is_of_pair k act.pair) (act.tail == end_of net small k) (ap (λ q. act.tail == end_of net small q) same ∙ other))
        | inr on_time ↦ and_right (is_of_pair k act.pair && act.tail == end_of net small k) (comes_too_early net rows x n) on_time
      ]
    ]))

pub unmet_of_no_pair : (net : Net) (rows : RowsValue) (x : List ℕ) (small : Bool) (n : ℕ) (flags : List Bool) → (activity_at net n).pair ≡ None →
    AreFlags (is_unmet_so_far net rows x small n) (length net.pairs) flags → AreFlags (is_unmet_so_far net rows x small (n + 1)) (length net.pairs) flags
unmet_of_no_pair net rows x small n flags is h =
    flags_same (is_unmet_so_far net rows x small n) (is_unmet_so_far net rows x small (n + 1)) (length net.pairs) flags h
    (λ k lt. unmet_same net rows x small n k (of_no_pair net rows x k (end_of net small k) n is))
