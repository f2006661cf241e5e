-- The free choices are all different, and what decides each of them in order is a choice list.
use Rattle.std.proofs.Common.{◌≡◌, ℕ, zero, suc, ◌+◌, ◌<◌, ◌≤◌, Bool, true, List, [], ◌∷◌, ◌++◌, length, map, get_or, Some, refl, sym, ap, subst, ◌∙◌, inl, inr, arith}
use Rattle.std.specs.Prelude.{filter, Contains, All, option_map, slice_get}
use Rattle.std.specs.List.{range_with_len}
use Rattle.std.proofs.lemmas.Bool.{cases_Bool, cases_eq, cond-true, cond-false, cond_both}
use Rattle.std.proofs.lemmas.List.Elements.{All-head, All-tail, Contains-append_right, Contains-append_cases, Contains-get_or}
use Rattle.std.proofs.lemmas.Option.{slice_get-get_or, slice_get_within, slice_get-map}
use Rattle.dm_network.specs.Net.{Net}
use Rattle.dm_network.specs.Start.{IsNetwork}
use Rattle.dm_rows.specs.declared.messages.Decision.{Decision}
use Rattle.dm_rows.specs.Rows.{RowsValue}
use Rattle.dm_rows.specs.Decide.{free_changes_of, free_pairs_of, free_choices_of, is_free_change, is_free_pair, change_choice, pair_choice, choice_of, IsChoiceList}
use Rattle.dm_paths.proofs.Naming.{from_place, one_change, one_pair}
use Rattle.dm_paths.proofs.Setting.{in_front}

-- a place that passes has its item among those listed
pub listed : {X : Type 0} (f : ℕ → X) (test : ℕ → Bool) (a n i : ℕ) → a ≤ i → i < a + n → test i ≡ true →
    Contains (map f (filter test (range_with_len a n))) (f i)
listed f test a zero i low high h = absurd (omega arith)
listed f test a (suc n) i low high h =
    let rest : List ℕ = filter test (range_with_len (a + 1) n) in
    elim (cases_eq i a) [
      | inl same ↦
          let t : test a ≡ true = subst (λ k. test k ≡ true) same h in
          let front : Contains (f a ∷ map f rest) (f i) = (0, omega arith, ap f (sym same)) in
          subst (λ ys. Contains (map f ys) (f i)) (sym (cond-true (test a) (a ∷ rest) rest t)) front
      | inr other ↦
          let later : Contains (map f rest) (f i) = listed f test (a + 1) n i (omega arith) (omega arith) h in
          cond_both (test a) (a ∷ rest) rest (λ ys. Contains (map f ys) (f i))
          (λ e. Contains-append_right (f a ∷ []) (map f rest) (f i) later) (λ e. later)
    ]

-- no element stands again behind itself
abbrev pub Apart : {X : Type 0} → List X → Type 0
Apart [] = Unit {0}
Apart (x ∷ xs) = (Contains xs x → ⊥) × Apart xs

pub got_is_in : {X : Type 0} (xs : List X) (k : ℕ) (x : X) → slice_get xs k ≡ Some x → Contains xs x
got_is_in xs k x h =
    let lt : k < length xs = slice_get_within xs k x h in
    let e : Some (get_or xs k x) ≡ Some x = sym (slice_get-get_or xs k x lt) ∙ h in
    (k, lt, cc)

pub apart_once : {X : Type 0} (xs : List X) → Apart xs → (m n : ℕ) (x : X) → slice_get xs m ≡ Some x → slice_get xs n ≡ Some x → m ≡ n
apart_once [] apart m n x e f = cc
apart_once (y ∷ xs) apart zero zero x e f = refl
apart_once (y ∷ xs) apart zero (suc n) x e f =
    let same : y ≡ x = cc in
    absurd (apart.0 (subst (Contains xs) (sym same) (got_is_in xs n x f)))
apart_once (y ∷ xs) apart (suc m) zero x e f =
    let same : y ≡ x = cc in
    absurd (apart.0 (subst (Contains xs) (sym same) (got_is_in xs m x e)))
apart_once (y ∷ xs) apart (suc m) (suc n) x e f = ap suc (apart_once xs apart.1 m n x e f)

pub apart_append : {X : Type 0} (xs ys : List X) → Apart xs → Apart ys → ((x : X) → Contains xs x → Contains ys x → ⊥) → Apart (xs ++ ys)
apart_append [] ys a b other = b
apart_append (x ∷ xs) ys a b other = (
  λ h. elim (Contains-append_cases xs ys x h) [
    | inl l ↦ a.0 l
    | inr r ↦ other x (0, omega arith, refl) r
  ],
  apart_append xs ys a.1 b (λ y l r. other y (Contains-append_right (x ∷ []) xs y l) r),
)

-- the items of different places are different
from_later : {X : Type 0} (f : ℕ → X) (test : ℕ → Bool) (a n : ℕ) (x : X) → Contains (map f (filter test (range_with_len a n))) x →
    (i : ℕ) × (a ≤ i) × (i < a + n) × (f i ≡ x)
from_later f test a zero x h = absurd (omega (arith, h.1))
from_later f test a (suc n) x h =
    let rest : List ℕ = filter test (range_with_len (a + 1) n) in
    let later : Contains (map f rest) x → (i : ℕ) × (a ≤ i) × (i < a + suc n) × (f i ≡ x) =
    λ c. let r = from_later f test (a + 1) n x c in (r.0, omega arith, omega arith, r.3) in
    elim (cases_Bool (test a)) [
      | inl t ↦
          let c : Contains (f a ∷ map f rest) x = subst (λ ys. Contains (map f ys) x) (cond-true (test a) (a ∷ rest) rest t) h in
          elim (in_front (f a) x (map f rest) c) [
            | inl e ↦ (a, omega arith, omega arith, e)
            | inr behind ↦ later behind
          ]
      | inr t ↦ later (subst (λ ys. Contains (map f ys) x) (cond-false (test a) (a ∷ rest) rest t) h)
    ]

apart_listed : {X : Type 0} (f : ℕ → X) (test : ℕ → Bool) (limit : ℕ) → ((i j : ℕ) → i < limit → j < limit → f i ≡ f j → i ≡ j) →
    (a n : ℕ) → a + n ≤ limit → Apart (map f (filter test (range_with_len a n)))
apart_listed f test limit one a zero le = tt
apart_listed f test limit one a (suc n) le =
    let rest : List ℕ = filter test (range_with_len (a + 1) n) in
    let later = apart_listed f test limit one (a + 1) n (omega arith) in
    let first : Contains (map f rest) (f a) → ⊥ =
    λ c. let r = from_later f test (a + 1) n (f a) c in
    let same : r.0 ≡ a = one r.0 a (omega arith) (omega arith) r.3 in
    let low = r.1 in
    omega arith in
    cond_both (test a) (a ∷ rest) rest (λ ys. Apart (map f ys)) (λ e. (first, later)) (λ e. later)

pub free_are_apart : (net : Net) → IsNetwork net → (rows : RowsValue) → Apart (free_choices_of net rows)
free_are_apart net network rows =
    apart_append (free_changes_of net rows) (free_pairs_of net rows)
    (apart_listed (change_choice net) (is_free_change net rows) (length net.activities) (one_change net network) 0 (length net.activities) (omega arith))
    (apart_listed (pair_choice net) (is_free_pair net rows) (length net.pairs) (one_pair net network) 0 (length net.pairs) (omega arith))
    (λ c l r.
    let a = from_place (change_choice net) (is_free_change net rows) (length net.activities) c l in
    let p = from_place (pair_choice net) (is_free_pair net rows) (length net.pairs) c r in
    let e : change_choice net a.place ≡ pair_choice net p.place = a.is ∙ sym p.is in
    cc)

-- decisions whose choices are all different and free are a choice list
pub choice_list_from : (net : Net) (rows : RowsValue) (ds : List Decision) → Apart (map choice_of ds) →
    ((d : Decision) → Contains ds d → Contains (free_choices_of net rows) (choice_of d)) → IsChoiceList net rows ds
choice_list_from net rows ds apart free =
    record {
      free = λ k d lt. free (get_or ds k d) (Contains-get_or ds k d lt);
      once = λ m n d e at at' same.
          let f : slice_get (map choice_of ds) m ≡ Some (choice_of d) = slice_get-map choice_of ds m ∙ ap (option_map choice_of) at in
          let g : slice_get (map choice_of ds) n ≡ Some (choice_of d) = slice_get-map choice_of ds n ∙ ap (option_map choice_of) at' ∙ ap Some (sym same) in
          apart_once (map choice_of ds) apart m n (choice_of d) f g;
    }

pub in_map : {X Y : Type 0} (f : X → Y) (xs : List X) (x : X) → Contains xs x → Contains (map f xs) (f x)
in_map f [] x h = absurd (omega (arith, h.1))
in_map f (y ∷ xs) x h =
    elim (in_front y x xs h) [
      | inl e ↦ (0, omega arith, ap f e)
      | inr r ↦ Contains-append_right (f y ∷ []) (map f xs) (f x) (in_map f xs x r)
    ]

pub map_through : {X Y Z : Type 0} (f : X → Y) (g : Y → Z) (h : X → Z) (xs : List X) → All (λ x. g (f x) ≡ h x) xs → map g (map f xs) ≡ map h xs
map_through f g h [] all = refl
map_through f g h (x ∷ xs) all =
    let first : g (f x) ≡ h x = All-head (λ y. g (f y) ≡ h y) x xs all in
    let rest = map_through f g h xs (All-tail (λ y. g (f y) ≡ h y) x xs all) in
    cc
