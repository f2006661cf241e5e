-- Logs of several feeds, of which one is replaced.
use Rattle.std.proofs.Common.{◌≡◌, ℕ, zero, suc, ◌+◌, ◌<◌, ◌≤◌, cond, List, [], ◌∷◌, length, map, set, Some, refl, ap, subst, arith, inl, inr, slice_get}
use Rattle.std.specs.Prelude.{count_by, sum_by}
use Rattle.std.proofs.lemmas.Bool.{cases_lt}
use Rattle.std.proofs.lemmas.List.{nil_from_length}
use Rattle.std.proofs.lemmas.List.Sums.{sum_by-cons, sum_by-append, sum_by-set, get_or-le-sum_by}
use Rattle.std.proofs.lemmas.Option.{slice_get_within, get_or_from_slice_get}
use Rattle.dm_cert.specs.declared.replies.LogItem.{LogItem}
use Rattle.dm_cert.specs.declared.replies.FeedLog.{FeedLog}
use Rattle.dm_cert.specs.Logs.{names, all_items}

-- ---- one element replaced

pub get_set_same : {X : Type 0} (xs : List X) (p : ℕ) (a b : X) → slice_get xs p ≡ Some a → slice_get (set xs p b) p ≡ Some b
get_set_same [] p a b at = absurd (cc)
get_set_same (x ∷ xs) zero a b at = refl
get_set_same (x ∷ xs) (suc p) a b at = get_set_same xs p a b at

pub get_set_other : {X : Type 0} (xs : List X) (p q : ℕ) (b : X) → (q ≡ p → ⊥) → slice_get (set xs p b) q ≡ slice_get xs q
get_set_other [] p q b other = refl
get_set_other (x ∷ xs) zero zero b other = absurd (other refl)
get_set_other (x ∷ xs) zero (suc q) b other = refl
get_set_other (x ∷ xs) (suc p) zero b other = refl
get_set_other (x ∷ xs) (suc p) (suc q) b other = get_set_other xs p q b (λ same. other (ap suc same))

pub set_back : {X : Type 0} (xs : List X) (p : ℕ) (a b : X) → slice_get xs p ≡ Some a → set (set xs p b) p a ≡ xs
set_back [] p a b at = refl
set_back (x ∷ xs) zero a b at = ap (λ y. y ∷ xs) (let same : a ≡ x = cc in same)
set_back (x ∷ xs) (suc p) a b at = ap (λ ys. x ∷ ys) (set_back xs p a b at)

-- ---- sums over all

pub sum_set : {X : Type 0} (f : X → ℕ) (xs : List X) (p : ℕ) (a b : X) → slice_get xs p ≡ Some a → sum_by f (set xs p b) + f a ≡ sum_by f xs + f b
sum_set f xs p a b at =
    subst (λ (y : _). sum_by f (set xs p b) + f y ≡ sum_by f xs + f b) (get_or_from_slice_get xs p a b at) (sum_by-set f xs p b b (slice_get_within xs p a at))

pub sum_one : {X : Type 0} (f : X → ℕ) (xs : List X) (p : ℕ) (a : X) → slice_get xs p ≡ Some a → f a ≤ sum_by f xs
sum_one f xs p a at =
    subst (λ (y : _). f y ≤ sum_by f xs) (get_or_from_slice_get xs p a a at) (get_or-le-sum_by f xs p a (slice_get_within xs p a at))

pub sum_two : {X : Type 0} (f : X → ℕ) (xs : List X) (p q : ℕ) (a b : X) → slice_get xs p ≡ Some a → slice_get xs q ≡ Some b → (p ≡ q → ⊥) → f a + f b ≤ sum_by f xs
sum_two f [] p q a b at there other = absurd (cc)
sum_two f (x ∷ xs) zero zero a b at there other = absurd (other refl)
sum_two f (x ∷ xs) zero (suc q) a b at there other =
    let same : f x ≡ f a = ap f (let e : x ≡ a = cc in e) in
    let rest : f b ≤ sum_by f xs = sum_one f xs q b there in
    let all = sum_by-cons f x xs in omega arith
sum_two f (x ∷ xs) (suc p) zero a b at there other =
    let same : f x ≡ f b = ap f (let e : x ≡ b = cc in e) in
    let rest : f a ≤ sum_by f xs = sum_one f xs p a at in
    let all = sum_by-cons f x xs in omega arith
sum_two f (x ∷ xs) (suc p) (suc q) a b at there other =
    let rest : f a + f b ≤ sum_by f xs = sum_two f xs p q a b at there (λ same. other (ap suc same)) in
    let all = sum_by-cons f x xs in omega arith

-- where a sum is not 0, some element has a part in it
pub record HasPart {X : Type 0} (f : X → ℕ) (xs : List X) : Type 0 where
  pub place : ℕ
  pub part : X
  pub stands : slice_get xs place ≡ Some part
  pub some : 0 < f part

pub has_part : {X : Type 0} (f : X → ℕ) (xs : List X) → 0 < sum_by f xs → HasPart f xs
has_part f [] lt = absurd (omega arith)
has_part f (x ∷ xs) lt =
    elim (cases_lt 0 (f x)) [
      | inl here ↦ record { place = 0; part = x; stands = refl; some = here }
      | inr none ↦
          let all = sum_by-cons f x xs in
          let there = has_part f xs (omega arith) in
          record { place = suc there.place; part = there.part; stands = there.stands; some = there.some }
    ]

-- ---- names and items over all logs

abbrev pub total_names : ℕ → List (List LogItem) → ℕ
total_names n logs = sum_by (λ items. count_by (names n) items) logs

abbrev pub size_of : List (List LogItem) → ℕ
size_of logs = sum_by (λ items. length items) logs

abbrev pub items_of : List FeedLog → List (List LogItem)
items_of logs = map (λ log. log.items) logs

pub names_of_all : (n : ℕ) (logs : List FeedLog) → count_by (names n) (all_items logs) ≡ total_names n (items_of logs)
names_of_all n [] = refl
names_of_all n (log ∷ logs) =
    let here = sum_by-append (λ x. cond (names n x) 1 0) log.items (all_items logs) in
    let rest = names_of_all n logs in
    let all = sum_by-cons (λ items. count_by (names n) items) log.items (items_of logs) in
    omega arith

-- ---- nothing yet

pub all_empty : {X : Type 0} (xs : List X) (logs : List (List LogItem)) → length logs ≡ length xs → size_of logs ≡ 0 → logs ≡ map (λ x. []) xs
all_empty [] [] long none = refl
all_empty [] (items ∷ logs) long none = absurd (omega arith)
all_empty (x ∷ xs) [] long none = absurd (omega arith)
all_empty (x ∷ xs) (items ∷ logs) long none =
    let all = sum_by-cons (λ items. length items) items logs in
    let first : items ≡ [] = nil_from_length items (omega arith) in
    let rest : logs ≡ map (λ y. []) xs = all_empty xs logs (omega arith) (omega arith) in
    cc

pub none_named : {X : Type 0} (n : ℕ) (xs : List X) → total_names n (map (λ x. []) xs) ≡ 0
none_named n [] = refl
none_named n (x ∷ xs) =
    let rest = none_named n xs in
    let all = sum_by-cons (λ items. count_by (names n) items) [] (map (λ y. []) xs) in
    omega arith

pub empty_at : {X : Type 0} (xs : List X) (p : ℕ) (items : List LogItem) → slice_get (map (λ x. []) xs) p ≡ Some items → items ≡ []
empty_at [] p items at = absurd (cc)
empty_at (x ∷ xs) zero items at = cc
empty_at (x ∷ xs) (suc p) items at = empty_at xs p items at
