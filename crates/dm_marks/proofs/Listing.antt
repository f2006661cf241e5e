-- Places that are listed as they come.
use Rattle.std.proofs.Common.{◌≡◌, ℕ, ◌+◌, ◌<◌, ◌≤◌, Bool, true, false, List, [], ◌∷◌, ◌++◌, length, get_or, refl, sym, subst, ap, ◌∙◌, inl, inr, arith, cond, drop, drop-cons, add-one, length-set, length-drop, length-append, get_or-set_same, get_or-set_other}
use Rattle.std.specs.Prelude.{slice_set, replicate, All, Contains, count_by}
use Rattle.std.proofs.lemmas.Bool.{cases_lt, cases_eq}
use Rattle.std.proofs.lemmas.List.{length-replicate, get_or_past, get_or-replicate, set-get_or, ext_get_or}
use Rattle.std.proofs.lemmas.List.Elements.{All-contains, Contains-append_left, Contains-push, Contains-append_cases, All-push}
use Rattle.std.proofs.lemmas.List.Sums.{sum_by-set, count_by-le-length}
use Rattle.std.proofs.lemmas.List.Folds.{sum_by-replicate}
use Rattle.dm_marks.specs.Marked.{is_marked}
use Rattle.dm_marks.specs.Places.{IsPlaceSet}
use Rattle.dm_marks.specs.Inside.Listing.{IsListed}

-- nothing is in where every flag is off
pub none_in : (n place : ℕ) → is_marked (replicate n false) place ≡ false
none_in n place =
    elim (cases_lt place n) [
      | inl below ↦ get_or-replicate n place false false below
      | inr past ↦ get_or_past (replicate n false) place false (rw length-replicate past)
    ]

-- a place that is in is one of the places
within_flags : (flags : List Bool) (place : ℕ) → is_marked flags place ≡ true → place < length flags
within_flags flags place is_in =
    elim (cases_lt place (length flags)) [
      | inl below ↦ below
      | inr past ↦ let out = get_or_past flags place false past in absurd (let e : false ≡ true = sym out ∙ is_in in cc)
    ]

pub none_listed : (n : ℕ) → IsListed (replicate n false) []
none_listed n = record {
  each = λ place is_in. absurd (let e : false ≡ true = sym (none_in n place) ∙ is_in in cc);
  within = λ k d below. absurd (omega arith);
  as_many = let e = sum_by-replicate (λ (flag : Bool). cond flag 1 0) n false in omega (arith, e);
}

-- what is set anew is in, and so is what was
is_in_still : (flags : List Bool) (place k : ℕ) → place < length flags → is_marked flags k ≡ true → is_marked (slice_set flags place true) k ≡ true
is_in_still flags place k below was =
    elim (cases_eq k place) [
      | inl is ↦ subst (λ (j : ℕ). is_marked (slice_set flags place true) j ≡ true) (sym is) (get_or-set_same flags place true false below)
      | inr ne ↦ get_or-set_other flags place k true false ne ∙ was
    ]

one_more : (flags : List Bool) (place : ℕ) → place < length flags → is_marked flags place ≡ false →
    count_by (λ flag. flag) (slice_set flags place true) ≡ count_by (λ flag. flag) flags + 1
one_more flags place below out =
    let kept : ◌≡◌ {A = ℕ} (cond (get_or flags place false) 1 0) 0 = ap (λ (b : Bool). cond b 1 0) out in
    let sum = sum_by-set (λ (flag : Bool). cond flag 1 0) flags place true false below in
    omega (arith, kept, sum)

pub room_for : (flags : List Bool) (places : List ℕ) (place : ℕ) → place < length flags → is_marked flags place ≡ false → IsListed flags places → length places < length flags
room_for flags places place below out listed =
    let many = listed.as_many in
    let more = one_more flags place below out in
    let most = count_by-le-length (λ flag. flag) (slice_set flags place true) in
    let same : length (slice_set flags place true) ≡ length flags = length-set flags place true in
    omega arith

pub listed : (flags : List Bool) (places : List ℕ) (place : ℕ) → place < length flags → is_marked flags place ≡ false → IsListed flags places → IsListed (slice_set flags place true) (places ++ place ∷ [])
listed flags places place below out so_far = record {
  each = λ k is_in. elim (cases_eq k place) [
    | inl is ↦ subst (Contains (places ++ place ∷ [])) (sym is) (Contains-push places place)
    | inr ne ↦ Contains-append_left places (place ∷ []) k (so_far.each k (sym (get_or-set_other flags place k true false ne) ∙ is_in))
  ];
  within = All-push (λ k. is_marked (slice_set flags place true) k ≡ true) places place
      (λ k d before. is_in_still flags place (get_or places k d) below (so_far.within k d before))
      (get_or-set_same flags place true false below);
  as_many = let many = so_far.as_many in let more = one_more flags place below out in simp length-append (omega arith);
}

-- a place that is in already changes nothing
pub set_again : (flags : List Bool) (place : ℕ) → is_marked flags place ≡ true → slice_set flags place true ≡ flags
set_again flags place is_in = subst (λ (b : Bool). slice_set flags place b ≡ flags) is_in (set-get_or flags place false)

pub listed_within : (flags : List Bool) (places : List ℕ) → IsListed flags places → All (λ place. place < length flags) places
listed_within flags places listed = λ k d below. within_flags flags (get_or places k d) (listed.within k d below)

pub is_place_set : (flags : List Bool) (places : List ℕ) → IsListed flags places → IsPlaceSet (record { flags = flags; places = places })
is_place_set flags places listed = record {
  each = listed.each;
  within = listed.within;
  few = let many = listed.as_many in let most = count_by-le-length (λ flag. flag) flags in omega arith;
}

-- a flag that is taken away is out
out_now : (flags : List Bool) (place : ℕ) → is_marked (slice_set flags place false) place ≡ false
out_now flags place =
    elim (cases_lt place (length flags)) [
      | inl below ↦ get_or-set_same flags place false false below
      | inr past ↦ get_or_past (slice_set flags place false) place false (rw length-set past)
    ]

All-one : (place : ℕ) → All (λ (j : ℕ). place ≡ j) (place ∷ [])
All-one place = All-push (λ (j : ℕ). place ≡ j) [] place (λ k d below. absurd (omega arith)) refl

if_out : (b : Bool) → (b ≡ true → ⊥) → b ≡ false
if_out true not = absurd (not refl)
if_out false not = refl

out_at : (flags : List Bool) (places : List ℕ) (n k : ℕ) → length places ≤ n → ((k : ℕ) → is_marked flags k ≡ true → Contains (drop n places) k) → is_marked flags k ≡ false
out_at flags places n k past left = if_out (is_marked flags k) (λ is_in.
    let at = left k is_in in
    let none : length (drop n places) ≡ 0 = rw length-drop (omega arith) in
    omega (arith, at.1, none))

-- flags are taken away one after another: what is left is listed behind
pub left_behind : (flags : List Bool) (places : List ℕ) (n : ℕ) → n < length places → ((k : ℕ) → is_marked flags k ≡ true → Contains (drop n places) k) →
    (k : ℕ) → is_marked (slice_set flags (get_or places n 0) false) k ≡ true → Contains (drop (n + 1) places) k
left_behind flags places n below left k is_in =
    let place : ℕ = get_or places n 0 in
    let other : (k ≡ place → ⊥) = λ is. (let e : false ≡ true = sym (subst (λ (j : ℕ). is_marked (slice_set flags place false) j ≡ false) (sym is) (out_now flags place)) ∙ is_in in cc) in
    let split : drop n places ≡ (place ∷ []) ++ drop (n + 1) places = rw add-one (drop-cons places n 0 below) in
    let was : Contains ((place ∷ []) ++ drop (n + 1) places) k =
    subst (λ (ps : List ℕ). Contains ps k) split (left k (sym (get_or-set_other flags place k false false other) ∙ is_in)) in
    elim (Contains-append_cases (place ∷ []) (drop (n + 1) places) k was) [
      | inl first ↦ absurd (other (sym (All-contains (λ (j : ℕ). place ≡ j) (place ∷ []) k (All-one place) first)))
      | inr rest ↦ rest
    ]

pub none_left : (flags : List Bool) (places : List ℕ) (n : ℕ) → length places ≤ n → ((k : ℕ) → is_marked flags k ≡ true → Contains (drop n places) k) →
    flags ≡ replicate (length flags) false
none_left flags places n past left = ext_get_or false flags (replicate (length flags) false) (sym (length-replicate (length flags) false))
    (λ k below. out_at flags places n k past left ∙ sym (none_in (length flags) k))
