-- Flags set one after another, and what is held after.
use Rattle.std.proofs.Common.{◌≡◌, ℕ, suc, ◌<◌, Bool, true, false, List, [], ◌∷◌, length, refl, sym, ap, subst, ◌∙◌, inl, inr, arith, eqb-true, get_or-set_same, get_or-set_other, length-set}
use Rattle.std.specs.Prelude.{◌==◌, slice_set, fold, if◌then◌else◌}
use Rattle.std.specs.List.{All}
use Rattle.std.proofs.lemmas.Bool.{cases_Bool, eqb-false}
use Rattle.std.proofs.lemmas.List.{ext_get_or}
use Rattle.std.proofs.lemmas.List.Folds.{Any-from_list_any}
use Rattle.dm_network.specs.Held.{is_held}
use Rattle.dm_order.specs.Orders.{is_among}
use Rattle.dm_order.specs.Inside.Flagging.{flagged, taken_back}

-- flags set by what a function says of each activity
abbrev pub set_by : (ℕ → Bool) → List Bool → List ℕ → List Bool
set_by f flags arcs = fold (λ fs a. slice_set fs a (f a)) flags arcs

pub length-set_by : (f : ℕ → Bool) (flags : List Bool) (arcs : List ℕ) → length (set_by f flags arcs) ≡ length flags
length-set_by f flags [] = refl
length-set_by f flags (b ∷ bs) = length-set_by f (slice_set flags b (f b)) bs ∙ length-set flags b (f b)

same_both : (b : Bool) (x y z : Bool) → x ≡ z → y ≡ z → (if b then x else y) ≡ z
same_both true x y z p q = p
same_both false x y z p q = q

pub set_by_is : (f : ℕ → Bool) (flags : List Bool) (arcs : List ℕ) → All (λ a. a < length flags) arcs →
    (a : ℕ) → is_held (set_by f flags arcs) a ≡ (if is_among arcs a then f a else is_held flags a)
set_by_is f flags [] within a = refl
set_by_is f flags (b ∷ bs) within a =
    let here : b < length flags = within 0 0 (omega arith) in
    let count : length (slice_set flags b (f b)) ≡ length flags = length-set flags b (f b) in
    let rest : is_held (set_by f (slice_set flags b (f b)) bs) a ≡ (if is_among bs a then f a else is_held (slice_set flags b (f b)) a) =
    set_by_is f (slice_set flags b (f b)) bs (λ k d lt. let w = within (suc k) d (omega arith) in omega arith) a in
    elim (cases_Bool (a == b)) [
      | inl same ↦
          let is : b ≡ a = sym (eqb-true a b same) in
          let set : is_held (slice_set flags b (f b)) a ≡ f a =
          subst (λ (j : ℕ). is_held (slice_set flags b (f b)) j ≡ f j) is (get_or-set_same flags b (f b) false here) in
          rw same (rest ∙ same_both (is_among bs a) (f a) (is_held (slice_set flags b (f b)) a) (f a) refl set)
      | inr other ↦
          let set : is_held (slice_set flags b (f b)) a ≡ is_held flags a = get_or-set_other flags b a (f b) false (eqb-false a b other) in
          rw other (rest ∙ ap (λ (x : Bool). if is_among bs a then f a else x) set)
    ]

-- what holds of each of some activities holds of one of them
pub all_at : (P : ℕ → Type 0) (arcs : List ℕ) (a : ℕ) → All P arcs → is_among arcs a ≡ true → P a
all_at P arcs a all among =
    let m = Any-from_list_any (λ b. a == b) arcs among in
    let is : m.1 ≡ a = sym (eqb-true a m.1 m.4) in
    subst P (m.3 ∙ is) (all m.0 m.1 m.2)

back_again : (b x : Bool) → (if b then x else (if b then true else x)) ≡ x
back_again true x = refl
back_again false x = refl

-- activities that were set, and are set back, leave the flags as they were
pub taken_back_is : (flags : List Bool) (arcs : List ℕ) → All (λ a. a < length flags) arcs → taken_back flags (flagged true flags arcs) arcs ≡ flags
taken_back_is flags arcs within =
    let count : length (flagged true flags arcs) ≡ length flags = length-set_by (λ _. true) flags arcs in
    let counts : length (taken_back flags (flagged true flags arcs) arcs) ≡ length flags = length-set_by (λ a. is_held flags a) (flagged true flags arcs) arcs ∙ count in
    ext_get_or false (taken_back flags (flagged true flags arcs) arcs) flags counts
    (λ a lt.
    set_by_is (λ b. is_held flags b) (flagged true flags arcs) arcs (λ k d below. let w = within k d below in omega arith) a
    ∙ ap (λ (x : Bool). if is_among arcs a then is_held flags a else x) (set_by_is (λ _. true) flags arcs within a)
    ∙ back_again (is_among arcs a) (is_held flags a))
