-- A copy of times that is brought up to date, place by place.
use Rattle.std.proofs.Common.{◌≡◌, ◌≢◌, ℕ, zero, suc, ◌+◌, ◌<◌, ◌≤◌, ◌⊎◌, Bool, false, List, [], ◌∷◌, length, get_or, drop, set, sym, ap, subst, ◌∙◌, inl, inr, arith, All, length-set, get_or-set_same, get_or-set_other}
use Rattle.std.specs.Prelude.{Contains}
use Rattle.std.proofs.lemmas.Bool.{cases_eq}
use Rattle.std.proofs.lemmas.Grind.{same_number_lists}
use Rattle.std.proofs.lemmas.List.{drop_more, drop_all, length_push, get_or_default, same_lists}
use Rattle.std.proofs.lemmas.List.Elements.{All-push, Contains-push, Contains-append_left}
use Rattle.dm_table.specs.Inside.Noted.{IsUpToDate, AreMarksUpToDate, ListsWhereMoved, ListsWhereMarked, IsRightBut, AreMarksBut, AreCopied}

module _ (due rest : ℕ → Type 0) (times before now listed : List ℕ) (looked : ℕ) (so_far : IsRightBut due times before now listed looked)
    (place : ℕ) (below : place < length times) (leaves : (i : ℕ) → due i → (i ≡ place) ⊎ rest i)
    (then listed_then : List ℕ) (is : then ≡ set now place (get_or times place 0)) (lists : ListsWhereMoved place now then listed listed_then) where
  within_now : place < length now
  within_now = let same = so_far.as_many in omega arith

  here : get_or then place 0 ≡ get_or times place 0
  here = ap (λ (xs : List ℕ). get_or xs place 0) is ∙ get_or-set_same now place (get_or times place 0) 0 within_now

  others : (i : ℕ) → i ≢ place → get_or then i 0 ≡ get_or now i 0
  others i other = ap (λ (xs : List ℕ). get_or xs i 0) is ∙ get_or-set_other now place i (get_or times place 0) 0 other

  right_then : (i : ℕ) → (get_or then i 0 ≡ get_or times i 0) ⊎ rest i
  right_then i = elim (cases_eq i place) [
    | inl same ↦ inl (subst (λ (k : ℕ). get_or then k 0 ≡ get_or times k 0) (sym same) here)
    | inr other ↦ elim (so_far.right i) [
      | inl right ↦ inl (others i other ∙ right)
      | inr is_due ↦ elim (leaves i is_due) [ inl same ↦ absurd (other same) | inr left ↦ inr left ]
    ]
  ]

  listed_more : (i : ℕ) → Contains listed i → Contains listed_then i
  listed_more i has = elim lists [
    | inl pushed ↦ subst (λ (xs : List ℕ). Contains xs i) (sym pushed) (Contains-append_left listed (place ∷ []) i has)
    | inr (same, _) ↦ subst (λ (xs : List ℕ). Contains xs i) (sym same) has
  ]

  listed_here : Contains listed_then place ⊎ (get_or now place 0 ≡ get_or then place 0)
  listed_here = elim lists [
    | inl pushed ↦ inl (subst (λ (xs : List ℕ). Contains xs place) (sym pushed) (Contains-push listed place))
    | inr (_, stays) ↦ inr stays
  ]

  each_then : (i : ℕ) → Contains listed_then i ⊎ (get_or before i 0 ≡ get_or then i 0)
  each_then i = elim (so_far.each i) [
    | inl has ↦ inl (listed_more i has)
    | inr as_before ↦ elim (cases_eq i place) [
      | inl same ↦ elim listed_here [
        | inl has ↦ inl (subst (λ (k : ℕ). Contains listed_then k) (sym same) has)
        | inr stays ↦ inr (as_before ∙ subst (λ (k : ℕ). get_or now k 0 ≡ get_or then k 0) (sym same) stays)
      ]
      | inr other ↦ inr (as_before ∙ sym (others i other))
    ]
  ]

  within_then : All (λ p. p < length times) listed_then
  within_then = elim lists [
    | inl pushed ↦ subst (λ (xs : List ℕ). All (λ p. p < length times) xs) (sym pushed) (All-push (λ p. p < length times) listed place so_far.within below)
    | inr (same, _) ↦ subst (λ (xs : List ℕ). All (λ p. p < length times) xs) (sym same) so_far.within
  ]

  few_then : length listed_then ≤ looked + 1
  few_then = let few = so_far.few in elim lists [
    | inl pushed ↦ omega (arith, ap length pushed, length_push listed place)
    | inr (same, _) ↦ omega (arith, ap length same)
  ]

  -- one place more is looked at
  pub one_looked : IsRightBut rest times before then listed_then (looked + 1)
  one_looked = record {
    began = so_far.began;
    as_many = ap length is ∙ length-set now place (get_or times place 0) ∙ so_far.as_many;
    right = right_then;
    each = each_then;
    within = within_then;
    few = few_then;
  }

-- the same of which events are cancelled
module _ (due rest : ℕ → Type 0) (flags before now : List Bool) (listed : List ℕ) (so_far : AreMarksBut due flags before now listed)
    (place : ℕ) (below : place < length flags) (leaves : (i : ℕ) → due i → (i ≡ place) ⊎ rest i)
    (then : List Bool) (listed_then : List ℕ) (is : then ≡ set now place (get_or flags place false))
    (lists : ListsWhereMarked place now then listed listed_then) where
  mark_here : get_or then place false ≡ get_or flags place false
  mark_here =
      let same = so_far.as_many in
      ap (λ (xs : List Bool). get_or xs place false) is ∙ get_or-set_same now place (get_or flags place false) false (omega arith)

  other_marks : (i : ℕ) → i ≢ place → get_or then i false ≡ get_or now i false
  other_marks i other = ap (λ (xs : List Bool). get_or xs i false) is ∙ get_or-set_other now place i (get_or flags place false) false other

  marks_right : (i : ℕ) → (get_or then i false ≡ get_or flags i false) ⊎ rest i
  marks_right i = elim (cases_eq i place) [
    | inl same ↦ inl (subst (λ (k : ℕ). get_or then k false ≡ get_or flags k false) (sym same) mark_here)
    | inr other ↦ elim (so_far.right i) [
      | inl right ↦ inl (other_marks i other ∙ right)
      | inr is_due ↦ elim (leaves i is_due) [ inl same ↦ absurd (other same) | inr left ↦ inr left ]
    ]
  ]

  still_listed : (i : ℕ) → Contains listed i → Contains listed_then i
  still_listed i has = elim lists [
    | inl pushed ↦ subst (λ (xs : List ℕ). Contains xs i) (sym pushed) (Contains-append_left listed (place ∷ []) i has)
    | inr (same, _) ↦ subst (λ (xs : List ℕ). Contains xs i) (sym same) has
  ]

  marked_here : Contains listed_then place ⊎ (get_or now place false ≡ get_or then place false)
  marked_here = elim lists [
    | inl pushed ↦ inl (subst (λ (xs : List ℕ). Contains xs place) (sym pushed) (Contains-push listed place))
    | inr (_, stays) ↦ inr stays
  ]

  each_mark : (i : ℕ) → Contains listed_then i ⊎ (get_or before i false ≡ get_or then i false)
  each_mark i = elim (so_far.each i) [
    | inl has ↦ inl (still_listed i has)
    | inr as_before ↦ elim (cases_eq i place) [
      | inl same ↦ elim marked_here [
        | inl has ↦ inl (subst (λ (k : ℕ). Contains listed_then k) (sym same) has)
        | inr stays ↦ inr (as_before ∙ subst (λ (k : ℕ). get_or now k false ≡ get_or then k false) (sym same) stays)
      ]
      | inr other ↦ inr (as_before ∙ sym (other_marks i other))
    ]
  ]

  pub mark_looked : AreMarksBut rest flags before then listed_then
  mark_looked = record {
    as_many = ap length is ∙ length-set now place (get_or flags place false) ∙ so_far.as_many;
    right = marks_right;
    each = each_mark;
  }

pub all_marked : (due : ℕ → Type 0) (flags before now : List Bool) (listed : List ℕ) → AreMarksBut due flags before now listed →
    ((i : ℕ) → i < length flags → due i → ⊥) → AreMarksUpToDate flags before now listed
all_marked due flags before now listed done none = record {
  same = same_lists now flags done.as_many
      (λ k d below.
      let same = done.as_many in
      let within : k < length flags = omega arith in
      get_or_default now k d false below
      ∙ elim (done.right k) [ inl right ↦ right | inr is_due ↦ absurd (none k within is_due) ]
      ∙ get_or_default flags k false d within);
  lists = λ i below. elim (done.each i) [ inl has ↦ inr has | inr stays ↦ inl stays ];
}

-- a place that is still to come is this one or comes later
later_places : (x : ℕ) (xs : List ℕ) (i : ℕ) → Contains (x ∷ xs) i → (i ≡ x) ⊎ Contains xs i
later_places x xs i (zero, _, first) = inl (sym first)
later_places x xs i (suc k, below, later) = inr (k, omega arith, later)

pub still_to_come : (places : List ℕ) (k : ℕ) (place : ℕ) → k < length places → place ≡ get_or places k place →
    (i : ℕ) → Contains (drop k places) i → (i ≡ place) ⊎ Contains (drop (k + 1) places) i
still_to_come places k place below is i has =
    later_places place (drop (k + 1) places) i
    (subst (λ (xs : List ℕ). Contains xs i) (drop_more places k place below ∙ ap (λ (p : ℕ). p ∷ drop (k + 1) places) (sym is)) has)

-- when nothing is due any more
pub all_looked : (due : ℕ → Type 0) (times before now listed : List ℕ) (looked : ℕ) → IsRightBut due times before now listed looked →
    looked ≤ length times → ((i : ℕ) → i < length times → due i → ⊥) → IsUpToDate times before now listed
all_looked due times before now listed looked done few none = record {
  same = same_number_lists now times done.as_many
      (λ k below. elim (done.right k) [ inl right ↦ right | inr is_due ↦ absurd (none k (let same = done.as_many in omega arith) is_due) ]);
  lists = record {
    each = λ i _. done.each i;
    within = subst (λ (n : ℕ). All (λ p. p < n) listed) (sym done.as_many) done.within;
    few = let listed_few = done.few in let same = done.as_many in omega arith;
    as_many = done.as_many ∙ sym done.began;
  };
}

pub none_left : (places : List ℕ) (k : ℕ) → length places ≤ k → {n : ℕ} → (i : ℕ) → i < n → Contains (drop k places) i → ⊥
none_left places k all i _ has =
    let few : length (drop k places) ≡ 0 = ap length (drop_all k places all) in
    let below = has.1 in omega arith

pub place_is_next : (place : ℕ) (i : ℕ) → place ≤ i → (i ≡ place) ⊎ (place + 1 ≤ i)
place_is_next place i le = elim (cases_eq i place) [ inl same ↦ inl same | inr other ↦ inr (omega arith) ]

-- marks that are copied one after another
pub copied_next : (flags now : List Bool) (n : ℕ) (flag : Bool) → AreCopied flags n now → n < length flags → flag ≡ get_or flags n false →
    AreCopied flags (n + 1) (set now n flag)
copied_next flags now n flag had below is = record {
  as_many = length-set now n flag ∙ had.as_many;
  same = λ i lt. elim (cases_eq i n) [
    | inl same ↦
        let many = had.as_many in
        ap (λ (k : ℕ). get_or (set now n flag) k false) same ∙ get_or-set_same now n flag false (omega arith) ∙ is ∙ ap (λ (k : ℕ). get_or flags k false) (sym same)
    | inr other ↦ get_or-set_other now n i flag false other ∙ had.same i (omega arith)
  ];
}

pub all_copied : (flags now : List Bool) (n : ℕ) → AreCopied flags n now → length flags ≤ n → now ≡ flags
all_copied flags now n had all =
    same_lists now flags had.as_many
    (λ k d below.
    let many = had.as_many in
    let within : k < length flags = omega arith in
    get_or_default now k d false below ∙ had.same k (omega arith) ∙ get_or_default flags k false d within)
