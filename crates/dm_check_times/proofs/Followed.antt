-- Times that follow at the events that have moved.
use Rattle.std.proofs.Common.{◌≡◌, ℕ, ◌+◌, ◌<◌, ◌≤◌, Bool, true, false, List, length, sym, ap, subst, ◌∙◌, inl, inr, arith, slice_index, length-set, get_or-set_same, get_or-set_other}
use Rattle.std.specs.Prelude.{slice_set}
use Rattle.std.proofs.lemmas.Bool.{cases_eq, cases_lt}
use Rattle.std.proofs.lemmas.List.{get_or_past, get_or_default}
use Rattle.std.proofs.lemmas.List.Elements.{All-weaker}
use Rattle.std.proofs.lemmas.Grind.{same_number_lists}
use Rattle.dm_marks.specs.Marked.{is_marked}
use Rattle.dm_marks.specs.Moved.{ListsMoved}
use Rattle.dm_marks.specs.Places.{PlaceSetValue, IsPlaceSet}
use Rattle.dm_check_times.specs.Noting.{AreAlikeBut}
use Rattle.dm_check_times.specs.Inside.Pricing.{HasFollowed}
use Rattle.dm_check_times.proofs.Noted.{alike_or_listed}

pub followed_none : (before times listed : List ℕ) → ListsMoved before times listed → HasFollowed times listed 0 before
followed_none before times listed moved = record {
  as_many = sym moved.as_many;
  each = λ place below. elim (moved.each place below) [
    | inl contains ↦ inl (record {
      at = contains.0;
      not_before = omega arith;
      within = contains.1;
      is = get_or_default listed contains.0 0 place contains.1 ∙ contains.2;
    })
    | inr same ↦ inr same
  ];
}

pub followed_next : (times listed : List ℕ) (n i : ℕ) (old new : List ℕ) → i ≡ slice_index listed n → i < length old → new ≡ slice_set old i (slice_index times i) → HasFollowed times listed n old → HasFollowed times listed (n + 1) new
followed_next times listed n i old new here inside is had = record {
  as_many = ap (λ (xs : List ℕ). length xs) is ∙ (length-set old i (slice_index times i) ∙ had.as_many);
  each = λ place below. elim (cases_eq place i) [
    | inl at ↦ inr (subst (λ (k : ℕ). slice_index new k ≡ slice_index times k) (sym at) (ap (λ (xs : List ℕ). slice_index xs i) is ∙ get_or-set_same old i (slice_index times i) 0 inside))
    | inr ne ↦ elim (had.each place below) [
      | inl left ↦ elim (cases_eq left.at n) [
        | inl now ↦ absurd (ne (sym left.is ∙ (ap (λ (k : ℕ). slice_index listed k) now ∙ sym here)))
        | inr later ↦ let from = left.not_before in inl (record { at = left.at; not_before = omega arith; within = left.within; is = left.is })
      ]
      | inr same ↦ inr (ap (λ (xs : List ℕ). slice_index xs place) is ∙ (get_or-set_other old i place (slice_index times i) 0 ne ∙ same))
    ]
  ];
}

pub followed_all : (times listed : List ℕ) (n : ℕ) (kept : List ℕ) → length listed ≤ n → HasFollowed times listed n kept → kept ≡ times
followed_all times listed n kept all had =
    same_number_lists kept times had.as_many (λ k below. elim (had.each k (let size = had.as_many in omega arith)) [
      | inl left ↦ absurd (let from = left.not_before in let within = left.within in omega arith)
      | inr same ↦ same
    ])

-- a place that is marked is one of the list's
marked_within : (flags : List Bool) (n place : ℕ) → length flags ≡ n → is_marked flags place ≡ true → place < n
marked_within flags n place size marked = elim (cases_lt place n) [
  | inl below ↦ below
  | inr past ↦
      let none : is_marked flags place ≡ false = get_or_past flags place false (omega arith) in
      let both : true ≡ false = sym marked ∙ none in
      absurd cc
]

-- what a set of noted events lists
pub lists_moved : (set : PlaceSetValue) (kept times : List ℕ) → IsPlaceSet set → length set.flags ≡ length times → length kept ≡ length times → AreAlikeBut set.flags kept times → ListsMoved kept times set.places
lists_moved set kept times is size sizes alike = record {
  each = λ place below. alike_or_listed set kept times place is alike;
  within = All-weaker (λ place. is_marked set.flags place ≡ true) (λ place. place < length times) (λ place marked. marked_within set.flags (length times) place size marked) set.places is.within;
  few = let f = is.few in omega arith;
  as_many = sym sizes;
}
