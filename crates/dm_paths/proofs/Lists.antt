-- Choice lists with one decision more or one less, and how long they can be.
use Rattle.std.proofs.Common.{◌≡◌, ℕ, zero, suc, List, [], ◌∷◌, ◌++◌, length, map, Some, refl, sym, ap, ◌∙◌, inl, inr, arith}
use Rattle.std.specs.Prelude.{Contains, slice_get}
use Rattle.std.proofs.lemmas.Bool.{false_from_ne_true}
use Rattle.std.proofs.lemmas.List.Elements.{All-contains, Contains-append_left, Contains-append_right, Contains-push_cases}
use Rattle.std.proofs.lemmas.Option.{slice_get-get_or, slice_get_within}
use Rattle.dm_network.specs.Net.{Net}
use Rattle.dm_rows.specs.declared.messages.Decision.{Decision}
use Rattle.dm_rows.specs.Rows.{RowsValue}
use Rattle.dm_rows.specs.Decide.{IsChoiceList, choice_of, free_choices_of}
use Rattle.dm_rows.specs.Relax.{is_same_choice, is_decided}
use Rattle.dm_rows.proofs.Sides.{same_choice}
use Rattle.dm_paths.proofs.Setting.{in_front}
use Rattle.dm_paths.proofs.Agreeing.{passes_one}
use Rattle.dm_paths.proofs.Apart.{Apart}
use Rattle.dm_paths.specs.Decisions.{AddsDecision}

pub mapped : {X Y : Type 0} (f : X → Y) (xs : List X) (y : Y) → Contains (map f xs) y → (x : X) × Contains xs x × (f x ≡ y)
mapped f [] y h = absurd (omega (arith, h.1))
mapped f (x ∷ xs) y h =
    elim (in_front (f x) y (map f xs) h) [
      | inl here ↦ (x, (0, omega arith, refl), here)
      | inr later ↦ let r = mapped f xs y later in (r.0, Contains-append_right (x ∷ []) xs r.0 r.1, r.2)
    ]

-- what stands at a place of a list, by a look-up
at_place : (ds : List Decision) (d : Decision) → (h : Contains ds d) → slice_get ds h.0 ≡ Some d
at_place ds d h = slice_get-get_or ds h.0 d h.1 ∙ ap (λ x. Some x) h.2

-- the path with one decision more
module _ (net : Net) (rows : RowsValue) (path : List Decision) (d : Decision) (list : IsChoiceList net rows (path ++ d ∷ [])) where
  last_is : Contains (d ∷ []) d
  last_is = (0, omega arith, refl)

  pub decides_free : Contains (free_choices_of net rows) (choice_of d)
  decides_free =
      All-contains (λ x. Contains (free_choices_of net rows) (choice_of x)) (path ++ d ∷ []) d list.free (Contains-append_right path (d ∷ []) d last_is)

  push_once : (e : Decision) → Contains path e → choice_of e ≡ choice_of d → ⊥
  push_once e h same =
      let early : slice_get (path ++ d ∷ []) h.0 ≡ Some e = before path h.0 e (at_place path e h) in
      let late : slice_get (path ++ d ∷ []) (length path) ≡ Some d = behind path in
      let place : h.0 ≡ length path = list.once h.0 (length path) e d early late same in
      let lt = h.1 in
      omega (arith, place, lt)
    where
      before : (xs : List Decision) (k : ℕ) (x : Decision) → slice_get xs k ≡ Some x → slice_get (xs ++ d ∷ []) k ≡ Some x
      before [] k x at = absurd (let n = slice_get_within {A = Decision} [] k x at in omega (arith, n))
      before (y ∷ xs) zero x at = at
      before (y ∷ xs) (suc k) x at = before xs k x at

      behind : (xs : List Decision) → slice_get (xs ++ d ∷ []) (length xs) ≡ Some d
      behind [] = refl
      behind (y ∷ xs) = behind xs

  pub pushed : AddsDecision path (path ++ d ∷ []) d
  pushed = record {
    kept = λ e h. Contains-append_left path (d ∷ []) e h;
    added = Contains-append_right path (d ∷ []) d last_is;
    only = λ e h. elim (Contains-push_cases path d e h) [ inl there ↦ inl there | inr is ↦ inr (sym is) ];
    new = false_from_ne_true (is_decided path (choice_of d))
        (λ h.
        let one = passes_one (λ e. is_same_choice (choice_of e) (choice_of d)) path h in
        push_once one.0 one.1 (same_choice (choice_of one.0) (choice_of d) one.2));
  }

pub apart_from_once : (ds : List Decision) → ((m n : ℕ) (d e : Decision) → slice_get ds m ≡ Some d → slice_get ds n ≡ Some e → choice_of d ≡ choice_of e → m ≡ n) →
    Apart (map choice_of ds)
apart_from_once [] once = tt
apart_from_once (x ∷ xs) once = (
  λ h.
      let one = mapped choice_of xs (choice_of x) h in
      let at = at_place xs one.0 one.1 in
      let place : 0 ≡ suc (one.1.0) = once 0 (suc (one.1.0)) x one.0 refl at (sym one.2) in
      omega (arith, place),
  apart_from_once xs (λ m n d e f g same. let place : suc m ≡ suc n = once (suc m) (suc n) d e f g same in omega (arith, place)),
)
