-- Choice lists with one decision more or one less, and how long they can be.
use Rattle.std.proofs.Common.{◌≡◌, ℕ, zero, suc, ◌+◌, ◌<◌, ◌≤◌, Bool, true, false, not, List, [], ◌∷◌, ◌++◌, length, map, get_or, take, drop, Some, refl, sym, ap, subst, ◌∙◌, inl, inr, arith}
use Rattle.std.specs.Prelude.{Contains, filter, slice_get}
use Rattle.std.specs.List.{IsDistinct, range_with_len, list_any}
use Rattle.std.specs.Cmp.{IsEquivalence}
use Rattle.std.proofs.lemmas.Bool.{cases_Bool, cond-true, cond-false, cond_both, not_from_true, not_from_false, both_ways, false_from_ne_true}
use Rattle.std.proofs.lemmas.List.{get_or-map, length-map, length-append}
use Rattle.std.proofs.lemmas.List.FromFn.{length-range_with_len}
use Rattle.std.proofs.lemmas.List.Filters.{length-filter_both}
use Rattle.std.proofs.lemmas.List.Elements.{All-contains, Contains-append_right}
use Rattle.std.proofs.lemmas.Map.Keys.{IsDistinct-from_apart}
use Rattle.std.proofs.lemmas.Map.Made.{length-le_from_is_member}
use Rattle.std.proofs.lemmas.Option.{slice_get-get_or}
use Rattle.dm_base.specs.declared.ids.ActId.{ActId}
use Rattle.dm_network.specs.Net.{Net}
use Rattle.dm_rows.specs.declared.messages.Decision.{Decision}
use Rattle.dm_rows.specs.declared.messages.Decision.TheVariants.{Keep}
use Rattle.dm_rows.specs.declared.messages.Choice.{Choice}
use Rattle.dm_rows.specs.Rows.{RowsValue}
use Rattle.dm_rows.specs.Decide.{IsChoiceList, choice_of, free_choices_of, free_changes_of, free_pairs_of, is_free_change, is_free_pair, change_choice, pair_choice}
use Rattle.dm_rows.specs.Relax.{is_same_choice, is_decided}
use Rattle.dm_rows.proofs.Sides.{same_choice, same_itself}
use Rattle.dm_paths.proofs.Setting.{in_front, one_decides}
use Rattle.dm_paths.proofs.Agreeing.{passes_one}
use Rattle.dm_paths.proofs.Apart.{Apart, choice_list_from}
use Rattle.dm_evaluate.specs.Evaluator.{path_without}
use Rattle.dm_paths.specs.Decisions.{AddsDecision}
use Rattle.dm_paths.proofs.Paths.{one_passes, alike}
use Rattle.dm_paths.proofs.Lists.{apart_from_once, mapped}

-- the test of choices is an equality
same_laws : IsEquivalence is_same_choice
same_laws = record {
  refl = same_itself;
  symm = λ x y. alike (is_same_choice x y) (is_same_choice y x)
      (λ h. let e = same_choice x y h in subst (λ z. is_same_choice z x ≡ true) e (same_itself x))
      (λ h. let e = same_choice y x h in subst (λ z. is_same_choice z y ≡ true) e (same_itself y));
  congr = λ x y z h. ap (λ u. is_same_choice u z) (same_choice x y h);
}

some_decision : Decision
some_decision = let id : ActId = record { 0 = 0 } in Keep id

is_member : (cs : List Choice) (c : Choice) → Contains cs c → list_any (is_same_choice c) cs ≡ true
is_member cs c h = one_passes (is_same_choice c) cs c h (same_itself c)

member_is : (cs : List Choice) (c : Choice) → list_any (is_same_choice c) cs ≡ true → Contains cs c
member_is cs c h =
    let one = passes_one (is_same_choice c) cs h in
    subst (Contains cs) (sym (same_choice c one.0 one.2)) one.1

filter_is_shorter : {X : Type 0} (p : X → Bool) (xs : List X) → length (filter p xs) ≤ length xs
filter_is_shorter p xs = let e = length-filter_both p (λ x. not (p x)) (λ x. refl) xs in omega (arith, e)

module _ (net : Net) (rows : RowsValue) (ds : List Decision) (list : IsChoiceList net rows ds) where
  choices_differ : IsDistinct is_same_choice (map choice_of ds)
  choices_differ =
      IsDistinct-from_apart is_same_choice (map choice_of ds)
      (λ i j c lt below.
      let many : length (map choice_of ds) ≡ length ds = length-map ds choice_of in
      let low : j < length ds = omega (arith, below, many) in
      let early : i < length ds = omega arith in
      let x : Decision = get_or ds i some_decision in
      let y : Decision = get_or ds j some_decision in
      let first : get_or (map choice_of ds) i c ≡ choice_of x = get_or-map choice_of ds i some_decision c early in
      let second : get_or (map choice_of ds) j c ≡ choice_of y = get_or-map choice_of ds j some_decision c low in
      false_from_ne_true (is_same_choice (get_or (map choice_of ds) i c) (get_or (map choice_of ds) j c))
      (λ h.
      let same : choice_of x ≡ choice_of y = sym first ∙ same_choice (get_or (map choice_of ds) i c) (get_or (map choice_of ds) j c) h ∙ second in
      let place : i ≡ j = list.once i j x y (slice_get-get_or ds i some_decision early) (slice_get-get_or ds j some_decision low) same in
      omega (arith, place, lt)))

  free_are_few : length (free_choices_of net rows) ≤ length net.activities + length net.pairs
  free_are_few =
      let acts : List ℕ = range_with_len 0 (length net.activities) in
      let prs : List ℕ = range_with_len 0 (length net.pairs) in
      let a : length (free_choices_of net rows) ≡ length (free_changes_of net rows) + length (free_pairs_of net rows) =
      length-append (free_changes_of net rows) (free_pairs_of net rows) in
      let b : length (free_changes_of net rows) ≡ length (filter (is_free_change net rows) acts) = length-map (filter (is_free_change net rows) acts) (change_choice net) in
      let c : length (free_pairs_of net rows) ≡ length (filter (is_free_pair net rows) prs) = length-map (filter (is_free_pair net rows) prs) (pair_choice net) in
      let e = filter_is_shorter (is_free_change net rows) acts in
      let f = filter_is_shorter (is_free_pair net rows) prs in
      let g : length acts ≡ length net.activities = length-range_with_len 0 (length net.activities) in
      let h : length prs ≡ length net.pairs = length-range_with_len 0 (length net.pairs) in
      omega (arith, a, b, c, e, f, g, h)

  -- no choice list is longer than there are changes and pairs
  pub list_is_short : length ds ≤ length net.activities + length net.pairs
  list_is_short =
      let le = length-le_from_is_member same_laws (map choice_of ds) (free_choices_of net rows) choices_differ
      (λ c h.
      let one = mapped choice_of ds c (member_is (map choice_of ds) c h) in
      is_member (free_choices_of net rows) c
      (subst (Contains (free_choices_of net rows)) one.2 (All-contains (λ x. Contains (free_choices_of net rows) (choice_of x)) ds one.0 list.free one.1))) in
      let many : length (map choice_of ds) ≡ length ds = length-map ds choice_of in
      let few = free_are_few in
      omega (arith, le, many, few)

-- a list without what stands at one place
all_pass : {X : Type 0} (p : X → Bool) (xs : List X) → ((x : X) → Contains xs x → p x ≡ true) → filter p xs ≡ xs
all_pass p [] h = refl
all_pass p (x ∷ xs) h =
    cond-true (p x) (x ∷ filter p xs) (filter p xs) (h x (0, omega arith, refl))
    ∙ ap (λ ys. x ∷ ys) (all_pass p xs (λ y c. h y (Contains-append_right (x ∷ []) xs y c)))

pub removed : {X : Type 0} (p : X → Bool) (xs : List X) (k : ℕ) (d : X) → k < length xs → p (get_or xs k d) ≡ false →
    ((m : ℕ) (y : X) → slice_get xs m ≡ Some y → p y ≡ false → m ≡ k) → take k xs ++ drop (suc k) xs ≡ filter p xs
removed p [] k d lt fails one = absurd (omega arith)
removed p (x ∷ xs) zero d lt fails one =
    sym (cond-false (p x) (x ∷ filter p xs) (filter p xs) fails
    ∙ all_pass p xs (λ y c.
    elim (cases_Bool (p y)) [
      | inl passes ↦ passes
      | inr no_pass ↦
          let at : slice_get xs c.0 ≡ Some y = slice_get-get_or xs c.0 y c.1 ∙ ap (λ z. Some z) c.2 in
          let place : suc c.0 ≡ 0 = one (suc c.0) y at no_pass in
          absurd (omega (arith, place))
    ]))
removed p (x ∷ xs) (suc k) d lt fails one =
    let first : p x ≡ true =
    elim (cases_Bool (p x)) [
      | inl passes ↦ passes
      | inr no_pass ↦ let place : 0 ≡ suc k = one 0 x refl no_pass in absurd (omega (arith, place))
    ] in
    let rest : take k xs ++ drop (suc k) xs ≡ filter p xs =
    removed p xs k d (omega arith) fails (λ m y at no_pass. let place : suc m ≡ suc k = one (suc m) y at no_pass in omega (arith, place)) in
    ap (λ ys. x ∷ ys) rest ∙ sym (cond-true (p x) (x ∷ filter p xs) (filter p xs) first)

filter_has : {X : Type 0} (p : X → Bool) (xs : List X) (x : X) → Contains xs x → p x ≡ true → Contains (filter p xs) x
filter_has p [] x h passes = absurd (omega (arith, h.1))
filter_has p (y ∷ xs) x h passes =
    elim (in_front y x xs h) [
      | inl here ↦
          let t : p y ≡ true = ap p here ∙ passes in
          let there : Contains (y ∷ filter p xs) x = (0, omega arith, here) in
          subst (λ ys. Contains ys x) (sym (cond-true (p y) (y ∷ filter p xs) (filter p xs) t)) there
      | inr later ↦
          let rest = filter_has p xs x later passes in
          cond_both (p y) (y ∷ filter p xs) (filter p xs) (λ ys. Contains ys x) (λ t. Contains-append_right (y ∷ []) (filter p xs) x rest) (λ f. rest)
    ]

filter_is_in : {X : Type 0} (p : X → Bool) (xs : List X) (x : X) → Contains (filter p xs) x → Contains xs x × (p x ≡ true)
filter_is_in p [] x h = absurd (omega (arith, h.1))
filter_is_in p (y ∷ xs) x h =
    let deeper : Contains (filter p xs) x → Contains (y ∷ xs) x × (p x ≡ true) =
    λ c. let r = filter_is_in p xs x c in (Contains-append_right (y ∷ []) xs x r.0, r.1) in
    elim (cases_Bool (p y)) [
      | inl t ↦ elim (in_front y x (filter p xs) (subst (λ ys. Contains ys x) (cond-true (p y) (y ∷ filter p xs) (filter p xs) t) h)) [
        | inl here ↦ ((0, omega arith, here), ap p (sym here) ∙ t)
        | inr later ↦ deeper later
      ]
      | inr f ↦ deeper (subst (λ ys. Contains ys x) (cond-false (p y) (y ∷ filter p xs) (filter p xs) f) h)
    ]

apart_filter : (p : Decision → Bool) (ds : List Decision) → Apart (map choice_of ds) → Apart (map choice_of (filter p ds))
apart_filter p [] a = tt
apart_filter p (x ∷ xs) a =
    let rest = apart_filter p xs a.1 in
    cond_both (p x) (x ∷ filter p xs) (filter p xs) (λ ys. Apart (map choice_of ys))
    (λ t. (
      λ h. let one = mapped choice_of (filter p xs) (choice_of x) h in
          a.0 (subst (Contains (map choice_of xs)) one.2 (in_map xs one.0 (filter_is_in p xs one.0 one.1).0)),
      rest,
    ))
    (λ f. rest)
  where
    in_map : (ys : List Decision) (y : Decision) → Contains ys y → Contains (map choice_of ys) (choice_of y)
    in_map [] y h = absurd (omega (arith, h.1))
    in_map (z ∷ ys) y h =
        elim (in_front z y ys h) [
          | inl here ↦ (0, omega arith, ap choice_of here)
          | inr later ↦ Contains-append_right (choice_of z ∷ []) (map choice_of ys) (choice_of y) (in_map ys y later)
        ]

-- the path without the decision of a choice
module _ (net : Net) (rows : RowsValue) (path : List Decision) (list : IsChoiceList net rows path) (d : Decision) (among : Contains path d) (c : Choice)
    (is : is_same_choice (choice_of d) c ≡ true) where
  pub without_list : IsChoiceList net rows (path_without c path)
  without_list =
      choice_list_from net rows (path_without c path)
      (apart_filter (λ e. not (is_same_choice (choice_of e) c)) path (apart_from_once path list.once))
      (λ e h. All-contains (λ x. Contains (free_choices_of net rows) (choice_of x)) path e list.free (filter_is_in (λ x. not (is_same_choice (choice_of x) c)) path e h).0)

  pub without_adds : AddsDecision (path_without c path) path d
  without_adds = record {
    kept = λ e h. (filter_is_in (λ x. not (is_same_choice (choice_of x) c)) path e h).0;
    added = among;
    only = λ e h. elim (cases_Bool (is_same_choice (choice_of e) c)) [
      | inl same ↦
          let one : choice_of e ≡ choice_of d = same_choice (choice_of e) c same ∙ sym (same_choice (choice_of d) c is) in
          inr (one_decides net rows path list d e among h one)
      | inr other ↦ inl (filter_has (λ x. not (is_same_choice (choice_of x) c)) path e h (not_from_false (is_same_choice (choice_of e) c) other))
    ];
    new = false_from_ne_true (is_decided (path_without c path) (choice_of d))
        (λ h.
        let one = passes_one (λ e. is_same_choice (choice_of e) (choice_of d)) (path_without c path) h in
        let passes = (filter_is_in (λ x. not (is_same_choice (choice_of x) c)) path one.0 one.1).1 in
        let same : choice_of one.0 ≡ c = same_choice (choice_of one.0) (choice_of d) one.2 ∙ same_choice (choice_of d) c is in
        let e : is_same_choice (choice_of one.0) c ≡ true = ap (λ x. is_same_choice x c) same ∙ same_itself c in
        both_ways (not (is_same_choice (choice_of one.0) c)) (not_from_true (is_same_choice (choice_of one.0) c) e) passes);
  }

  -- what is left where the decision is taken out of its place
  pub without_at : (k : ℕ) → k < length path → get_or path k d ≡ d → take k path ++ drop (suc k) path ≡ path_without c path
  without_at k lt here =
      removed (λ e. not (is_same_choice (choice_of e) c)) path k d lt
      (ap (λ e. not (is_same_choice (choice_of e) c)) here ∙ not_from_true (is_same_choice (choice_of d) c) is)
      (λ m e at fails.
      let same : is_same_choice (choice_of e) c ≡ true = not_false (is_same_choice (choice_of e) c) fails in
      let one : choice_of e ≡ choice_of d = same_choice (choice_of e) c same ∙ sym (same_choice (choice_of d) c is) in
      list.once m k e d at (slice_get-get_or path k d lt ∙ ap (λ x. Some x) here) one)
    where
      not_false : (b : Bool) → not b ≡ false → b ≡ true
      not_false true h = refl
      not_false false h = absurd cc
