-- The choices of a plan, one after the other.
use Rattle.std.proofs.Common.{◌≡◌, ℕ, zero, suc, ◌+◌, ◌<◌, ◌≤◌, Bool, true, false, List, [], ◌∷◌, length, map, get_or, drop, Some, eqb, eqb-true, eq-eqb, refl, sym, ap, subst, ◌∙◌, inl, inr, arith}
use Rattle.std.specs.Prelude.{All, Contains, slice_get, MatchBool}
use Rattle.std.proofs.lemmas.Bool.{cases_lt, both_ways}
use Rattle.std.proofs.lemmas.List.{drop_more, drop_all, length-drop, length-map, get_or-map}
use Rattle.std.proofs.lemmas.List.Elements.{Contains-append_right}
use Rattle.std.proofs.lemmas.Option.{slice_get-get_or, slice_get_past}
use Rattle.dm_network.specs.Net.{Net}
use Rattle.dm_rows.specs.declared.messages.Choice.{Choice}
use Rattle.dm_rows.specs.declared.messages.Decision.{Decision}
use Rattle.dm_rows.specs.Decide.{choice_of, free_choices_of, with_decisions}
use Rattle.dm_rows.specs.Relax.{is_same_choice}
use Rattle.dm_rows.specs.Rows.{RowsValue}
use Rattle.dm_rows.specs.Active.{HasNoCycle}
use Rattle.dm_rows.specs.Cost.{Costs}
use Rattle.dm_tree.specs.Plans.{AreSomeOf, DiffersFrom, CostsWith, whole_task}
use Rattle.dm_check_rows.specs.Claims.{Tells}
use Rattle.dm_check_plans.specs.Choosing.{AreTrueChoices}
use Rattle.dm_check_plans.specs.Inside.Paths.{AreFree, decides, is_next, IsLeftToChoose}
use Rattle.dm_rows.proofs.Sides.{same_choice, same_itself}
use Rattle.dm_paths.proofs.Setting.{in_front}

-- ---- some of the choices, in their order

none_chosen : (allowed : List Choice) → AreSomeOf allowed []
none_chosen [] = refl
none_chosen (a ∷ allowed) = tt

later_chosen : (allowed : List Choice) (c : Choice) (cs : List Choice) → AreSomeOf allowed (c ∷ cs) → AreSomeOf allowed cs
later_chosen [] c cs h = cc
later_chosen (a ∷ allowed) c [] h = tt
later_chosen (a ∷ allowed) c (e ∷ cs) (inl h) = inr h.1
later_chosen (a ∷ allowed) c (e ∷ cs) (inr h) = inr (later_chosen allowed c (e ∷ cs) h)

front_at : (xs : List Decision) (k : ℕ) (x : Decision) (rest : List Decision) → drop k xs ≡ x ∷ rest → slice_get xs k ≡ Some x
front_at [] zero x rest e = cc
front_at [] (suc k) x rest e = cc
front_at (y ∷ xs) zero x rest e = let same : y ≡ x = cc in ap (λ z. Some z) same
front_at (y ∷ xs) (suc k) x rest e = front_at xs k x rest e

pub some_begin : (allowed : List Choice) (decisions : List Decision) → IsLeftToChoose allowed decisions 0 0
some_begin allowed decisions = record { all = λ h. h; left = λ h. h; within = omega arith }

module _ (allowed : List Choice) (decisions : List Decision) (i next : ℕ) (c : Choice) (lt : i < length allowed) (was : IsLeftToChoose allowed decisions i next)
    (is : c ≡ get_or allowed i c) where
  here : drop i allowed ≡ c ∷ drop (i + 1) allowed
  here = drop_more allowed i c lt ∙ ap (λ x. x ∷ drop (i + 1) allowed) (sym is)

  -- the next decision decides this choice
  pub some_taken : is_next decisions next c ≡ true → IsLeftToChoose allowed decisions (i + 1) (next + 1)
  some_taken h = elim (cases_lt next (length decisions)) [
    | inr past ↦ absurd (both_ways (is_next decisions next c) (ap (λ o. decides o c) (slice_get_past decisions next past)) h)
    | inl below ↦ at_place (default_of decisions next below) below
  ]
    where
      default_of : (ds : List Decision) (k : ℕ) → k < length ds → Decision
      default_of [] k lt = absurd (omega arith)
      default_of (d ∷ ds) k lt = d

      at_place : (d : Decision) → next < length decisions → IsLeftToChoose allowed decisions (i + 1) (next + 1)
      at_place d below =
          let e : Decision = get_or decisions next d in
          let same : choice_of e ≡ c = same_choice (choice_of e) c (sym (ap (λ o. decides o c) (slice_get-get_or decisions next d below)) ∙ h) in
          let there : drop next decisions ≡ e ∷ drop (next + 1) decisions = drop_more decisions next d below in
          let chosen : map choice_of (drop next decisions) ≡ c ∷ map choice_of (drop (next + 1) decisions) =
          ap (map choice_of) there ∙ ap (λ x. x ∷ map choice_of (drop (next + 1) decisions)) same in
          record {
            all = λ s. was.all (subst (λ (cs : List Choice). AreSomeOf (drop i allowed) cs) (sym chosen)
                (subst (λ (those : List Choice). AreSomeOf those (c ∷ map choice_of (drop (next + 1) decisions))) (sym here) (inl (refl, s))));
            left = λ s. first (drop (i + 1) allowed) (map choice_of (drop (next + 1) decisions))
                (subst (λ (those : List Choice). AreSomeOf those (c ∷ map choice_of (drop (next + 1) decisions))) here
                (subst (λ (cs : List Choice). AreSomeOf (drop i allowed) cs) chosen (was.left s)));
            within = omega arith;
          }
        where
          first : (al cs : List Choice) → AreSomeOf (c ∷ al) (c ∷ cs) → AreSomeOf al cs
          first al cs (inl s) = s.1
          first al cs (inr s) = later_chosen al c cs s

  -- it decides another one, or none is left
  pub some_passed : is_next decisions next c ≡ false → IsLeftToChoose allowed decisions (i + 1) next
  some_passed h = record {
    all = λ s. was.all (subst (λ (those : List Choice). AreSomeOf those (map choice_of (drop next decisions))) (sym here) (more (drop (i + 1) allowed) (map choice_of (drop next decisions)) s));
    left = λ s. fewer (drop next decisions) refl (subst (λ (those : List Choice). AreSomeOf those (map choice_of (drop next decisions))) here (was.left s));
    within = was.within;
  }
    where
      more : (al cs : List Choice) → AreSomeOf al cs → AreSomeOf (c ∷ al) cs
      more al [] s = tt
      more al (d ∷ cs) s = inr s

      fewer : (ds : List Decision) → ds ≡ drop next decisions → AreSomeOf (c ∷ drop (i + 1) allowed) (map choice_of ds) → AreSomeOf (drop (i + 1) allowed) (map choice_of ds)
      fewer [] e s = none_chosen (drop (i + 1) allowed)
      fewer (d ∷ ds) e (inr s) = s
      fewer (d ∷ ds) e (inl s) = absurd (both_ways (is_next decisions next c) h (ap (λ o. decides o c) (front_at decisions next d ds (sym e)) ∙ ap (λ x. is_same_choice x c) (sym s.0) ∙ same_itself c))

  pub some_step : (new : ℕ) → MatchBool (is_next decisions next c) (new ≡ next + 1) (new ≡ next) → IsLeftToChoose allowed decisions (i + 1) new
  some_step new h = by_cases (is_next decisions next c) refl h
    where
      by_cases : (b : Bool) → is_next decisions next c ≡ b → MatchBool b (new ≡ next + 1) (new ≡ next) → IsLeftToChoose allowed decisions (i + 1) new
      by_cases true e m = subst (λ k. IsLeftToChoose allowed decisions (i + 1) k) (sym m) (some_taken e)
      by_cases false e m = subst (λ k. IsLeftToChoose allowed decisions (i + 1) k) (sym m) (some_passed e)

-- no choice allowed is left
pub some_end : (allowed : List Choice) (decisions : List Decision) (i next : ℕ) → length allowed ≤ i → next ≡ length decisions → IsLeftToChoose allowed decisions i next →
    AreSomeOf allowed (map choice_of decisions)
some_end allowed decisions i next over is was =
    was.all (subst (λ (ds : List Decision). AreSomeOf (drop i allowed) (map choice_of ds)) (sym (drop_all next decisions (omega arith))) (none_chosen (drop i allowed)))

pub some_left : (allowed : List Choice) (decisions : List Decision) (i next : ℕ) → length allowed ≤ i → (next ≡ length decisions → ⊥) → IsLeftToChoose allowed decisions i next →
    AreSomeOf allowed (map choice_of decisions) → ⊥
some_left allowed decisions i next over more was h =
    let none : map choice_of (drop next decisions) ≡ [] =
    subst (λ (those : List Choice). AreSomeOf those (map choice_of (drop next decisions))) (drop_all i allowed over) (was.left h) in
    let many : length (drop next decisions) ≡ 0 = empty (drop next decisions) none in
    let within = was.within in
    more (at_end decisions next within many)
  where
    empty : (ds : List Decision) → map choice_of ds ≡ [] → length ds ≡ 0
    empty [] e = refl
    empty (d ∷ ds) e = cc

    at_end : (ds : List Decision) (k : ℕ) → k ≤ length ds → length (drop k ds) ≡ 0 → k ≡ length ds
    at_end ds k within none = let e = length-drop k ds in omega (arith, e, none, within)

pub some_told : (allowed : List Choice) (decisions : List Decision) (i next : ℕ) (b : Bool) → b ≡ eqb next (length decisions) → length allowed ≤ i →
    IsLeftToChoose allowed decisions i next → Tells (AreSomeOf allowed (map choice_of decisions)) b
some_told allowed decisions i next true e over was = some_end allowed decisions i next over (eqb-true next (length decisions) (sym e)) was
some_told allowed decisions i next false e over was = some_left allowed decisions i next over (λ same. both_ways (eqb next (length decisions)) (sym e) (eq-eqb next (length decisions) same)) was

-- all of some of the choices are among them
chosen_allowed : (allowed cs : List Choice) → AreSomeOf allowed cs → (c : Choice) → Contains cs c → Contains allowed c
chosen_allowed [] cs h c among = let n : length cs ≡ 0 = ap length h in absurd (omega (arith, among.1, n))
chosen_allowed (a ∷ allowed) [] h c among = absurd (omega (arith, among.1))
chosen_allowed (a ∷ allowed) (d ∷ cs) (inr h) c among = Contains-append_right (a ∷ []) allowed c (chosen_allowed allowed (d ∷ cs) h c among)
chosen_allowed (a ∷ allowed) (d ∷ cs) (inl h) c among =
    elim (in_front d c cs among) [
      | inl is ↦ (0, omega arith, h.0 ∙ is)
      | inr later ↦ Contains-append_right (a ∷ []) allowed c (chosen_allowed allowed cs h.1 c later)
    ]

pub chosen_are_free : (net : Net) (rows : RowsValue) (decisions : List Decision) → AreSomeOf (free_choices_of net rows) (map choice_of decisions) → AreFree net rows decisions
chosen_are_free net rows decisions h = λ k d lt. chosen_allowed (free_choices_of net rows) (map choice_of decisions) h (choice_of (get_or decisions k d)) (in_map decisions k d lt)
  where
    in_map : (ds : List Decision) (k : ℕ) (d : Decision) → k < length ds → Contains (map choice_of ds) (choice_of (get_or ds k d))
    in_map ds k d lt = let e = length-map ds choice_of in (k, omega (arith, e, lt), get_or-map choice_of ds k d (choice_of (get_or ds k d)) lt)

-- ---- the rows with decisions set

pub costs_told : (net : Net) (rows : RowsValue) (penalty budget : ℕ) (decisions : List Decision) (cost : ℕ) (set : RowsValue) → set ≡ with_decisions net rows decisions →
    HasNoCycle net set → (b : Bool) → Tells (Costs net set penalty cost) b → Tells (CostsWith (whole_task net rows penalty budget) decisions cost) b
costs_told net rows penalty budget decisions cost set is none true costs =
    record { no_cycle = subst (λ (r : RowsValue). HasNoCycle net r) is none; cost = subst (λ (r : RowsValue). Costs net r penalty cost) is costs }
costs_told net rows penalty budget decisions cost set is none false other = λ w. other (subst (λ (r : RowsValue). Costs net r penalty cost) (sym is) w.cost)

pub choices_told : (net : Net) (rows : RowsValue) (penalty budget : ℕ) (choices : List Decision) (cost : ℕ) → AreSomeOf (free_choices_of net rows) (map choice_of choices) →
    All (DiffersFrom (whole_task net rows penalty budget)) choices → (b : Bool) → Tells (CostsWith (whole_task net rows penalty budget) choices cost) b →
    Tells (AreTrueChoices (whole_task net rows penalty budget) choices cost) b
choices_told net rows penalty budget choices cost some differ true costs = record { in_order = some; differ = differ; costs = costs }
choices_told net rows penalty budget choices cost some differ false other = λ t. other t.costs
