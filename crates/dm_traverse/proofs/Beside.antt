-- A task that leaves to be made what its base does not decide.
use Rattle.std.proofs.Common.{◌≡◌, ℕ, Bool, true, List, [], ◌∷◌, ◌++◌, map, refl, sym, ap, subst, ◌∙◌, inl, inr, arith}
use Rattle.std.specs.Prelude.{filter, Contains, All, IsTrue, not}
use Rattle.std.proofs.lemmas.Bool.{cases_Bool, cond-true, cond-false, not-true, not_from_false, both_ways}
use Rattle.std.proofs.lemmas.List.Elements.{All-contains, All-filter, All-contains_itself, Contains-append_left, Contains-append_right, filter_passes}
use Rattle.dm_network.specs.Net.{Net}
use Rattle.dm_network.specs.Start.{IsNetwork}
use Rattle.dm_rows.specs.declared.messages.Choice.{Choice}
use Rattle.dm_rows.specs.declared.messages.Decision.{Decision}
use Rattle.dm_rows.specs.Rows.{RowsValue, IsSized}
use Rattle.dm_rows.specs.Resolve.{flip_named}
use Rattle.dm_rows.specs.Decide.{free_choices_of, choice_of, IsChoiceList}
use Rattle.dm_rows.specs.Relax.{is_decided, is_same_choice}
use Rattle.dm_rows.proofs.Sides.{same_choice}
use Rattle.dm_tree.specs.Plans.{AreSomeOf, is_set, whole_task}
use Rattle.dm_paths.specs.Decisions.{differs_from}
use Rattle.dm_paths.proofs.Agreeing.{passes_one}
use Rattle.dm_paths.proofs.Apart.{Apart, apart_once, free_are_apart}
use Rattle.dm_paths.proofs.Lists.{mapped}
use Rattle.dm_paths.proofs.Setting.{in_front, one_decides}
use Rattle.dm_relax.proofs.BoundLaw.{all_from}
use Rattle.dm_relax.proofs.Completion.{is_decided_by, completion_is_list, completion_holds}
use Rattle.dm_relax.proofs.Differing.{was_among}
use Rattle.dm_relax.specs.Complete.{completion_of, differences_from}
use Rattle.dm_task.specs.Posed.{choices_beside, task_beside, IsPosed}
use Rattle.dm_traverse.specs.Laws.{IsTask}

-- what is kept of a list was there, and what passes is kept
kept_was_there : (p : Choice → Bool) (xs : List Choice) (x : Choice) → Contains (filter p xs) x → Contains xs x
kept_was_there p xs x h = All-contains (Contains xs) (filter p xs) x (All-filter p (Contains xs) xs (All-contains_itself xs)) h

kept_where_passes : (p : Choice → Bool) (xs : List Choice) (x : Choice) → Contains xs x → p x ≡ true → Contains (filter p xs) x
kept_where_passes p [] x h is = absurd (omega (arith, h.1))
kept_where_passes p (y ∷ xs) x h is =
    let rest : List Choice = filter p xs in
    elim (in_front y x xs h) [
      | inl same ↦
          subst (λ ys. Contains ys x) (sym (cond-true (p y) (y ∷ rest) rest (ap p same ∙ is)))
          (let front : Contains (y ∷ rest) x = (0, omega arith, same) in front)
      | inr behind ↦
          let later : Contains rest x = kept_where_passes p xs x behind is in
          elim (cases_Bool (p y)) [
            | inl t ↦ subst (λ ys. Contains ys x) (sym (cond-true (p y) (y ∷ rest) rest t)) (Contains-append_right (y ∷ []) rest x later)
            | inr f ↦ subst (λ ys. Contains ys x) (sym (cond-false (p y) (y ∷ rest) rest f)) later
          ]
    ]

kept_are_apart : (p : Choice → Bool) (xs : List Choice) → Apart xs → Apart (filter p xs)
kept_are_apart p [] apart = tt
kept_are_apart p (x ∷ xs) apart =
    let rest : List Choice = filter p xs in
    let later : Apart rest = kept_are_apart p xs apart.1 in
    elim (cases_Bool (p x)) [
      | inl t ↦ subst Apart (sym (cond-true (p x) (x ∷ rest) rest t)) (λ h. apart.0 (kept_was_there p xs x h), later)
      | inr f ↦ subst Apart (sym (cond-false (p x) (x ∷ rest) rest f)) later
    ]

all_kept : (p : Choice → Bool) (xs : List Choice) → ((x : Choice) → p x ≡ true) → filter p xs ≡ xs
all_kept p [] passes = refl
all_kept p (x ∷ xs) passes =
    cond-true (p x) (x ∷ filter p xs) (filter p xs) (passes x) ∙ ap (λ ys. x ∷ ys) (all_kept p xs passes)

pub some_of_none : (xs : List Choice) → AreSomeOf xs []
some_of_none [] = refl
some_of_none (x ∷ xs) = tt

some_later : (x : Choice) (xs chosen : List Choice) → AreSomeOf xs chosen → AreSomeOf (x ∷ xs) chosen
some_later x xs [] h = tt
some_later x xs (c ∷ chosen) h = inr h

-- some of a list that all pass are some of what is kept
some_kept : (p : Choice → Bool) (xs chosen : List Choice) → AreSomeOf xs chosen → ((c : Choice) → Contains chosen c → p c ≡ true) →
    AreSomeOf (filter p xs) chosen
some_kept p [] chosen some passes = some
some_kept p (x ∷ xs) [] some passes = some_of_none (filter p (x ∷ xs))
some_kept p (x ∷ xs) (c ∷ chosen) (inl both) passes =
    let rest : List Choice = filter p xs in
    let here : p x ≡ true = ap p both.0 ∙ passes c (0, omega arith, refl) in
    let later : AreSomeOf rest chosen = some_kept p xs chosen both.1 (λ d h. passes d (Contains-append_right (c ∷ []) chosen d h)) in
    subst (λ ys. AreSomeOf ys (c ∷ chosen)) (sym (cond-true (p x) (x ∷ rest) rest here)) (inl (both.0, later))
some_kept p (x ∷ xs) (c ∷ chosen) (inr some) passes =
    let rest : List Choice = filter p xs in
    let later : AreSomeOf rest (c ∷ chosen) = some_kept p xs (c ∷ chosen) some passes in
    elim (cases_Bool (p x)) [
      | inl t ↦ subst (λ ys. AreSomeOf ys (c ∷ chosen)) (sym (cond-true (p x) (x ∷ rest) rest t)) (some_later x rest (c ∷ chosen) later)
      | inr f ↦ subst (λ ys. AreSomeOf ys (c ∷ chosen)) (sym (cond-false (p x) (x ∷ rest) rest f)) later
    ]

-- beside no base every free choice may be made
nothing_beside : (net : Net) (rows : RowsValue) → choices_beside net rows [] ≡ free_choices_of net rows
nothing_beside net rows = all_kept (λ c. not (is_decided [] c)) (free_choices_of net rows) (λ c. refl)

pub whole_beside : (net : Net) (rows : RowsValue) (penalty budget : ℕ) → task_beside net rows penalty [] budget ≡ whole_task net rows penalty budget
whole_beside net rows penalty budget =
    ap (λ (cs : List Choice). record { net = net; rows = rows; penalty = penalty; base = []; allowed = cs; budget = budget }) (nothing_beside net rows)

-- nothing is decided, and so nothing otherwise than the rows have it
pub nothing_posed : (net : Net) (rows : RowsValue) → IsChoiceList net rows []
nothing_posed net rows = record { free = λ k d lt. absurd (omega arith); once = λ m n d e at. cc }

-- a base of free choices as the rows have them makes a task, whatever its penalty and budget
pub base_makes_task : (net : Net) (rows : RowsValue) (penalty : ℕ) (base : List Decision) (budget : ℕ) → IsNetwork net → IsSized net rows →
    IsChoiceList net rows base → All (λ d. IsTrue (is_set rows (flip_named net d))) base → IsTask (task_beside net rows penalty base budget)
base_makes_task net rows penalty base budget network sized decides as_the_rows =
    let open_there : Choice → Bool = λ c. not (is_decided base c) in
    let free : List Choice = free_choices_of net rows in
    record {
      network = network;
      sized = sized;
      free = all_from (Contains free) (filter open_there free) (λ c h. kept_was_there open_there free c h);
      once = apart_once (filter open_there free) (kept_are_apart open_there free (free_are_apart net network rows));
      base = decides;
      as_the_rows = as_the_rows;
      apart = λ d h kept.
          both_ways (is_decided base (choice_of d))
          (not-true (is_decided base (choice_of d)) (All-contains (λ c. open_there c ≡ true) (filter open_there free) (choice_of d) (filter_passes open_there free) kept))
          (is_decided_by base d (choice_of d) h refl);
      covers = λ c h.
          elim (cases_Bool (is_decided base c)) [
            | inl is ↦ inl is
            | inr isnt ↦ inr (kept_where_passes open_there free c h (not_from_false (is_decided base c) isnt))
          ];
    }

pub beside_is_task : (net : Net) (rows : RowsValue) (penalty : ℕ) (base : List Decision) (budget : ℕ) → IsNetwork net →
    IsPosed net rows penalty base budget → IsTask (task_beside net rows penalty base budget)
beside_is_task net rows penalty base budget network posed =
    base_makes_task net rows penalty base budget network posed.sized posed.decides posed.as_the_rows

-- a completion decides what the base decides as the rows have it, so that what differs is a choice beside the base
module _ (net : Net) (network : IsNetwork net) (rows : RowsValue) (sized : IsSized net rows) (base rest : List Decision)
    (list : IsChoiceList net rows (base ++ rest)) (x : List ℕ) (as_the_rows : All (λ d. IsTrue (is_set rows (flip_named net d))) base) where
  abbrev completed : List Decision
  completed = completion_of net rows (base ++ rest) x

  differs_beside : (d : Decision) → Contains (differences_from net rows completed) d → is_decided base (choice_of d) ≡ true → ⊥
  differs_beside d h decided =
      let e = passes_one (λ b. is_same_choice (choice_of b) (choice_of d)) base decided in
      let whole : IsChoiceList net rows completed = completion_is_list net network rows sized (base ++ rest) x list in
      let there : Contains completed e.0 =
      completion_holds net network rows sized (base ++ rest) x list e.0 (Contains-append_left base rest e.0 e.1) in
      let among : Contains completed d = was_among (differs_from net rows) completed d h in
      let same : d ≡ e.0 = one_decides net rows completed whole e.0 d there among (sym (same_choice (choice_of e.0) (choice_of d) e.2)) in
      let set : is_set rows (flip_named net e.0) ≡ true = All-contains (λ b. IsTrue (is_set rows (flip_named net b))) base e.0 as_the_rows e.1 in
      let differs : differs_from net rows d ≡ true =
      All-contains (λ b. differs_from net rows b ≡ true) (differences_from net rows completed) d (filter_passes (differs_from net rows) completed) h in
      both_ways (is_set rows (flip_named net d)) (not-true (is_set rows (flip_named net d)) differs) (ap (λ b. is_set rows (flip_named net b)) same ∙ set)

  pub differences_beside : AreSomeOf (free_choices_of net rows) (map choice_of (differences_from net rows completed)) →
      AreSomeOf (choices_beside net rows base) (map choice_of (differences_from net rows completed))
  differences_beside some =
      some_kept (λ c. not (is_decided base c)) (free_choices_of net rows) (map choice_of (differences_from net rows completed)) some
      (λ c h.
      elim (cases_Bool (is_decided base c)) [
        | inl is ↦ absurd (from_one c h is)
        | inr isnt ↦ not_from_false (is_decided base c) isnt
      ])
    where
      from_one : (c : Choice) → Contains (map choice_of (differences_from net rows completed)) c → is_decided base c ≡ true → ⊥
      from_one c h is =
          let d = mapped choice_of (differences_from net rows completed) c h in
          differs_beside d.0 d.1 (ap (is_decided base) d.2 ∙ is)
