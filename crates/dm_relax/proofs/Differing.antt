-- What differs from the rows in a completion completes as well.
use Rattle.std.proofs.Common.{◌≡◌, Bool, true, List, [], ◌∷◌, map, refl, sym, ap, subst, ◌∙◌, inl, inr, arith}
use Rattle.std.specs.Prelude.{filter, Contains, All}
use Rattle.std.proofs.lemmas.Bool.{cases_Bool, cond-true, cond-false, not-false}
use Rattle.std.proofs.lemmas.List.Elements.{All-filter, All-contains, All-contains_itself, Contains-append_right, filter_passes}
use Rattle.dm_rows.specs.declared.messages.Choice.{Choice}
use Rattle.dm_rows.specs.declared.messages.Decision.{Decision}
use Rattle.dm_rows.specs.Rows.{RowsValue}
use Rattle.dm_rows.specs.Resolve.{flip_named}
use Rattle.dm_rows.specs.Decide.{free_choices_of, choice_of, with_decisions, IsChoiceList}
use Rattle.dm_tree.specs.Plans.{AreSomeOf, is_set}
use Rattle.dm_relax.specs.Complete.{completion_of}
use Rattle.dm_paths.specs.Decisions.{differs_from}
use Rattle.dm_relax.specs.Laws.{DifferencesComplete}
use Rattle.dm_paths.proofs.Naming.{names}
use Rattle.dm_paths.proofs.Setting.{HasDecision, differs_in_none, differs_with, locks_of, there_with, one_decides, in_front}
use Rattle.dm_relax.proofs.Completion.{completion_decides, completion_is_list}
use Rattle.dm_relax.proofs.Completed.{completed_least, completed_has_no_cycle, completed_costs}

skips : (a : Choice) (choices chosen : List Choice) → AreSomeOf choices chosen → AreSomeOf (a ∷ choices) chosen
skips a choices [] h = tt
skips a choices (c ∷ chosen) h = inr h

some_pass : (p : Decision → Bool) (ds : List Decision) → AreSomeOf (map choice_of ds) (map choice_of (filter p ds))
some_pass p [] = refl
some_pass p (d ∷ ds) =
    elim (cases_Bool (p d)) [
      | inl is ↦
          subst (λ es. AreSomeOf (choice_of d ∷ map choice_of ds) (map choice_of es)) (sym (cond-true (p d) (d ∷ filter p ds) (filter p ds) is))
          (inl (refl, some_pass p ds))
      | inr isnt ↦
          subst (λ es. AreSomeOf (choice_of d ∷ map choice_of ds) (map choice_of es)) (sym (cond-false (p d) (d ∷ filter p ds) (filter p ds) isnt))
          (skips (choice_of d) (map choice_of ds) (map choice_of (filter p ds)) (some_pass p ds))
    ]

-- what passes is among what is left, and what is left was among all
pub passes_filter : {X : Type 0} (p : X → Bool) (ds : List X) (d : X) → Contains ds d → p d ≡ true → Contains (filter p ds) d
passes_filter p [] d h is = absurd (omega (arith, h.1))
passes_filter {X = X} p (e ∷ ds) d h is =
    let rest : List X = filter p ds in
    elim (in_front e d ds h) [
      | inl same ↦
          subst (λ es. Contains es d) (sym (cond-true (p e) (e ∷ rest) rest (ap p same ∙ is)))
          (let front : Contains (e ∷ rest) d = (0, omega arith, same) in front)
      | inr behind ↦
          let later : Contains rest d = passes_filter p ds d behind is in
          elim (cases_Bool (p e)) [
            | inl t ↦ subst (λ es. Contains es d) (sym (cond-true (p e) (e ∷ rest) rest t)) (Contains-append_right (e ∷ []) rest d later)
            | inr f ↦ subst (λ es. Contains es d) (sym (cond-false (p e) (e ∷ rest) rest f)) later
          ]
    ]

pub was_among : {X : Type 0} (p : X → Bool) (ds : List X) (d : X) → Contains (filter p ds) d → Contains ds d
was_among p ds d h = All-contains (Contains ds) (filter p ds) d (All-filter p (Contains ds) ds (All-contains_itself ds)) h

pub differences_complete : DifferencesComplete
differences_complete net rows path x network sized list nothing =
    let ds : List Decision = completion_of net rows path x in
    let differ : Decision → Bool = differs_from net rows in
    let new : List Decision = filter differ ds in
    let s : RowsValue = with_decisions net rows new in
    let whole : IsChoiceList net rows ds = completion_is_list net network rows sized path x list in
    let free : All (λ e. Contains (free_choices_of net rows) (choice_of e)) new =
    All-filter differ (λ e. Contains (free_choices_of net rows) (choice_of e)) ds whole.free in
    let over_s = differs_with net rows rows new (differs_in_none rows) in
    let locks_s = locks_of net network rows sized new free in
    let has_all : (d : Decision) → Contains ds d → HasDecision net s d =
    λ d h.
    there_with net network rows sized new rows d (differs_in_none rows)
    (names net rows d (All-contains (λ e. Contains (free_choices_of net rows) (choice_of e)) ds d whole.free h)) free
    (λ e c same. one_decides net rows ds whole d e h (was_among differ ds e c) same)
    (elim (cases_Bool (differ d)) [
      | inl is ↦ inr (passes_filter differ ds d h is)
      | inr isnt ↦ inl (not-false (is_set rows (flip_named net d)) isnt)
    ]) in
    record {
      in_order = subst (λ cs. AreSomeOf cs (map choice_of new)) (completion_decides net network rows sized path x list) (some_pass differ ds);
      differ = filter_passes differ ds;
      no_cycle = completed_has_no_cycle net network rows sized path x list nothing s over_s locks_s has_all;
      least = completed_least net network rows sized path x list nothing s over_s locks_s has_all;
      cost = completed_costs net network rows sized path x list nothing s over_s locks_s has_all;
    }
