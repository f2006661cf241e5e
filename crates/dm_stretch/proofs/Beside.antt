-- What a window's base leaves to be made is what is in the window.
use Rattle.std.proofs.Common.{◌≡◌, ℕ, ◌⊎◌, ◌<◌, ◌≤◌, Bool, true, false, List, ◌++◌, length, map, refl, sym, ap, subst, ◌∙◌, inl, inr, arith}
use Rattle.std.proofs.lemmas.List.{map-append}
use Rattle.std.specs.Prelude.{filter, Contains, All, IsTrue, not, ◌&&◌}
use Rattle.std.specs.List.{range_with_len}
use Rattle.std.proofs.lemmas.Bool.{and_parts, and_from, not-true, not_from_false}
use Rattle.std.proofs.lemmas.List.Elements.{All-filter, All-weaker, Contains-append_left, Contains-append_right, Contains-append_cases, filter-append}
use Rattle.dm_base.specs.declared.limits.TheConstants.{PENALTY, BUDGET}
use Rattle.dm_network.specs.Net.{Net}
use Rattle.dm_network.specs.Start.{IsNetwork}
use Rattle.dm_rows.specs.declared.messages.Choice.{Choice}
use Rattle.dm_rows.specs.declared.messages.Decision.{Decision}
use Rattle.dm_rows.specs.Rows.{RowsValue, IsSized, kept_at, small_first_at}
use Rattle.dm_rows.specs.Resolve.{flip_named}
use Rattle.dm_rows.specs.Decide.{is_free_change, is_free_pair, change_choice, pair_choice, choice_of, free_changes_of, free_pairs_of, free_choices_of, IsChoiceList}
use Rattle.dm_rows.specs.Relax.{is_decided, is_same_choice}
use Rattle.dm_rows.proofs.Sides.{same_choice}
use Rattle.dm_tree.specs.declared.plans.Plan.{Plan}
use Rattle.dm_tree.specs.Plans.{Task, AreSomeOf, is_set, IsTruePlan}
use Rattle.dm_paths.specs.Decisions.{change_decision, pair_decision}
use Rattle.dm_paths.proofs.Agreeing.{passes_one}
use Rattle.dm_paths.proofs.Apart.{Apart, listed, free_are_apart, choice_list_from, in_map, map_through}
use Rattle.dm_paths.proofs.Naming.{from_place, one_change, one_pair, change_decides, pair_decides}
use Rattle.dm_paths.proofs.Setting.{kept_has, first_has}
use Rattle.dm_paths.proofs.Violating.{range_below}
use Rattle.dm_relax.proofs.BoundLaw.{all_from}
use Rattle.dm_relax.proofs.Completion.{is_decided_by}
use Rattle.dm_task.specs.Posed.{choices_beside, task_beside, IsPosed}
use Rattle.dm_traverse.specs.Laws.{IsTask}
use Rattle.dm_traverse.proofs.Beside.{base_makes_task}
use Rattle.dm_traverse.proofs.Optimal.{some_among, some_apart}
use Rattle.dm_stretch.specs.declared.windows.Window.{Window}
use Rattle.dm_parts.specs.declared.parts.PlanByParts.{PlanByParts}
use Rattle.dm_parts.specs.Parts.{IsTruePlanByParts}
use Rattle.dm_stretch.specs.Windows.{IsTrueWindowSolution, is_change_within, is_pair_within, is_change_in, is_change_outside, is_pair_outside, choices_in, window_base, window_task, IsTrueWindowPlan}
use Rattle.dm_stretch.specs.Inside.Standing.{standing_changes, standing_pairs}
use Rattle.dm_stretch.proofs.Places.{gathered, kept_of_map, some_places, some_of_both}

-- what is decided exactly where it is not within is left exactly where it is
left_exactly : (decided within : Bool) → (decided ≡ true → within ≡ false) → (within ≡ false → decided ≡ true) → not decided ≡ within
left_exactly true true apart outside = sym (apart refl)
left_exactly true false apart outside = refl
left_exactly false true apart outside = refl
left_exactly false false apart outside = sym (outside refl)

places_below : (test : ℕ → Bool) (n : ℕ) → All (λ i. i < n) (filter test (range_with_len 0 n))
places_below test n = All-filter test (λ i. i < n) (range_with_len 0 n) (all_from (λ i. i < n) (range_with_len 0 n) (range_below n))

-- what is gathered place by place is the base
pub base_gathered : (net : Net) (rows : RowsValue) (window : Window) (changes all : List Decision) →
    changes ≡ standing_changes net rows window (length net.activities) →
    all ≡ changes ++ standing_pairs net rows window (length net.pairs) → all ≡ window_base net rows window
base_gathered net rows window changes all e f =
    let first = gathered (is_change_outside net rows window) (λ a. change_decision net a (kept_at rows a)) (range_with_len 0 (length net.activities)) in
    let second = gathered (is_pair_outside net rows window) (λ p. pair_decision net p (small_first_at rows p)) (range_with_len 0 (length net.pairs)) in
    f ∙ (ap (λ ds. ds ++ standing_pairs net rows window (length net.pairs)) (e ∙ first)
    ∙ ap (λ ds. map (λ a. change_decision net a (kept_at rows a)) (filter (is_change_outside net rows window) (range_with_len 0 (length net.activities))) ++ ds) second)

-- the choice is that of a place that is not within
record IsOutside (choice : ℕ → Choice) (within : ℕ → Bool) (many : ℕ) (c : Choice) : Type 0 where
  place : ℕ
  below : place < many
  is : choice place ≡ c
  away : within place ≡ false

from_outside : (as_it_is : ℕ → Decision) (choice : ℕ → Choice) (free within : ℕ → Bool) (many : ℕ) (d : Decision) (c : Choice) → ((i : ℕ) → i < many → choice_of (as_it_is i) ≡ choice i) →
    Contains (map as_it_is (filter (λ i. free i && not (within i)) (range_with_len 0 many))) d → choice_of d ≡ c → IsOutside choice within many c
from_outside as_it_is choice free within many d c decides there same =
    let f = from_place as_it_is (λ i. free i && not (within i)) many d there in
    record {
      place = f.place;
      below = f.below;
      is = sym (decides f.place f.below) ∙ (ap choice_of f.is ∙ same);
      away = not-true (within f.place) (and_parts (free f.place) (not (within f.place)) f.passes).1;
    }

listed_outside : (as_it_is : ℕ → Decision) (free within : ℕ → Bool) (many i : ℕ) → i < many → free i ≡ true → within i ≡ false →
    Contains (map as_it_is (filter (λ j. free j && not (within j)) (range_with_len 0 many))) (as_it_is i)
listed_outside as_it_is free within many i below is_free away =
    listed as_it_is (λ j. free j && not (within j)) 0 many i (omega arith) (omega arith) (and_from (free i) (not (within i)) is_free (not_from_false (within i) away))

-- a choice whose decision is listed where it is not within is left exactly where it is
left_where : (base : List Decision) (c : Choice) (within : Bool) (d : Decision) → (is_decided base c ≡ true → within ≡ false) → (within ≡ false → Contains base d) → choice_of d ≡ c → not (is_decided base c) ≡ within
left_where base c within d apart listed_there decides = left_exactly (is_decided base c) within apart (λ away. is_decided_by base d c (listed_there away) decides)

module _ (net : Net) (network : IsNetwork net) (rows : RowsValue) (window : Window) where
  abbrev as_it_is : ℕ → Decision
  as_it_is a = change_decision net a (kept_at rows a)

  abbrev pair_as_it_is : ℕ → Decision
  pair_as_it_is p = pair_decision net p (small_first_at rows p)

  abbrev base_changes : List Decision
  base_changes = map as_it_is (filter (is_change_outside net rows window) (range_with_len 0 (length net.activities)))

  abbrev base_pairs : List Decision
  base_pairs = map pair_as_it_is (filter (is_pair_outside net rows window) (range_with_len 0 (length net.pairs)))

  -- the choices outside the window
  abbrev outside : List Choice
  outside =
      map (change_choice net) (filter (is_change_outside net rows window) (range_with_len 0 (length net.activities)))
      ++ map (pair_choice net) (filter (is_pair_outside net rows window) (range_with_len 0 (length net.pairs)))

  outside_is : map choice_of (window_base net rows window) ≡ outside
  outside_is =
      let changes : List ℕ = filter (is_change_outside net rows window) (range_with_len 0 (length net.activities)) in
      let ps : List ℕ = filter (is_pair_outside net rows window) (range_with_len 0 (length net.pairs)) in
      let first : map choice_of base_changes ≡ map (change_choice net) changes =
      map_through as_it_is choice_of (change_choice net) changes (λ k d lt. change_decides net network _ (kept_at rows _)) in
      let second : map choice_of base_pairs ≡ map (pair_choice net) ps =
      map_through pair_as_it_is choice_of (pair_choice net) ps
      (All-weaker (λ p. p < length net.pairs) (λ p. choice_of (pair_as_it_is p) ≡ pair_choice net p)
      (λ p below. pair_decides net network p (small_first_at rows p) below) ps
      (places_below (is_pair_outside net rows window) (length net.pairs))) in
      map-append choice_of base_changes base_pairs
      ∙ (ap (λ cs. cs ++ map choice_of base_pairs) first
      ∙ ap (λ cs. map (change_choice net) changes ++ cs) second)

  outside_some : AreSomeOf (free_choices_of net rows) outside
  outside_some =
      some_of_both (free_changes_of net rows) (free_pairs_of net rows) _ _
      (some_places (change_choice net) (is_free_change net rows) (λ a. not (is_change_within net window a)) (range_with_len 0 (length net.activities)))
      (some_places (pair_choice net) (is_free_pair net rows) (λ p. not (is_pair_within net window p)) (range_with_len 0 (length net.pairs)))

  base_list : IsChoiceList net rows (window_base net rows window)
  base_list =
      choice_list_from net rows (window_base net rows window)
      (subst Apart (sym outside_is) (some_apart (free_choices_of net rows) outside outside_some (free_are_apart net network rows)))
      (λ d h.
      some_among (free_choices_of net rows) outside outside_some (choice_of d)
      (subst (λ cs. Contains cs (choice_of d)) outside_is (in_map choice_of (window_base net rows window) d h)))

  has_it : (d : Decision) → Contains (window_base net rows window) d → is_set rows (flip_named net d) ≡ true
  has_it d h =
      elim (Contains-append_cases base_changes base_pairs d h) [
        | inl l ↦
            let f = from_place as_it_is (is_change_outside net rows window) (length net.activities) d l in
            subst (λ e. is_set rows (flip_named net e) ≡ true) f.is (kept_has net network rows f.place (kept_at rows f.place) f.below refl)
        | inr r ↦
            let f = from_place pair_as_it_is (is_pair_outside net rows window) (length net.pairs) d r in
            subst (λ e. is_set rows (flip_named net e) ≡ true) f.is (first_has net network rows f.place (small_first_at rows f.place) f.below refl)
      ]

  pub window_is_posed : (penalty budget : ℕ) → IsSized net rows → penalty ≤ PENALTY → budget ≤ BUDGET →
      IsPosed net rows penalty (window_base net rows window) budget
  window_is_posed penalty budget sized within few =
      record {
        sized = sized;
        within = within;
        few = few;
        decides = base_list;
        as_the_rows = all_from (λ d. IsTrue (is_set rows (flip_named net d))) (window_base net rows window) has_it;
      }

  -- a choice that the base decides is that of a change or of a pair outside the window
  decided_at : (c : Choice) → is_decided (window_base net rows window) c ≡ true →
      IsOutside (change_choice net) (is_change_within net window) (length net.activities) c ⊎ IsOutside (pair_choice net) (is_pair_within net window) (length net.pairs) c
  decided_at c decided =
      let e = passes_one (λ d. is_same_choice (choice_of d) c) (window_base net rows window) decided in
      let same : choice_of e.0 ≡ c = same_choice (choice_of e.0) c e.2 in
      elim (Contains-append_cases base_changes base_pairs e.0 e.1) [
        | inl l ↦
            inl (from_outside as_it_is (change_choice net) (is_free_change net rows) (is_change_within net window) (length net.activities) e.0 c
            (λ a below. change_decides net network a (kept_at rows a)) l same)
        | inr r ↦
            inr (from_outside pair_as_it_is (pair_choice net) (is_free_pair net rows) (is_pair_within net window) (length net.pairs) e.0 c
            (λ p below. pair_decides net network p (small_first_at rows p) below) r same)
      ]

  -- so what it decides is outside
  decided_change : (a : ℕ) → a < length net.activities → is_decided (window_base net rows window) (change_choice net a) ≡ true →
      is_change_within net window a ≡ false
  decided_change a below decided =
      elim (decided_at (change_choice net a) decided) [
        | inl o ↦ ap (is_change_within net window) (sym (one_change net network o.place a o.below below o.is)) ∙ o.away
        | inr o ↦ let at = o.is in cc
      ]

  decided_pair : (p : ℕ) → p < length net.pairs → is_decided (window_base net rows window) (pair_choice net p) ≡ true →
      is_pair_within net window p ≡ false
  decided_pair p below decided =
      elim (decided_at (pair_choice net p) decided) [
        | inl o ↦ let at = o.is in cc
        | inr o ↦ ap (is_pair_within net window) (sym (one_pair net network o.place p o.below below o.is)) ∙ o.away
      ]

  -- and it decides every free choice that is outside
  change_is_left : (a : ℕ) → a < length net.activities → is_free_change net rows a ≡ true →
      not (is_decided (window_base net rows window) (change_choice net a)) ≡ is_change_within net window a
  change_is_left a below free =
      left_where (window_base net rows window) (change_choice net a) (is_change_within net window a) (as_it_is a) (decided_change a below)
      (λ o. Contains-append_left base_changes base_pairs (as_it_is a) (listed_outside as_it_is (is_free_change net rows) (is_change_within net window) (length net.activities) a below free o))
      (change_decides net network a (kept_at rows a))

  pair_is_left : (p : ℕ) → p < length net.pairs → is_free_pair net rows p ≡ true →
      not (is_decided (window_base net rows window) (pair_choice net p)) ≡ is_pair_within net window p
  pair_is_left p below free =
      left_where (window_base net rows window) (pair_choice net p) (is_pair_within net window p) (pair_as_it_is p) (decided_pair p below)
      (λ o. Contains-append_right base_changes base_pairs (pair_as_it_is p) (listed_outside pair_as_it_is (is_free_pair net rows) (is_pair_within net window) (length net.pairs) p below free o))
      (pair_decides net network p (small_first_at rows p) below)

  left_is_inside : choices_beside net rows (window_base net rows window) ≡ choices_in net rows window
  left_is_inside =
      let left : Choice → Bool = λ c. not (is_decided (window_base net rows window) c) in
      filter-append left (free_changes_of net rows) (free_pairs_of net rows)
      ∙ (ap (λ cs. cs ++ filter left (free_pairs_of net rows))
      (kept_of_map (change_choice net) (is_free_change net rows) (is_change_within net window) left (range_with_len 0 (length net.activities))
      (λ a h free. change_is_left a (range_below (length net.activities) a h) free))
      ∙ ap (λ cs. map (change_choice net) (filter (is_change_in net rows window) (range_with_len 0 (length net.activities))) ++ cs)
      (kept_of_map (pair_choice net) (is_free_pair net rows) (is_pair_within net window) left (range_with_len 0 (length net.pairs))
      (λ p h free. pair_is_left p (range_below (length net.pairs) p h) free)))

  pub window_beside : (penalty budget : ℕ) →
      task_beside net rows penalty (window_base net rows window) budget ≡ window_task net rows penalty window budget
  window_beside penalty budget =
      ap (λ (cs : List Choice).
      record { net = net; rows = rows; penalty = penalty; base = window_base net rows window; allowed = cs; budget = budget }) left_is_inside

  pub window_is_task : IsSized net rows → (penalty budget : ℕ) → IsTask (window_task net rows penalty window budget)
  window_is_task sized penalty budget =
      subst IsTask (window_beside penalty budget)
      (base_makes_task net rows penalty (window_base net rows window) budget network sized base_list
      (all_from (λ d. IsTrue (is_set rows (flip_named net d))) (window_base net rows window) has_it))

  pub posed_within : (penalty budget : ℕ) (base : List Decision) → base ≡ window_base net rows window → IsSized net rows → penalty ≤ PENALTY → budget ≤ BUDGET →
      IsPosed net rows penalty base budget
  posed_within penalty budget base e sized within few = rw e (window_is_posed penalty budget sized within few)

  pub plan_within : (penalty budget : ℕ) (base : List Decision) (plan : Plan) → base ≡ window_base net rows window →
      IsTruePlan (task_beside net rows penalty base budget) plan → IsTrueWindowPlan net rows penalty window budget plan
  plan_within penalty budget base plan e is =
      subst (λ (t : Task). IsTruePlan t plan) (window_beside penalty budget)
      (subst (λ (b : List Decision). IsTruePlan (task_beside net rows penalty b budget) plan) e is)

  pub solution_within : (penalty budget : ℕ) (base : List Decision) (plan : PlanByParts) → base ≡ window_base net rows window →
      IsTruePlanByParts (task_beside net rows penalty base budget) plan → IsTrueWindowSolution net rows penalty window budget plan
  solution_within penalty budget base plan e is =
      subst (λ (t : Task). IsTruePlanByParts t plan) (window_beside penalty budget)
      (subst (λ (b : List Decision). IsTruePlanByParts (task_beside net rows penalty b budget) plan) e is)
