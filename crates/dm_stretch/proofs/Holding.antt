-- Where more is held, less may be decided, and nothing becomes cheaper.
use Rattle.std.proofs.Common.{◌≡◌, ℕ, Bool, true, false, List, length, map, refl, sym, ap, subst, ◌∙◌, inl, inr, arith}
use Rattle.std.specs.Prelude.{filter, Contains, not, ◌&&◌}
use Rattle.std.specs.List.{range_with_len}
use Rattle.std.proofs.lemmas.Bool.{both_ways, and_parts, and_from, not-true}
use Rattle.std.proofs.lemmas.List.Elements.{All-contains, Contains-append_left, Contains-append_right, Contains-append_cases}
use Rattle.dm_network.specs.Net.{Net, event_at, activity_at, pair_at}
use Rattle.dm_rows.specs.declared.messages.Choice.{Choice}
use Rattle.dm_rows.specs.Rows.{RowsValue}
use Rattle.dm_rows.specs.Decide.{is_free_change, is_free_pair, change_choice, pair_choice, choice_of}
use Rattle.dm_tree.specs.Plans.{Task}
use Rattle.dm_paths.proofs.Apart.{listed}
use Rattle.dm_paths.proofs.Naming.{from_place}
use Rattle.dm_relax.proofs.BoundLaw.{all_from}
use Rattle.dm_traverse.proofs.Optimal.{optimal_is, chosen}
use Rattle.dm_stretch.specs.declared.windows.Window.{Window}
use Rattle.dm_stretch.specs.Windows.{is_within, is_held, is_change_within, is_pair_within, is_change_in, is_pair_in, choices_in, window_task}
use Rattle.dm_stretch.specs.Laws.{HoldsMore, HoldingMoreCostsNoLess}
use Rattle.dm_stretch.proofs.Beside.{window_is_task}

-- items of places that pass one test are among those that pass a test which asks less
among_more : {X : Type 0} (f : ℕ → X) (test wider : ℕ → Bool) (n : ℕ) → ((i : ℕ) → test i ≡ true → wider i ≡ true) → (x : X) →
    Contains (map f (filter test (range_with_len 0 n))) x → Contains (map f (filter wider (range_with_len 0 n))) x
among_more f test wider n asks x h =
    let at = from_place f test n x h in
    subst (Contains (map f (filter wider (range_with_len 0 n)))) at.is (listed f wider 0 n at.place (omega arith) (omega (arith, at.below)) (asks at.place at.passes))

-- what is not held where more is held is not held where less is
not_held : (less more : Bool) → (less ≡ true → more ≡ true) → not more ≡ true → not less ≡ true
not_held true more holds is = absurd (both_ways more (not-true more is) (holds refl))
not_held false more holds is = refl

module _ (net : Net) (rows : RowsValue) (window tighter : Window) (more : HoldsMore window tighter) where
  same_time : (time : ℕ) → is_within tighter.from tighter.to time ≡ is_within window.from window.to time
  same_time time = ap (λ (k : ℕ). is_within k tighter.to time) more.from ∙ ap (λ (k : ℕ). is_within window.from k time) more.to

  free_of : (c : Choice) → not (is_held tighter.held c) ≡ true → not (is_held window.held c) ≡ true
  free_of c = not_held (is_held window.held c) (is_held tighter.held c) (more.held c)

  change_in : (a : ℕ) → is_change_in net rows tighter a ≡ true → is_change_in net rows window a ≡ true
  change_in a h =
      let time : ℕ = (event_at net (activity_at net a).head).time in
      let both = and_parts (is_free_change net rows a) (is_change_within net tighter a) h in
      let there = and_parts (is_within tighter.from tighter.to time) (not (is_held tighter.held (change_choice net a))) both.1 in
      and_from (is_free_change net rows a) (is_change_within net window a) both.0
      (and_from (is_within window.from window.to time) (not (is_held window.held (change_choice net a))) (sym (same_time time) ∙ there.0) (free_of (change_choice net a) there.1))

  pair_in : (p : ℕ) → is_pair_in net rows tighter p ≡ true → is_pair_in net rows window p ≡ true
  pair_in p h =
      let small : ℕ = (event_at net (pair_at net p).small).time in
      let large : ℕ = (event_at net (pair_at net p).large).time in
      let both = and_parts (is_free_pair net rows p) (is_pair_within net tighter p) h in
      let there = and_parts (is_within tighter.from tighter.to small && is_within tighter.from tighter.to large) (not (is_held tighter.held (pair_choice net p))) both.1 in
      let times = and_parts (is_within tighter.from tighter.to small) (is_within tighter.from tighter.to large) there.0 in
      and_from (is_free_pair net rows p) (is_pair_within net window p) both.0
      (and_from (is_within window.from window.to small && is_within window.from window.to large) (not (is_held window.held (pair_choice net p)))
      (and_from (is_within window.from window.to small) (is_within window.from window.to large) (sym (same_time small) ∙ times.0) (sym (same_time large) ∙ times.1))
      (free_of (pair_choice net p) there.1))

  -- so what may be decided there may be decided here
  pub among : (c : Choice) → Contains (choices_in net rows tighter) c → Contains (choices_in net rows window) c
  among c h =
      let changes : Window → List Choice = λ w. map (change_choice net) (filter (is_change_in net rows w) (range_with_len 0 (length net.activities))) in
      let pairs : Window → List Choice = λ w. map (pair_choice net) (filter (is_pair_in net rows w) (range_with_len 0 (length net.pairs))) in
      elim (Contains-append_cases (changes tighter) (pairs tighter) c h) [
        | inl l ↦
            Contains-append_left (changes window) (pairs window) c
            (among_more (change_choice net) (is_change_in net rows tighter) (is_change_in net rows window) (length net.activities) change_in c l)
        | inr r ↦
            Contains-append_right (changes window) (pairs window) c
            (among_more (pair_choice net) (is_pair_in net rows tighter) (is_pair_in net rows window) (length net.pairs) pair_in c r)
      ]

pub holding_more_costs_no_less : HoldingMoreCostsNoLess
holding_more_costs_no_less net rows penalty window tighter budget other plan one h marked is more =
    let task : Task = window_task net rows penalty window budget in
    let tight : Task = window_task net rows penalty tighter other in
    let best = (optimal_is task (window_is_task net h.network rows window h.sized penalty budget) plan h.is marked).0 in
    let made = chosen tight (window_is_task net is.network rows tighter is.sized penalty other) one.choices is.is.choices in
    best.least one.choices one.cost made.0
    (all_from (λ d. Contains (choices_in net rows window) (choice_of d)) one.choices
    (λ d there. among net rows window tighter more (choice_of d) (All-contains (λ e. Contains (choices_in net rows tighter) (choice_of e)) one.choices d made.1 there)))
    (record { no_cycle = is.is.cost.no_cycle; cost = is.is.cost.cost })
