-- A decision that is made or taken back: from the relaxed problem of one path to that of the other.
use Rattle.std.proofs.Common.{◌≡◌, ℕ, ◌<◌, Bool, true, false, cond, List, length, Option, Some, None, refl, sym, ap, ◌∙◌, inl, inr}
use Rattle.std.specs.Prelude.{◌==◌, ◌&&◌}
use Rattle.std.proofs.lemmas.Bool.{cases_Bool, cases_eq, and_parts, and_left, eqb-true, eqb-false, both_ways}
use Rattle.dm_network.specs.Net.{Net, activity_at}
use Rattle.dm_network.specs.Start.{IsNetwork, first_event}
use Rattle.dm_rows.specs.declared.messages.Decision.{Decision}
use Rattle.dm_rows.specs.declared.messages.Flip.{Flip}
use Rattle.dm_rows.specs.declared.messages.Flip.TheVariants.{Keep, Drop, First}
use Rattle.dm_rows.specs.Rows.{RowsValue, IsSized}
use Rattle.dm_rows.specs.Decide.{IsChoiceList}
use Rattle.dm_rows.specs.Relax.{is_of_pair, is_relaxed_active, is_relaxed_lost}
use Rattle.dm_paths.specs.Decisions.{AddsDecision, IsOfChange, IsOfPair, IsFlipOf}
use Rattle.dm_paths.specs.Decisions.{is_directed, is_held_by, is_charged_by}
use Rattle.dm_paths.proofs.Paths.{relaxed_same, dropped_same, change_decided, change_not_of, change_bound_before, change_dropped_before, change_binds, change_dropped, pair_no_change, pair_not_of, pair_bound_before, pair_binds}
use Rattle.std.proofs.lemmas.Bool.{cases_Bool, cases_eq, and_parts, eqb-true, both_ways, eq-eqb}
use Rattle.dm_rows.specs.Relax.{is_of_pair}

-- an activity that belongs to a pair, or does not
pub its_pair : (p : ℕ) (o : Option ℕ) → is_of_pair p o ≡ true → o ≡ Some p
its_pair p None h = cc
its_pair p (Some q) h = ap (λ r. Some r) (eqb-true q p h)

pub no_pair : (p : ℕ) (o : Option ℕ) → is_of_pair p o ≡ false → o ≡ Some p → ⊥
no_pair p None h e = cc
no_pair p (Some q) h e = let same : q ≡ p = cc in both_ways (q == p) h (eq-eqb q p same)

-- At a place: what is so in the other path and not in this one, and alike in both elsewhere.
pub record DiffersAt (some here there : Bool) : Type 0 where
  pub on : some ≡ true → there ≡ true
  pub off : some ≡ true → here ≡ false
  pub same : some ≡ false → there ≡ here

pub set_on : (some here there : Bool) → DiffersAt some here there → cond some true here ≡ there
set_on true here there d = sym (d.on refl)
set_on false here there d = sym (d.same refl)

pub set_off : (some here there : Bool) → DiffersAt some here there → cond some false there ≡ here
set_off true here there d = sym (d.off refl)
set_off false here there d = d.same refl

nowhere : (here there : Bool) → there ≡ here → DiffersAt false here there
nowhere here there is = record { on = λ e. absurd cc; off = λ e. absurd cc; same = λ e. is }

at_one : (f g : ℕ → Bool) (a b : ℕ) → f a ≡ false → g a ≡ true → ((b ≡ a → ⊥) → g b ≡ f b) → DiffersAt (b == a) (f b) (g b)
at_one f g a b off on same = record {
  on = λ e. ap g (eqb-true b a e) ∙ on;
  off = λ e. ap f (eqb-true b a e) ∙ off;
  same = λ e. same (eqb-false b a e);
}

alike_at : (f g : ℕ → Bool) (a b : ℕ) → f a ≡ false → g a ≡ false → ((b ≡ a → ⊥) → g b ≡ f b) → g b ≡ f b
alike_at f g a b off off' same =
    elim (cases_eq b a) [
      | inl is ↦ ap g is ∙ off' ∙ sym off ∙ ap f (sym is)
      | inr ne ↦ same ne
    ]

module _ (net : Net) (network : IsNetwork net) (rows : RowsValue) (sized : IsSized net rows) (path other : List Decision)
    (list : IsChoiceList net rows path) (other_list : IsChoiceList net rows other) (d : Decision) (adds : AddsDecision path other d) where
  -- what is not of the change binds as before
  stays : (a : ℕ) (kept : Bool) → IsOfChange net rows d a kept → (b : ℕ) → b < length net.activities → (b ≡ a → ⊥) →
      is_relaxed_active net rows other b ≡ is_relaxed_active net rows path b
  stays a kept is b below ne =
      relaxed_same net network rows sized path other list other_list d adds b below
      (change_not_of net network rows sized path other list other_list d adds a kept is b below ne)

  -- what binds of a change that is kept or dropped, of a pair
  keeps_at : (a : ℕ) → IsOfChange net rows d a true → (b : ℕ) → b < length net.activities →
      DiffersAt (b == a) (is_relaxed_active net rows path b) (is_relaxed_active net rows other b)
  keeps_at a is b below =
      at_one (is_relaxed_active net rows path) (is_relaxed_active net rows other) a b
      (change_bound_before net network rows sized path other list other_list d adds a true is)
      (change_binds net network rows sized path other list other_list d adds a true is)
      (stays a true is b below)

  drops_at : (a : ℕ) → IsOfChange net rows d a false → (b : ℕ) → b < length net.activities →
      is_relaxed_active net rows other b ≡ is_relaxed_active net rows path b
  drops_at a is b below =
      alike_at (is_relaxed_active net rows path) (is_relaxed_active net rows other) a b
      (change_bound_before net network rows sized path other list other_list d adds a false is)
      (change_binds net network rows sized path other list other_list d adds a false is)
      (stays a false is b below)

  orders_at : (p : ℕ) (small : Bool) → IsOfPair net rows d p small → (b : ℕ) → b < length net.activities →
      DiffersAt (is_directed net p (first_event net p small) b) (is_relaxed_active net rows path b) (is_relaxed_active net rows other b)
  orders_at p small is b below =
      let its : Bool = is_of_pair p (activity_at net b).pair in
      let goes : Bool = (activity_at net b).tail == first_event net p small in
      elim (cases_Bool its) [
        | inl mine ↦
            let pair : (activity_at net b).pair ≡ Some p = its_pair p (activity_at net b).pair mine in
            let there : is_relaxed_active net rows other b ≡ goes =
            pair_binds net network rows sized path other list other_list d adds p small is b below pair in
            let here : is_relaxed_active net rows path b ≡ false =
            pair_bound_before net network rows sized path other list other_list d adds p small is b below pair in
            record {
              on = λ e. there ∙ (and_parts its goes e).1;
              off = λ e. here;
              same = λ e. there ∙ sym (ap (λ m. m && goes) mine) ∙ e ∙ sym here;
            }
        | inr not_mine ↦
            let none : (its && goes) ≡ false = and_left its goes not_mine in
            record {
              on = λ e. absurd (both_ways (its && goes) none e);
              off = λ e. absurd (both_ways (its && goes) none e);
              same = λ e. relaxed_same net network rows sized path other list other_list d adds b below
                  (pair_not_of net network rows sized path other list other_list d adds p small is b below (no_pair p (activity_at net b).pair not_mine));
            }
      ]

  pub held_differs : (flip : Flip) → IsFlipOf net rows d flip → (b : ℕ) → b < length net.activities →
      DiffersAt (is_held_by net flip b) (is_relaxed_active net rows path b) (is_relaxed_active net rows other b)
  held_differs (Keep a) is b below = keeps_at a is b below
  held_differs (Drop a) is b below = nowhere (is_relaxed_active net rows path b) (is_relaxed_active net rows other b) (drops_at a is b below)
  held_differs (First p small) is b below = orders_at p small is b below

  pub charge_differs : (flip : Flip) → IsFlipOf net rows d flip → (b : ℕ) → b < length net.activities →
      DiffersAt (is_charged_by flip b) (is_relaxed_lost net rows path b) (is_relaxed_lost net rows other b)
  charge_differs (Keep a) is b below =
      nowhere (is_relaxed_lost net rows path b) (is_relaxed_lost net rows other b)
      (alike_at (is_relaxed_lost net rows path) (is_relaxed_lost net rows other) a b
      (change_dropped_before net network rows sized path other list other_list d adds a true is)
      (change_dropped net network rows sized path other list other_list d adds a true is)
      (λ ne. dropped_same net network rows sized path other list other_list d adds b below
      ((change_decided net network rows sized path other list other_list d adds a true is).apart b below ne)))
  charge_differs (Drop a) is b below =
      at_one (is_relaxed_lost net rows path) (is_relaxed_lost net rows other) a b
      (change_dropped_before net network rows sized path other list other_list d adds a false is)
      (change_dropped net network rows sized path other list other_list d adds a false is)
      (λ ne. dropped_same net network rows sized path other list other_list d adds b below
      ((change_decided net network rows sized path other list other_list d adds a false is).apart b below ne))
  charge_differs (First p small) is b below =
      nowhere (is_relaxed_lost net rows path b) (is_relaxed_lost net rows other b)
      (dropped_same net network rows sized path other list other_list d adds b below
      (pair_no_change net network rows sized path other list other_list d adds p small is b))
