-- Choices that are listed, by place; and what is open.
use Rattle.std.proofs.Common.{◌≡◌, ℕ, Bool, true, false, not, ◌&&◌, List, length, map, refl, ap, subst, ◌∙◌, inl, inr}
use Rattle.std.specs.Prelude.{filter}
use Rattle.std.specs.List.{range_with_len}
use Rattle.std.proofs.lemmas.Bool.{both_ways}
use Rattle.std.proofs.lemmas.List.Elements.{Contains-append_cases}
use Rattle.dm_network.specs.Net.{Net, activity_at, is_change}
use Rattle.dm_rows.specs.Active.{has_passed, has_cancelled_end}
use Rattle.dm_rows.specs.declared.messages.Decision.{Decision}
use Rattle.dm_rows.specs.Cost.{comes_too_early}
use Rattle.dm_rows.specs.Decide.{change_choice, pair_choice}
use Rattle.dm_rows.specs.Relax.{is_decided, is_undecided_change, is_undecided_pair, is_violated_change, is_violated_pair}
use Rattle.dm_rows.specs.Rows.{RowsValue, is_locked_change}
use Rattle.dm_paths.proofs.Naming.{from_place}
use Rattle.dm_check_rows.specs.Claims.{Tells}
use Rattle.dm_paths.specs.declared.places.ChoicePlace.TheVariants.{Change, Pair}
use Rattle.dm_paths.specs.Flags.{AreFlags}
use Rattle.dm_check_plans.specs.Inside.Violations.{SomeFlagged, NoneFlagged, IsSomeViolated}
use Rattle.dm_paths.specs.Decisions.{is_unmet_pair}
use Rattle.dm_paths.proofs.Violating.{violated_change_by, violated_pair_by}
use Rattle.dm_paths.proofs.Open.{place_is_listed}

pub no_free_change : (net : Net) (rows : RowsValue) (path : List Decision) (a : ℕ) → is_change (activity_at net a).kind ≡ false → is_undecided_change net rows path a ≡ false
no_free_change net rows path a other = ap (λ (b : Bool). b && not (has_passed rows (activity_at net a).head) && not (has_cancelled_end net rows a) && not (is_locked_change rows a)
    && not (is_decided path (change_choice net a))) other

-- some choice is violated where a flagged change or a flagged pair is, and none where none is
module _ (net : Net) (rows : RowsValue) (path : List Decision) (x : List ℕ) (changes pairs : List Bool)
    (are_changes : AreFlags (is_undecided_change net rows path) (length net.activities) changes)
    (are_pairs : AreFlags (is_undecided_pair net rows path) (length net.pairs) pairs) where
  pub change_violated : SomeFlagged changes (comes_too_early net rows x) (length net.activities) → IsSomeViolated net rows path x
  change_violated some = record {
    choice = change_choice net some.place;
    violated = place_is_listed net (is_violated_change net rows path x) (is_violated_pair net rows path x) (change_choice net some.place) (Change some.place) (some.below, refl)
        (violated_change_by net rows path x changes are_changes some.place some.below ∙ some.meets);
  }

  pub pair_violated : SomeFlagged pairs (is_unmet_pair net rows x) (length net.pairs) → IsSomeViolated net rows path x
  pair_violated some = record {
    choice = pair_choice net some.place;
    violated = place_is_listed net (is_violated_change net rows path x) (is_violated_pair net rows path x) (pair_choice net some.place) (Pair some.place) (some.below, refl)
        (violated_pair_by net rows path x pairs are_pairs some.place some.below ∙ some.meets);
  }

  pub none_violated : NoneFlagged changes (comes_too_early net rows x) (length net.activities) → NoneFlagged pairs (is_unmet_pair net rows x) (length net.pairs) →
      IsSomeViolated net rows path x → ⊥
  none_violated no_change no_pair some =
      elim (Contains-append_cases (map (change_choice net) (filter (is_violated_change net rows path x) (range_with_len 0 (length net.activities))))
      (map (pair_choice net) (filter (is_violated_pair net rows path x) (range_with_len 0 (length net.pairs)))) some.choice some.violated) [
        | inl l ↦
            let f = from_place (change_choice net) (is_violated_change net rows path x) (length net.activities) some.choice l in
            both_ways (is_violated_change net rows path x f.place) (violated_change_by net rows path x changes are_changes f.place f.below ∙ no_change f.place f.below) f.passes
        | inr r ↦
            let f = from_place (pair_choice net) (is_violated_pair net rows path x) (length net.pairs) some.choice r in
            both_ways (is_violated_pair net rows path x f.place) (violated_pair_by net rows path x pairs are_pairs f.place f.below ∙ no_pair f.place f.below) f.passes
      ]

  pub violated_told : (flags : List Bool) → flags ≡ pairs → NoneFlagged changes (comes_too_early net rows x) (length net.activities) → (b : Bool) →
      (b ≡ true → SomeFlagged flags (is_unmet_pair net rows x) (length net.pairs)) → (b ≡ false → NoneFlagged flags (is_unmet_pair net rows x) (length net.pairs)) →
      Tells (IsSomeViolated net rows path x) b
  violated_told flags is no_change true some none =
      pair_violated (subst (λ (f : List Bool). SomeFlagged f (is_unmet_pair net rows x) (length net.pairs)) is (some refl))
  violated_told flags is no_change false some none =
      none_violated no_change (subst (λ (f : List Bool). NoneFlagged f (is_unmet_pair net rows x) (length net.pairs)) is (none refl))
