-- Which choices a timetable violates, by flags of what is undecided and by rows.
use Rattle.std.proofs.Common.{◌≡◌, ℕ, suc, ◌<◌, Bool, true, false, ◌&&◌, List, [], ◌∷◌, length, get_or, refl, ap, ◌∙◌, arith, slice_index}
use Rattle.std.specs.Prelude.{sum_by, if◌then◌else◌}
use Rattle.std.specs.List.{range_with_len}
use Rattle.std.proofs.lemmas.Bool.{and_from, and_parts, false_from_ne_true, cond-true, cond-false}
use Rattle.std.proofs.lemmas.List.Sums.{sum_by-cons, get_or-le-sum_by}
use Rattle.std.proofs.lemmas.List.FromFn.{length-range_with_len, get_or-range_with_len}
use Rattle.dm_network.specs.Net.{Net, activity_at, is_change}
use Rattle.dm_network.specs.Start.{IsNetwork}
use Rattle.dm_rows.specs.declared.messages.Choice.{Choice}
use Rattle.dm_rows.specs.declared.messages.Decision.{Decision}
use Rattle.dm_rows.specs.Cost.{comes_too_early}
use Rattle.dm_rows.specs.Relax.{is_undecided_change, is_undecided_pair}
use Rattle.dm_rows.specs.Rows.{RowsValue}
use Rattle.dm_tree.specs.Relaxed.{IsViolated}
use Rattle.dm_paths.specs.declared.places.ChoicePlace.{ChoicePlace}
use Rattle.dm_paths.specs.Decisions.{is_unmet_pair}
use Rattle.dm_paths.specs.Places.{IsPlaceOf, at_place}
use Rattle.dm_paths.proofs.Open.{violated_where, where_violated}
use Rattle.dm_check_times.specs.Changes.{AreChangesTo}
use Rattle.dm_paths.specs.Flags.{is_flagged, AreFlags}
use Rattle.dm_check_plans.specs.Inside.Violations.{NoneFlagged, NoneFlaggedAmong, AreFlagsOfChanges}

-- a choice is violated exactly where it is flagged at its place and unkept there
module _ (net : Net) (network : IsNetwork net) (rows : RowsValue) (path : List Decision) (x : List ℕ) (choice : Choice) (place : ChoicePlace) (is : IsPlaceOf net choice place)
    (changes pairs : List Bool) (are_changes : AreFlags (is_undecided_change net rows path) (length net.activities) changes)
    (are_pairs : AreFlags (is_undecided_pair net rows path) (length net.pairs) pairs) where
  abbrev flag : Bool
  flag = at_place (is_flagged changes) (is_flagged pairs) place

  abbrev unkept : Bool
  unkept = at_place (comes_too_early net rows x) (is_unmet_pair net rows x) place

  pub flagged_and_unkept : flag ≡ true → unkept ≡ true → IsViolated net rows path x choice
  flagged_and_unkept flagged early = violated_where net network rows path x choice place is changes pairs are_changes are_pairs (and_from flag unkept flagged early)

  pub violated_is_both : IsViolated net rows path x choice → (flag ≡ true) × (unkept ≡ true)
  violated_is_both v = and_parts flag unkept (where_violated net network rows path x choice place is changes pairs are_changes are_pairs v)

sum_by_none : (f : ℕ → ℕ) (xs : List ℕ) → ((k : ℕ) → k < length xs → f (slice_index xs k) ≡ 0) → sum_by f xs ≡ 0
sum_by_none f [] none = refl
sum_by_none f (x ∷ xs) none =
    let here = none 0 (omega arith) in
    let rest = sum_by_none f xs (λ k lt. none (suc k) (omega arith)) in
    let all = sum_by-cons f x xs in
    all ∙ omega (arith, here, rest)

-- changes alone are flagged, and of these none meets the test: so no place does
module _ (net : Net) (flags : List Bool) (test : ℕ → Bool) (places : List ℕ) (are : AreChangesTo net (length net.activities) places) (changes : AreFlagsOfChanges net flags) where
  abbrev counted : ℕ → ℕ
  counted a = if is_flagged flags a && test a then 1 else 0

  counted_none : (a : ℕ) → (is_flagged flags a && test a) ≡ false → counted a ≡ 0
  counted_none a off = cond-false (is_flagged flags a && test a) 1 0 off

  none_adds_up : NoneFlaggedAmong flags test places (length places) → sum_by counted places ≡ 0
  none_adds_up none = sum_by_none counted places (λ k lt. counted_none (slice_index places k) (none k lt))

  other_none : (a : ℕ) → a < length net.activities → is_change (activity_at net a).kind ≡ false → counted a ≡ 0
  other_none a lt other = counted_none a (ap (λ (b : Bool). b && test a) (changes a lt other))

  pub none_flagged : NoneFlaggedAmong flags test places (length places) → NoneFlagged flags test (length net.activities)
  none_flagged none a lt = false_from_ne_true (is_flagged flags a && test a) (λ h.
      let range : List ℕ = range_with_len 0 (length net.activities) in
      let whole = are.add_up counted other_none in
      let zero = none_adds_up none in
      let size = length-range_with_len 0 (length net.activities) in
      let here = get_or-le-sum_by counted range a 0 (omega arith) in
      let place = get_or-range_with_len 0 (length net.activities) a 0 lt in
      let at : get_or range a 0 ≡ a = omega (arith, place) in
      let one : counted a ≡ 1 = cond-true (is_flagged flags a && test a) 1 0 h in
      let one_there : counted (get_or range a 0) ≡ 1 = ap counted at ∙ one in
      absurd (omega (arith, here, one_there, whole, zero)))
