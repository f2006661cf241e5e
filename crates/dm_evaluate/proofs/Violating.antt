-- Which choices a timetable violates, by flags of what is undecided and by rows.
use Rattle.std.proofs.Common.{◌≡◌, ℕ, ◌-◌, ◌<◌, ◌≤◌, Bool, false, ◌&&◌, List, [], ◌++◌, length, map, Some, None, sym, ap, ◌∙◌, arith}
use Rattle.std.specs.Prelude.{filter, slice_get}
use Rattle.std.specs.List.{range_with_len}
use Rattle.std.proofs.lemmas.Bool.{and_from}
use Rattle.std.proofs.lemmas.List.{append-nil}
use Rattle.dm_network.specs.Net.{Net}
use Rattle.dm_rows.specs.declared.messages.Choice.{Choice}
use Rattle.dm_rows.specs.declared.messages.Decision.{Decision}
use Rattle.dm_rows.specs.Cost.{comes_too_early}
use Rattle.dm_rows.specs.Decide.{change_choice, pair_choice}
use Rattle.dm_rows.specs.Relax.{is_undecided_change, is_undecided_pair, is_violated_change, is_violated_pair}
use Rattle.dm_rows.specs.Rows.{RowsValue}
use Rattle.dm_relax.specs.Relaxed.{first_violated}
use Rattle.dm_priced.specs.Priced.{is_flagged}
use Rattle.dm_paths.specs.Flags.{AreFlags}
use Rattle.dm_evaluate.specs.Inside.Marking.{IsFirst}
use Rattle.dm_evaluate.specs.Inside.Violations.{violated_from, violated_pair_from}
use Rattle.dm_paths.specs.Decisions.{is_unmet_pair}
use Rattle.dm_evaluate.proofs.Behind.{first_passing, none_passing}
use Rattle.dm_paths.proofs.Violating.{violated_change_by, violated_pair_by}

-- what is first flagged and passes a test from a place on is listed first, of what is listed by both
pub first_is_listed : (choice : ℕ → Choice) (violated test : ℕ → Bool) (flags : List Bool) (rest : List Choice) (first n place : ℕ) →
    ((k : ℕ) → k < n → violated k ≡ (is_flagged flags k && test k)) → IsFirst flags test first n place →
    slice_get (map choice (filter violated (range_with_len first (n - first))) ++ rest) 0 ≡ Some (choice place)
first_is_listed choice violated test flags rest first n place by f =
    let start = f.not_before in
    let within = f.within in
    first_passing choice violated rest first (n - first) place f.not_before (omega arith)
    (λ k ge lt. by k (omega arith) ∙ f.none k ge lt)
    (by place within ∙ and_from (is_flagged flags place) (test place) f.flagged f.passes)

-- the first violated choice from a place on, by flags
module _ (net : Net) (rows : RowsValue) (path : List Decision) (x : List ℕ) (changes pairs : List Bool)
    (change_flags : AreFlags (is_undecided_change net rows path) (length net.activities) changes)
    (pair_flags : AreFlags (is_undecided_pair net rows path) (length net.pairs) pairs) where
  abbrev pub violated_pairs : List Choice
  violated_pairs = map (pair_choice net) (filter (is_violated_pair net rows path x) (range_with_len 0 (length net.pairs)))

  pub change_is_first : (first a : ℕ) → IsFirst changes (comes_too_early net rows x) first (length net.activities) a →
      Some (change_choice net a) ≡ violated_from net rows path x first
  change_is_first first a f =
      sym (first_is_listed (change_choice net) (is_violated_change net rows path x) (comes_too_early net rows x) changes violated_pairs first (length net.activities) a
      (violated_change_by net rows path x changes change_flags) f)

  pub no_change_from : (first : ℕ) → ((k : ℕ) → first ≤ k → (is_flagged changes k && comes_too_early net rows x k) ≡ false) →
      slice_get violated_pairs 0 ≡ violated_from net rows path x first
  no_change_from first none =
      ap (λ (l : List Choice). slice_get l 0)
      (sym (none_passing (change_choice net) (is_violated_change net rows path x) violated_pairs first (length net.activities - first)
      (λ k ge lt. violated_change_by net rows path x changes change_flags k (omega arith) ∙ none k ge)))

  -- of so many pairs from a place on
  abbrev pub pairs_from : ℕ → ℕ → List Choice
  pairs_from first n = map (pair_choice net) (filter (is_violated_pair net rows path x) (range_with_len first n))

  without_end : (first n : ℕ) → slice_get (pairs_from first n ++ []) 0 ≡ slice_get (pairs_from first n) 0
  without_end first n = ap (λ (l : List Choice). slice_get l 0) (append-nil (pairs_from first n))

  pub pair_is_first : (first p : ℕ) → IsFirst pairs (is_unmet_pair net rows x) first (length net.pairs) p →
      Some (pair_choice net p) ≡ violated_pair_from net rows path x first
  pair_is_first first p f =
      sym (sym (without_end first (length net.pairs - first))
      ∙ first_is_listed (pair_choice net) (is_violated_pair net rows path x) (is_unmet_pair net rows x) pairs [] first (length net.pairs) p
      (violated_pair_by net rows path x pairs pair_flags) f)

  pub no_pair_from : (first : ℕ) → ((k : ℕ) → first ≤ k → (is_flagged pairs k && is_unmet_pair net rows x k) ≡ false) →
      None ≡ violated_pair_from net rows path x first
  no_pair_from first none =
      sym (sym (without_end first (length net.pairs - first))
      ∙ ap (λ (l : List Choice). slice_get l 0)
      (none_passing (pair_choice net) (is_violated_pair net rows path x) [] first (length net.pairs - first)
      (λ k ge lt. violated_pair_by net rows path x pairs pair_flags k (omega arith) ∙ none k ge)))

-- from the first place on, all violated choices are looked at
pub pairs_from_start : (net : Net) (rows : RowsValue) (path : List Decision) (x : List ℕ) →
    violated_pair_from net rows path x 0 ≡ slice_get (map (pair_choice net) (filter (is_violated_pair net rows path x) (range_with_len 0 (length net.pairs)))) 0
pairs_from_start net rows path x =
    let same : length net.pairs - 0 ≡ length net.pairs = omega arith in
    ap (λ (n : ℕ). slice_get (map (pair_choice net) (filter (is_violated_pair net rows path x) (range_with_len 0 n))) 0) same

pub from_start : (net : Net) (rows : RowsValue) (path : List Decision) (x : List ℕ) → violated_from net rows path x 0 ≡ first_violated net rows path x
from_start net rows path x =
    let same : length net.activities - 0 ≡ length net.activities = omega arith in
    ap (λ (n : ℕ). slice_get (map (change_choice net) (filter (is_violated_change net rows path x) (range_with_len 0 n))
    ++ map (pair_choice net) (filter (is_violated_pair net rows path x) (range_with_len 0 (length net.pairs)))) 0) same
