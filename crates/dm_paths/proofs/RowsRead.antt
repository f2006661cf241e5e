-- What a whole row shows of a pair.
use Rattle.std.proofs.Common.{◌≡◌, ℕ, ◌+◌, ◌<◌, true, false, ◌&&◌, List, length, sym, ap, subst, ◌∙◌, ◌⊎◌, inl, inr, arith, slice_index}
use Rattle.std.specs.Prelude.{◌==◌}
use Rattle.std.specs.List.{range_with_len}
use Rattle.std.proofs.lemmas.Bool.{cases_lt, and_parts, and_from, eq-eqb, eqb-true, both_ways, false_from_ne_true}
use Rattle.dm_network.specs.Net.{Net, activity_at, places_out_of}
use Rattle.dm_network.proofs.EventRows.{leads_out, stands_out}
use Rattle.dm_rows.specs.Cost.{comes_too_early}
use Rattle.dm_rows.specs.Relax.{is_of_pair, is_unmet_from, has_unmet_from}
use Rattle.dm_rows.specs.Rows.{RowsValue}
use Rattle.dm_paths.specs.RowsRead.{IsAmong, NoneUnmet}
use Rattle.dm_paths.proofs.Agreeing.{passes_one}
use Rattle.dm_paths.proofs.Paths.{one_passes}
use Rattle.dm_paths.proofs.Violating.{in_range, range_below}

-- an activity among the first n and one more
pub among_next : (row : List ℕ) (n b : ℕ) → IsAmong row (n + 1) b → IsAmong row n b ⊎ (b ≡ slice_index row n)
among_next row n b (k, lt, is) =
    elim (cases_lt k n) [
      | inl earlier ↦ inl (k, earlier, is)
      | inr past ↦ let here : k ≡ n = omega arith in inr (sym is ∙ ap (slice_index row) here)
    ]

module _ (net : Net) (rows : RowsValue) (x : List ℕ) (p tail : ℕ) (row : List ℕ) (row_is : row ≡ places_out_of net tail) where
  pub unmet_in_row : (a k : ℕ) → k < length row → a ≡ slice_index row k → is_of_pair p (activity_at net a).pair ≡ true → comes_too_early net rows x a ≡ true →
      has_unmet_from net rows x p tail ≡ true
  unmet_in_row a k lt is its early =
      let leads = leads_out net tail k row row_is lt in
      let below : a < length net.activities = let b = leads.is_activity in omega (arith, is, b) in
      let t : (activity_at net a).tail ≡ tail = ap (λ c. (activity_at net c).tail) is ∙ leads.tail in
      one_passes (is_unmet_from net rows x p tail) (range_with_len 0 (length net.activities)) a (in_range (length net.activities) a below)
      (and_from (is_of_pair p (activity_at net a).pair && (activity_at net a).tail == tail) (comes_too_early net rows x a)
      (and_from (is_of_pair p (activity_at net a).pair) ((activity_at net a).tail == tail) its (eq-eqb (activity_at net a).tail tail t)) early)

  pub none_in_row : NoneUnmet net rows x p row (length row) → has_unmet_from net rows x p tail ≡ false
  none_in_row none =
      false_from_ne_true (has_unmet_from net rows x p tail)
      (λ h.
      let one = passes_one (is_unmet_from net rows x p tail) (range_with_len 0 (length net.activities)) h in
      let a : ℕ = one.0 in
      let below : a < length net.activities = range_below (length net.activities) a one.1 in
      let both = and_parts (is_of_pair p (activity_at net a).pair && (activity_at net a).tail == tail) (comes_too_early net rows x a) one.2 in
      let two = and_parts (is_of_pair p (activity_at net a).pair) ((activity_at net a).tail == tail) both.0 in
      let stands = stands_out net tail a row row_is (record { is_activity = below; tail = eqb-true (activity_at net a).tail tail two.1 }) in
      let seen : (is_of_pair p (activity_at net a).pair && comes_too_early net rows x a) ≡ false =
      subst (λ (b : ℕ). (is_of_pair p (activity_at net b).pair && comes_too_early net rows x b) ≡ false) stands.is (none stands.place stands.within) in
      both_ways (is_of_pair p (activity_at net a).pair && comes_too_early net rows x a) seen
      (and_from (is_of_pair p (activity_at net a).pair) (comes_too_early net rows x a) two.0 both.1))
