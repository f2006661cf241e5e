-- What is violated, by flags of what is undecided.
use Rattle.std.proofs.Common.{◌≡◌, ℕ, ◌<◌, Bool, true, false, ◌&&◌, List, length, refl, sym, ap, ◌∙◌, arith}
use Rattle.std.specs.Prelude.{Contains}
use Rattle.std.specs.List.{range_with_len}
use Rattle.std.proofs.lemmas.List.FromFn.{length-range_with_len, get_or-range_with_len}
use Rattle.dm_network.specs.Net.{Net, pair_at}
use Rattle.dm_rows.specs.declared.messages.Decision.{Decision}
use Rattle.dm_rows.specs.Cost.{comes_too_early}
use Rattle.dm_rows.specs.Relax.{has_unmet_from, is_undecided_change, is_undecided_pair, is_violated_change, is_violated_pair}
use Rattle.dm_rows.specs.Rows.{RowsValue}
use Rattle.dm_paths.specs.Flags.{is_flagged}
use Rattle.dm_paths.specs.Flags.{AreFlags}

pub in_range : (n k : ℕ) → k < n → Contains (range_with_len 0 n) k
in_range n k lt =
    let many = length-range_with_len 0 n in
    let e = get_or-range_with_len 0 n k k lt in
    (k, omega arith, omega (arith, e))

pub range_below : (n k : ℕ) → Contains (range_with_len 0 n) k → k < n
range_below n k h =
    let many = length-range_with_len 0 n in
    let below = h.1 in
    let place : ℕ = h.0 in
    let lt : place < n = omega (arith, below, many) in
    let e = get_or-range_with_len 0 n place k lt in
    let is = h.2 in
    omega (arith, e, is, lt)

and_assoc : (a b c : Bool) → ((a && b) && c) ≡ (a && (b && c))
and_assoc true b c = refl
and_assoc false b c = refl

module _ (net : Net) (rows : RowsValue) (path : List Decision) (x : List ℕ) (flags : List Bool) where
  pub violated_change_by : AreFlags (is_undecided_change net rows path) (length net.activities) flags → (k : ℕ) → k < length net.activities →
      is_violated_change net rows path x k ≡ (is_flagged flags k && comes_too_early net rows x k)
  violated_change_by are k lt = ap (λ u. u && comes_too_early net rows x k) (sym (are.each k lt))

  pub violated_pair_by : AreFlags (is_undecided_pair net rows path) (length net.pairs) flags → (k : ℕ) → k < length net.pairs →
      is_violated_pair net rows path x k
      ≡ (is_flagged flags k && (has_unmet_from net rows x k (pair_at net k).small && has_unmet_from net rows x k (pair_at net k).large))
  violated_pair_by are k lt =
      and_assoc (is_undecided_pair net rows path k) (has_unmet_from net rows x k (pair_at net k).small) (has_unmet_from net rows x k (pair_at net k).large)
      ∙ ap (λ u. u && (has_unmet_from net rows x k (pair_at net k).small && has_unmet_from net rows x k (pair_at net k).large)) (sym (are.each k lt))
