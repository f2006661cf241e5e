-- Weights that follow what is charged for.
use Rattle.std.proofs.Common.{◌≡◌, ℕ, ◌+◌, ◌<◌, Bool, true, false, cond, List, length, refl, sym, ap, subst, ◌∙◌}
use Rattle.std.specs.Prelude.{◌==◌}
use Rattle.std.proofs.lemmas.Bool.{eqb-true}
use Rattle.dm_network.specs.Net.{Net, activity_at}
use Rattle.dm_rows.specs.declared.messages.Flip.TheVariants.{Keep, Drop, First}
use Rattle.dm_rows.specs.Cost.{missed_weight}
use Rattle.dm_rows.specs.Rows.{RowsValue}
use Rattle.dm_check_times.specs.KeptCosts.{KeptCostValue, IsPricedAt, IsPricedFor, RenewsWeight, priced_weight}
use Rattle.dm_check_times.proofs.Weighing.{still_late}
use Rattle.dm_paths.specs.Decisions.{is_charged_by}
use Rattle.dm_paths.specs.Flags.{is_flagged}
use Rattle.dm_check_plans.specs.Inside.Flags.{AreSetWhere}

-- an activity with the same flag weighs the same
same_flag : (net : Net) (rows : RowsValue) (before now : List Bool) (x : List ℕ) (a : ℕ) → is_flagged now a ≡ is_flagged before a → priced_weight net rows (is_flagged before) x a ≡ priced_weight net rows (is_flagged now) x a
same_flag net rows before now x a same = ap (λ (b : Bool). cond b (activity_at net a).weight 0 + missed_weight net rows x a) (sym same)

-- where the same activities are charged for
pub charged_alike : (net : Net) (rows : RowsValue) (one other : ℕ → Bool) (kept : KeptCostValue) → ((a : ℕ) → a < length net.activities → one a ≡ other a) → IsPricedFor net rows one kept → IsPricedFor net rows other kept
charged_alike net rows one other kept alike priced = record {
  late = priced.late;
  weights = λ a below. priced.weights a below ∙ ap (λ (b : Bool). cond b (activity_at net a).weight 0 + missed_weight net rows kept.times a) (alike a below);
}

module _ (net : Net) (rows : RowsValue) (before now : List Bool) (value : Bool) (old : KeptCostValue) (priced : IsPricedFor net rows (is_flagged before) old) where
  -- a decision that charges for nothing
  same_flags : ((a : ℕ) → a < length net.activities → is_flagged now a ≡ is_flagged before a) → IsPricedFor net rows (is_flagged now) old
  same_flags same = record {
    late = priced.late;
    weights = λ b below. priced.weights b below ∙ same_flag net rows before now old.times b (same b below);
  }

  pub kept_weighed : (a : ℕ) → AreSetWhere (is_charged_by (Keep a)) value (length net.activities) before now → IsPricedFor net rows (is_flagged now) old
  kept_weighed a turned = same_flags (λ b below. turned.each b below)

  pub ordered_weighed : (p : ℕ) (small : Bool) → AreSetWhere (is_charged_by (First p small)) value (length net.activities) before now → IsPricedFor net rows (is_flagged now) old
  ordered_weighed p small turned = same_flags (λ b below. turned.each b below)

  -- one that charges for a change
  pub dropped_weighed : (a : ℕ) (new : KeptCostValue) → AreSetWhere (is_charged_by (Drop a)) value (length net.activities) before now → RenewsWeight net rows (is_flagged now) a old new → IsPricedFor net rows (is_flagged now) new
  dropped_weighed a new turned renews = record {
    late = still_late net rows old new renews.times renews.late priced.late;
    weights = λ b below. by_case b below (b == a) refl;
  }
    where
      by_case : (b : ℕ) → b < length net.activities → (here : Bool) → (b == a) ≡ here → IsPricedAt net rows (is_flagged now) new b
      by_case b below true is = subst (λ (i : ℕ). IsPricedAt net rows (is_flagged now) new i) (sym (eqb-true b a is)) renews.there
      by_case b below false is = renews.kept b (priced.weights b below ∙ same_flag net rows before now old.times b (turned.each b below ∙ ap (λ (v : Bool). cond v value (is_flagged before b)) is))
