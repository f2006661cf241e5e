-- What a relaxed problem that is filled in gives is what the path's gives.
use Rattle.std.proofs.Common.{◌≡◌, ℕ, List, Option, sym, ap, subst, ◌∙◌}
use Rattle.dm_network.specs.Net.{Net}
use Rattle.dm_rows.specs.declared.messages.Decision.{Decision}
use Rattle.dm_rows.specs.declared.messages.Choice.{Choice}
use Rattle.dm_rows.specs.Rows.{RowsValue}
use Rattle.dm_rows.specs.Timetable.{IsLeastHolding}
use Rattle.dm_rows.specs.Cost.{cost_charging}
use Rattle.dm_rows.specs.Decide.{with_decisions}
use Rattle.dm_rows.specs.Relax.{is_relaxed_active, is_relaxed_lost}
use Rattle.dm_relax.specs.Relaxed.{IsRelaxed, first_violated}

module _ (net : Net) (rows : RowsValue) (path : List Decision) (set : RowsValue) (penalty : ℕ) (times : List ℕ) (cost : ℕ) (violated : Option Choice) where
  Gives : Net → RowsValue → List Decision → Type 0
  Gives n r p =
      set ≡ with_decisions n r p → IsLeastHolding net set (is_relaxed_active n r p) times →
      cost ≡ cost_charging net set (is_relaxed_lost n r p) times penalty → violated ≡ first_violated n r p times →
      IsRelaxed net rows path penalty (record { times = times; cost = cost; violated = violated })

  for_itself : Gives net rows path
  unfolding Gives
  for_itself is least costs first =
      record {
        times = subst (λ s. IsLeastHolding net s (is_relaxed_active net rows path) times) is least;
        cost = costs ∙ ap (λ s. cost_charging net s (is_relaxed_lost net rows path) times penalty) is;
        violated = first;
      }

  pub relaxed_from : (n : Net) (r : RowsValue) (p : List Decision) → n ≡ net → r ≡ rows → p ≡ path →
      set ≡ with_decisions n r p → IsLeastHolding net set (is_relaxed_active n r p) times →
      cost ≡ cost_charging net set (is_relaxed_lost n r p) times penalty → violated ≡ first_violated n r p times →
      IsRelaxed net rows path penalty (record { times = times; cost = cost; violated = violated })
  unfolding Gives
  relaxed_from n r p en er ep =
      subst (λ m. Gives m r p) (sym en) (subst (λ s. Gives net s p) (sym er) (subst (λ q. Gives net rows q) (sym ep) for_itself))
