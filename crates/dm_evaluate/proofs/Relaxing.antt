-- A priced timetable that evaluates a path: its times and its cycles are those of the relaxed problem.
use Rattle.std.proofs.Common.{◌≡◌, ℕ, List}
use Rattle.dm_live.specs.Live.{IsAtRest}
use Rattle.dm_live.proofs.Resting.{least_at_rest, live_has_no_cycle}
use Rattle.dm_network.specs.Net.{Net, EndsAreKnown}
use Rattle.dm_priced.specs.Priced.{PricedValue, priced_cost}
use Rattle.dm_priced.proofs.Pricing.{costs_as_charged}
use Rattle.dm_rows.specs.declared.messages.Decision.{Decision}
use Rattle.dm_rows.specs.Decide.{with_decisions}
use Rattle.dm_rows.specs.Relax.{is_relaxed_active, is_relaxed_lost}
use Rattle.dm_rows.specs.Rows.{RowsValue}
use Rattle.dm_rows.proofs.AsGraph.{relaxed_enter_no_passed}
use Rattle.dm_times.specs.Constraints.{AreConstraintsHolding}
use Rattle.dm_times.proofs.Filled.{least_for_held, no_cycle_of_held}
use Rattle.dm_tree.specs.Relaxed.{IsRelaxedLeast, relaxed_cost_of, HasNoRelaxedCycle}
use Rattle.dm_evaluate.specs.Evaluating.{Evaluates}

module _ (net : Net) (rows : RowsValue) (path : List Decision) (priced : PricedValue) (evaluates : Evaluates net rows path priced) where
  constraints_are : AreConstraintsHolding net (with_decisions net rows path) (is_relaxed_active net rows path) priced.live.given
  constraints_are = record {
    sized = evaluates.is_priced.live.sized;
    held = evaluates.held;
    floors = evaluates.floors;
    spans = evaluates.price.spans;
  }

  pub relaxed_least : EndsAreKnown net → IsAtRest priced.live → IsRelaxedLeast net rows path priced.live.times
  relaxed_least known rest =
      least_for_held net (with_decisions net rows path) (is_relaxed_active net rows path) priced.live.given constraints_are priced.live.times known
      (relaxed_enter_no_passed net rows path) (least_at_rest net priced.live evaluates.is_priced.live rest)

  pub relaxed_cost : EndsAreKnown net → (penalty : ℕ) → priced_cost net priced penalty ≡ relaxed_cost_of net rows path priced.live.times penalty
  relaxed_cost known penalty =
      costs_as_charged net (with_decisions net rows path) (is_relaxed_lost net rows path) priced known evaluates.price penalty

  pub no_relaxed_cycle : HasNoRelaxedCycle net rows path
  no_relaxed_cycle =
      no_cycle_of_held net (with_decisions net rows path) (is_relaxed_active net rows path) priced.live.given constraints_are
      (live_has_no_cycle net priced.live evaluates.is_priced.live)
