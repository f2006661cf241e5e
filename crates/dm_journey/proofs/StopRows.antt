-- The row of the events at a stop.
use Rattle.std.proofs.Common.{◌≡◌, ℕ, ◌<◌, List, length, sym, subst, arith, eqb-true, eq-eqb, slice_index}
use Rattle.std.specs.Prelude.{◌==◌}
use Rattle.dm_base.specs.declared.ids.StopId.{StopId}
use Rattle.dm_graph.proofs.Windows.{kept_at, StandsAt, stands_in}
use Rattle.dm_network.specs.Net.{Net, event_at, places_at}

pub record IsAtStop (net : Net) (stop : StopId) (e : ℕ) : Type 0 where
  pub is_event : e < length net.events
  pub at_stop : (event_at net e).stop.0 ≡ stop.0

-- each place in the row of a stop is that of an event there
pub at_stop_in_row : (net : Net) (stop : StopId) (k : ℕ) (row : List ℕ) → row ≡ places_at net stop → k < length row → IsAtStop net stop (slice_index row k)
at_stop_in_row net stop k row is below =
    let kept = kept_at (λ i. (event_at net i).stop.0 == stop.0) 0 (length net.events) k (subst (λ (xs : List ℕ). k < length xs) is below) in
    let there : IsAtStop net stop (slice_index (places_at net stop) k) =
    record { is_event = let b = kept.below in omega arith; at_stop = eqb-true _ stop.0 kept.passes } in
    subst (λ (xs : List ℕ). IsAtStop net stop (slice_index xs k)) (sym is) there

-- each event at a stop stands in its row
pub stands_at_stop : (net : Net) (stop : StopId) (e : ℕ) (row : List ℕ) → row ≡ places_at net stop → IsAtStop net stop e → StandsAt row e
stands_at_stop net stop e row is there =
    let b = there.is_event in
    subst (λ (xs : List ℕ). StandsAt xs e) (sym is)
    (stands_in (λ i. (event_at net i).stop.0 == stop.0) 0 (length net.events) e (eq-eqb _ stop.0 there.at_stop) (omega arith) (omega arith))
