-- The rows at the start are as many as the network's parts.
use Rattle.std.proofs.Common.{◌≡◌, ℕ, List, length, None, true, false, ◌∙◌, ap}
use Rattle.std.proofs.lemmas.List.FromFn.{length-map-range_with_len}
use Rattle.std.proofs.lemmas.List.{length-replicate}
use Rattle.dm_base.specs.declared.rows.DelayRow.{DelayRow}
use Rattle.dm_network.specs.Net.{Net}
use Rattle.dm_network.specs.Start.{starts_small_first}
use Rattle.dm_rows.specs.Rows.{RowsValue, IsSized, last_delay}
use Rattle.dm_rows.specs.Inside.Delays.{AreDelaysOf, IsStartWith}

are_as_many : (count : ℕ) (number : ℕ → ℕ) (records : List DelayRow) (delays : List ℕ) → AreDelaysOf count number records delays →
    length delays ≡ count
are_as_many count number records delays of = ap length of.are ∙ length-map-range_with_len (λ i. last_delay records (number i)) 0 count

pub start_is_sized : (net : Net) (event_number activity_number : ℕ → ℕ) (events activities : List DelayRow) (event_delays act_delays : List ℕ) (rows : RowsValue) →
    AreDelaysOf (length net.events) event_number events event_delays →
    AreDelaysOf (length net.activities) activity_number activities act_delays →
    IsStartWith net event_delays act_delays rows → IsSized net rows
start_is_sized net event_number activity_number events activities event_delays act_delays rows of_events of_activities start =
    record {
      event_delays = ap (λ (r : RowsValue). length r.event_delays) start ∙ are_as_many (length net.events) event_number events event_delays of_events;
      act_delays = ap (λ (r : RowsValue). length r.act_delays) start ∙ are_as_many (length net.activities) activity_number activities act_delays of_activities;
      passed = ap (λ (r : RowsValue). length r.passed) start ∙ length-replicate (length net.events) None;
      cancelled = ap (λ (r : RowsValue). length r.cancelled) start ∙ length-replicate (length net.events) false;
      kept = ap (λ (r : RowsValue). length r.kept) start ∙ length-replicate (length net.activities) true;
      locked_changes = ap (λ (r : RowsValue). length r.locked_changes) start ∙ length-replicate (length net.activities) false;
      small_first = ap (λ (r : RowsValue). length r.small_first) start ∙ length-map-range_with_len (starts_small_first net) 0 (length net.pairs);
      locked_pairs = ap (λ (r : RowsValue). length r.locked_pairs) start ∙ length-replicate (length net.pairs) false;
    }
