-- What is held at first has a cycle exactly where the rows have one.
use Rattle.std.proofs.Common.{◌≡◌, ℕ, ◌<◌, Bool, true, false, List, [], ◌∷◌, length, map, refl, sym, ap, ◌∙◌, arith}
use Rattle.std.specs.Prelude.{if◌then◌else◌}
use Rattle.std.specs.List.{range_with_len}
use Rattle.std.proofs.lemmas.List.FromFn.{get_or-map-range_with_len}
use Rattle.dm_graph.specs.Arcs.{Chain}
use Rattle.dm_graph.proofs.Transfers.{cycle_carries}
use Rattle.dm_network.specs.Net.{Net, activity_at}
use Rattle.dm_network.specs.Held.{arcs_of, is_held, IsCycleOf, HasNoCycleOf}
use Rattle.dm_rows.specs.Rows.{RowsValue}
use Rattle.dm_rows.specs.Active.{has_passed, is_active, active_arcs, IsCycle, HasNoCycle}
use Rattle.dm_rows.proofs.Harmless.{head_is_open}
use Rattle.dm_order.specs.declared.faults.OrderFault.{OrderFault}
use Rattle.dm_order.specs.declared.faults.OrderFault.TheVariants.{Cyclic, OutOfMemory}
use Rattle.dm_order.specs.Orders.{is_ordered}
use Rattle.dm_order.specs.Refuse.{RefusesOrder}
use Rattle.dm_order.specs.Inside.Placing.{RefusesLists}

but : (b x : Bool) → (if b then false else x) ≡ true → x ≡ true
but true x h = cc
but false x h = h

both : (b x : Bool) → b ≡ false → x ≡ true → (if b then false else x) ≡ true
both true x p q = cc
both false x p q = q

module _ (net : Net) (rows : RowsValue) (held : List Bool)
    (held_are : held ≡ map (is_ordered net rows) (range_with_len 0 (length net.activities))) where
  pub first_held : (a : ℕ) → a < length net.activities → is_held held a ≡ is_ordered net rows a
  first_held a lt =
      ap (λ (fs : List Bool). is_held fs a) held_are
      ∙ get_or-map-range_with_len (is_ordered net rows) 0 (length net.activities) a a false lt (omega arith)

  pub held_cycle_is_of_rows : (cycle : List ℕ) → IsCycleOf net (is_held held) cycle → IsCycle net rows cycle
  held_cycle_is_of_rows cycle is =
      cycle_carries (arcs_of net (is_held held)) (active_arcs net rows)
      (λ a b. record {
        binds = record {
          is_arc = b.is_arc;
          is_held = but (has_passed rows (activity_at net a).tail) (is_active net rows a) (sym (first_held a b.is_arc) ∙ b.is_held);
          from_event = b.from_event;
          to_event = b.to_event;
        };
        same_tail = refl;
        same_head = refl;
      }) cycle is

  -- no active activity enters an event that has passed
  enters_no_passed : (a : ℕ) → is_active net rows a ≡ true → has_passed rows (activity_at net a).head ≡ false
  enters_no_passed a active = head_is_open net rows a active

  end_has_not_passed : (i : ℕ) (chain : List ℕ) (j : ℕ) → has_passed rows i ≡ false → Chain (active_arcs net rows) i chain j → has_passed rows j ≡ false
  end_has_not_passed i [] j free is = ap (has_passed rows) (sym is) ∙ free
  end_has_not_passed i (a ∷ rest) j free is =
      end_has_not_passed (activity_at net a).head rest j (enters_no_passed a is.0.is_held) is.2

  -- active activities from an event that has not passed are held
  chain_is_held : (i : ℕ) (chain : List ℕ) (j : ℕ) → has_passed rows i ≡ false → Chain (active_arcs net rows) i chain j → Chain (arcs_of net (is_held held)) i chain j
  chain_is_held i [] j free is = is
  chain_is_held i (a ∷ rest) j free is =
      let tail_free : has_passed rows (activity_at net a).tail ≡ false = ap (has_passed rows) is.1 ∙ free in (
        record {
          is_arc = is.0.is_arc;
          is_held = first_held a is.0.is_arc ∙ both (has_passed rows (activity_at net a).tail) (is_active net rows a) tail_free is.0.is_held;
          from_event = is.0.from_event;
          to_event = is.0.to_event;
        },
        is.1,
        chain_is_held (activity_at net a).head rest j (enters_no_passed a is.0.is_held) is.2,
      )

  rows_cycle_is_held : (cycle : List ℕ) → IsCycle net rows cycle → IsCycleOf net (is_held held) cycle
  rows_cycle_is_held [] is = is
  rows_cycle_is_held (a ∷ rest) is =
      chain_is_held (activity_at net a).tail (a ∷ rest) (activity_at net a).tail
      (end_has_not_passed (activity_at net a).head rest (activity_at net a).tail (enters_no_passed a is.0.is_held) is.2)
      is

  pub rows_have_no_cycle : HasNoCycleOf net (is_held held) → HasNoCycle net rows
  rows_have_no_cycle none cycle is = none cycle (rows_cycle_is_held cycle is)

  pub refused_for_rows : (fault : OrderFault) → RefusesLists net held fault → RefusesOrder net rows fault
  refused_for_rows Cyclic h = record { cycle = h.cycle; is_cycle = held_cycle_is_of_rows h.cycle h.is_cycle }
  refused_for_rows OutOfMemory h = h
