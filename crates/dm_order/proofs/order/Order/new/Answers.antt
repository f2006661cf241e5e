use Rattle.std.proofs.Common.{ap, subst, ◌∙◌, length, List, Bool}
use Rattle.std.specs.List.{range_with_len}
use Rattle.std.proofs.lemmas.List.{length-map}
use Rattle.std.proofs.lemmas.List.FromFn.{length-range_with_len}
use Rattle.dm_order.specs.Orders.{is_ordered, GoForward}
use Rattle.dm_order.specs.Inside.Placing.{RefusesLists}
use Rattle.dm_order.proofs.AtRows.{first_held, rows_have_no_cycle, refused_for_rows}
use Rattle.dm_order.proofs.Forward.{forward_has_no_cycle}
use Rattle.dm_order.proofs.order.Order.new.Goals as goal

pub ordered-requires : goal.ordered-requires
ordered-requires c =
    ap length c.deref.ensures.value ∙ ap length c.in_ok-held.ensures
    ∙ length-map (range_with_len 0 (length c.args.net.now.activities)) (is_ordered c.args.net.now c.args.rows.now)
    ∙ length-range_with_len 0 (length c.args.net.now.activities)

pub returns-in-Err-clause-refused : goal.returns-in-Err-clause-refused
returns-in-Err-clause-refused c =
    refused_for_rows c.args.net.now c.args.rows.now c.in_ok-held.held.items c.in_ok-held.ensures c.in-Err.fault
    (subst (λ (fs : List Bool). RefusesLists c.args.net.now fs c.in-Err.fault) c.deref.ensures.value c.in-Err.ensures.refused)

pub returns-clause-order : goal.returns-clause-order
returns-clause-order c = record {
  ranked = c.in-Ok.ensures.lists.ranked;
  flag_count = ap length c.in_ok-held.ensures
      ∙ length-map (range_with_len 0 (length c.args.net.now.activities)) (is_ordered c.args.net.now c.args.rows.now)
      ∙ length-range_with_len 0 (length c.args.net.now.activities);
  forward = subst (λ (fs : List Bool). GoForward c.args.net.now fs c.in-Ok.lists.places.ranks.items) c.deref.ensures.value c.in-Ok.ensures.forward;
}

pub returns-clause-held : goal.returns-clause-held
returns-clause-held c = first_held c.args.net.now c.args.rows.now c.in_ok-held.held.items c.in_ok-held.ensures

pub returns-clause-no_cycle : goal.returns-clause-no_cycle
returns-clause-no_cycle c =
    rows_have_no_cycle c.args.net.now c.args.rows.now c.in_ok-held.held.items c.in_ok-held.ensures
    (forward_has_no_cycle c.args.net.now c.in_ok-held.held.items c.in-Ok.lists.places.ranks.items
    (subst (λ (fs : List Bool). GoForward c.args.net.now fs c.in-Ok.lists.places.ranks.items) c.deref.ensures.value c.in-Ok.ensures.forward))
