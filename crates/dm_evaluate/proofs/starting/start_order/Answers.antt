use Rattle.std.proofs.Common.{[], subst}
use Rattle.dm_order.specs.Refuse.{RefusesOrder}
use Rattle.dm_rows.specs.Active.{IsCycle}
use Rattle.dm_rows.specs.Rows.{RowsValue}
use Rattle.dm_times.proofs.Meeting.{start_has_no_cycle}
use Rattle.dm_evaluate.proofs.starting.start_order.Goals as goal

pub unreachable-requires : goal.unreachable-requires
unreachable-requires c =
    let net = c.args.net.now in
    let refused = subst (RefusesOrder net c.in-Ok.rows) c.in-Err-Cyclic.field-0-is c.in-Err-Cyclic.ensures.refused in
    start_has_no_cycle net [] [] c.reveal.ensures.network refused.cycle
    (subst (λ (r : RowsValue). IsCycle net r refused.cycle) c.in-Ok.ensures.rows refused.is_cycle)
