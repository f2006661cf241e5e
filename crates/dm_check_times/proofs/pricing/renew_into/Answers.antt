use Rattle.dm_network.proofs.EventRows.{leads_into}
use Rattle.dm_rows.specs.Cost.{is_lost_change}
use Rattle.dm_check_times.proofs.Weighing.{into_whole}
use Rattle.dm_check_times.proofs.pricing.renew_into.Goals as goal

pub renew_row-requires-clause-row : goal.renew_row-requires-clause-row
renew_row-requires-clause-row c = λ k below. (leads_into c.args.net.now c.args.event k _ c.row_into.ensures below).is_activity

pub returns-clause-reprices : goal.returns-clause-reprices
returns-clause-reprices c =
    into_whole c.args.net.now c.args.rows.now (is_lost_change c.args.net.now c.args.rows.now) c.args.event c.row_into.result.now c.args.cost.now c.renew_row.new.self c.row_into.ensures c.renew_row.ensures.reprices
