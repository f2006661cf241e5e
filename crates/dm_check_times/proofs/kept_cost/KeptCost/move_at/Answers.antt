use Rattle.dm_network.proofs.EventRows.{leads_into, leads_out}
use Rattle.dm_check_times.specs.KeptCosts.{charges_of}
use Rattle.dm_check_times.proofs.Weighing.{moved_priced}
use Rattle.dm_check_times.proofs.kept_cost.KeptCost.move_at.Goals as goal

pub renew_row-requires-clause-row : goal.renew_row-requires-clause-row
renew_row-requires-clause-row c = λ k below. (leads_into c.args.net.now c.args.i k _ c.row_into.ensures below).is_activity

pub renew_row-requires-2-clause-row : goal.renew_row-requires-2-clause-row
renew_row-requires-2-clause-row c = λ k below. (leads_out c.args.net.now c.args.i k _ c.row_out_of.ensures below).is_activity

pub returns-clause-priced : goal.returns-clause-priced
returns-clause-priced c =
    moved_priced c.args.net.now c.args.rows.now (charges_of c.args.net.now c.args.rows.now c.args.charges.now) c.args.i c.args.time c.row_into.result.now c.row_out_of.result.now
    c.args.self.now c.put.new.self c.renew_row.new.self c.renew_row-2.new.self c.put.ensures.times c.put.ensures.weights c.row_into.ensures c.row_out_of.ensures c.renew_row.ensures.reprices c.renew_row-2.ensures.reprices c.put.ensures.late c.requires.priced
