use Rattle.std.proofs.Common.{arith}
use Rattle.dm_check_times.proofs.Spreading.{tails_none, tails_more, tails_row}
use Rattle.dm_network.proofs.EventRows.{leads_into}
use Rattle.dm_check_times.proofs.bindings.Bindings.mark_tails.Goals as goal

pub loop-a-init : goal.loop-a-init
loop-a-init c = tails_none c.args.self.now.net.now c.args.self.now.held.now _ c.args.due.now

pub mark_tail-requires-clause-is_activity : goal.mark_tail-requires-clause-is_activity
mark_tail-requires-clause-is_activity c = (leads_into c.args.self.now.net.now c.args.event c.loop-a.a-index _ c.row_into-row.ensures (omega arith)).is_activity

pub loop-a-preserved : goal.loop-a-preserved
loop-a-preserved c = tails_more c.args.self.now.net.now c.args.self.now.held.now _ c.loop-a.a-index c.args.due.now c.loop-a.due c.mark_tail.new.due c.loop-a.invariant c.mark_tail.ensures

pub returns : goal.returns
returns c = tails_row c.args.self.now.net.now c.args.self.now.held.now c.args.event c.loop-a.a-index _ c.args.due.now c.loop-a.due c.row_into-row.ensures (omega arith) c.loop-a.invariant
