use Rattle.std.proofs.Common.{arith, refl}
use Rattle.dm_network.proofs.EventRows.{leads_out}
use Rattle.dm_check_times.proofs.Spreading.{spread_none, spread_more, spread_row}
use Rattle.dm_check_times.proofs.bindings.Bindings.spread_from.Goals as goal

pub loop-a-init : goal.loop-a-init
loop-a-init c = spread_none c.args.self.now.net.now c.args.self.now.held.now c.args.self.now.spans.now c.args.times.now _ _ c.args.stale.now c.args.due.now

pub spread_along-requires-clause-is_activity : goal.spread_along-requires-clause-is_activity
spread_along-requires-clause-is_activity c = (leads_out c.args.self.now.net.now c.args.event c.loop-a.a-index _ c.row_out_of-row.ensures (omega arith)).is_activity

pub loop-a-preserved : goal.loop-a-preserved
loop-a-preserved c =
    spread_more c.args.self.now.net.now c.args.self.now.held.now c.args.self.now.spans.now c.args.times.now _ _ c.loop-a.a-index c.args.stale.now c.loop-a.stale c.spread_along.new.stale c.args.due.now c.loop-a.due c.spread_along.new.due
    c.loop-a.invariant c.spread_along.ensures

pub returns : goal.returns
returns c =
    spread_row c.args.self.now.net.now c.args.self.now.held.now c.args.self.now.spans.now c.args.times.now c.args.event _ c.loop-a.a-index _ c.args.stale.now c.loop-a.stale c.args.due.now c.loop-a.due c.row_out_of-row.ensures (omega arith) refl c.loop-a.invariant
