use Rattle.std.proofs.Common.{arith}
use Rattle.dm_cert.proofs.PartsStaged.{within_left, parts_begin, parts_stop, parts_go, parts_end}
use Rattle.dm_cert.proofs.solved_reading.read_parts.Goals as goal

pub loop-left-init : goal.loop-left-init
loop-left-init c = rw c.new-parts.ensures.items (parts_begin c.args.heading c.args.lines.now)

pub returns-in-Err : goal.returns-in-Err
returns-in-Err c = parts_stop c.args.heading _ _ _ _ _ _ c.in-Err.fault c.loop-left.invariant (omega arith) c.in-Err.ensures

pub left_behind-left-requires-clause-nodes : goal.left_behind-left-requires-clause-nodes
left_behind-left-requires-clause-nodes c = (within_left _ _ _ _ _ c.in-Ok.part c.in-Ok.ensures).few_nodes

pub left_behind-left-requires-clause-ids : goal.left_behind-left-requires-clause-ids
left_behind-left-requires-clause-ids c = (within_left _ _ _ _ _ c.in-Ok.part c.in-Ok.ensures).few_ids

pub loop-left-preserved : goal.loop-left-preserved
loop-left-preserved c =
    rw (c.left_behind-left.ensures.parts, c.left_behind-left.ensures.nodes, c.left_behind-left.ensures.ids)
    (parts_go c.args.heading _ _ _ _ _ _ _ _ c.in-Ok.part c.loop-left.invariant (omega arith) c.in-Ok.ensures c.in-Ok-push.ensures.items)

pub returns : goal.returns
returns c = parts_end c.args.heading _ _ _ _ _ _ c.loop-left.invariant (omega arith)
