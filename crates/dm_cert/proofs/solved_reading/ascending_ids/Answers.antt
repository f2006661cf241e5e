use Rattle.std.proofs.Common.{arith}
use Rattle.dm_cert.proofs.PathsRead.{empty_is, not_empty}
use Rattle.dm_cert.proofs.IdsRead.{ids_begin, ids_go, ids_fall, ids_stop, all_ids, less_ids}
use Rattle.dm_cert.proofs.solved_reading.ascending_ids.Goals as goal

pub loop-id-init : goal.loop-id-init
loop-id-init c = rw c.new-ids.ensures.items (ids_begin c.args.bytes.now)

pub loop-id-smaller : goal.loop-id-smaller
loop-id-smaller c = less_ids _ _ c.in-Some.id c.in-Some.ensures

pub returns-then-id-least : goal.returns-then-id-least
returns-then-id-least c = ids_fall _ _ _ _ _ c.in-Some.id c.in-Some.ensures (omega arith) c.loop-id.invariant

pub loop-id-preserved : goal.loop-id-preserved
loop-id-preserved c = ids_go _ _ _ _ _ _ c.in-Some.id c.in-Some.ensures (omega arith) c.in_ok-push.ensures.items c.loop-id.invariant

pub returns-then-is_empty : goal.returns-then-is_empty
returns-then-is_empty c = all_ids _ _ _ _ (empty_is _ c.if-is_empty.ensures) c.loop-id.invariant

pub returns-else-is_empty : goal.returns-else-is_empty
returns-else-is_empty c = ids_stop _ _ _ _ (not_empty _ c.if-is_empty.ensures) c.in_default.ensures c.loop-id.invariant
