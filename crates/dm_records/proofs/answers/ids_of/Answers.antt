use Rattle.dm_cert.proofs.PathsRead.{empty_is, not_empty}
use Rattle.dm_records.proofs.IdsRead.{ids_none, ids_more, id_less, ids_all, ids_no_more}
use Rattle.dm_records.proofs.answers.ids_of.Goals as goal

pub loop-id-init : goal.loop-id-init
loop-id-init c = rw c.new-ids.ensures.items (ids_none c.args.bytes.now)

pub loop-id-smaller : goal.loop-id-smaller
loop-id-smaller c = id_less _ _ c.in-Some.id c.in-Some.ensures.reads

pub loop-id-preserved : goal.loop-id-preserved
loop-id-preserved c = ids_more _ _ _ _ _ c.in-Some.id c.in-Some.ensures.reads c.in_ok-push.ensures.items c.loop-id.invariant

pub returns-then-is_empty : goal.returns-then-is_empty
returns-then-is_empty c = ids_all _ _ _ (empty_is _ c.if-is_empty.ensures) c.loop-id.invariant

pub returns-else-is_empty : goal.returns-else-is_empty
returns-else-is_empty c = ids_no_more _ _ _ (not_empty _ c.if-is_empty.ensures) c.in_default.ensures.reads c.loop-id.invariant
