use Rattle.dm_cert.proofs.PathsRead.{read_nothing, read_one, less_left, all_read, none_read, empty_is, not_empty}
use Rattle.dm_cert.proofs.leaf_lines.path_of.Goals as goal

pub loop-decision-init : goal.loop-decision-init
loop-decision-init c = rw c.new-path.ensures.items (read_nothing c.args.bytes.now)

pub loop-decision-smaller : goal.loop-decision-smaller
loop-decision-smaller c = less_left _ _ c.in-Some.decision c.in-Some.ensures

pub loop-decision-preserved : goal.loop-decision-preserved
loop-decision-preserved c = read_one _ _ _ _ _ c.in-Some.decision c.in-Some.ensures c.in_ok-push.ensures.items c.loop-decision.invariant

pub returns-then-is_empty : goal.returns-then-is_empty
returns-then-is_empty c = all_read _ _ _ (empty_is _ c.if-is_empty.ensures) c.loop-decision.invariant

pub returns-else-is_empty : goal.returns-else-is_empty
returns-else-is_empty c = none_read _ _ _ (not_empty _ c.if-is_empty.ensures) c.in_default.ensures c.loop-decision.invariant
