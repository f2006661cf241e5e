use Rattle.dm_tree.proofs.Asking.{asks_badly_at}
use Rattle.dm_tree.proofs.drafts.asked_of.Goals as goal

pub returns-else-is_ordered : goal.returns-else-is_ordered
returns-else-is_ordered c =
    asks_badly_at c.args.path.now c.args.leaf.now c.as_slice-whole.result.now _ c.choice-choice.result c.as_slice-whole.ensures
    c.requires c.if-path-whole.true c.choice-choice.ensures c.if-is_ordered.ensures
