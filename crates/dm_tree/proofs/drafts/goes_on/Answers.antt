use Rattle.dm_tree.proofs.Given.{match_from}
use Rattle.dm_tree.proofs.Grouping.{goes_when, goes_so}
use Rattle.dm_tree.proofs.drafts.goes_on.Goals as goal

pub returns-then-path-whole : goal.returns-then-path-whole
returns-then-path-whole c =
    match_from c.is_same.result _ _ _ _ c.is_same.ensures
    (λ same. goes_when c.args.path.now c.args.whole.now c.args.decision _ c.requires c.if-path-whole.true same)
    (λ apart front. apart (goes_so c.args.path.now c.args.whole.now c.args.decision _ front).1)
