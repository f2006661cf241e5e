use Rattle.std.proofs.Common.{ap, ◌∙◌, ◌++◌, ◌∷◌, []}
use Rattle.dm_tree.proofs.Growing.{grow_choice, grow_leaf_or_end, top_is}
use Rattle.dm_tree.proofs.drafts.Draft.grow.Goals as goal

pub returns-in-Some-choice-clause-ok : goal.returns-in-Some-choice-clause-ok
returns-in-Some-choice-clause-ok c =
    grow_choice c.args.leaves.now _ _ c.args.self.now.path.items _ _ _ c.in-Some.here.items _ _ _ c.in-Some-node_due.node
    c.in-Some-choice.choice c.in-Ok.ensures.items c.in-Some-choice.ensures
    (c.in-Ok-push.ensures.items ∙ ap (λ d. c.args.self.now.path.items ++ d ∷ []) c.first.ensures)
    c.deref-2.ensures.value c.in-Some-node_due.ensures (top_is (λ g. g.items) _ _ c.in-Some.here c.in-Some.ensures.items)
    c.deref-in-Some-choice-2.ensures.value c.in-Ok-part.ensures c.requires

pub returns-clause-ok : goal.returns-clause-ok
returns-clause-ok c =
    grow_leaf_or_end c.args.leaves.now _ _ c.args.self.now.path.items _ _ c.in-Some.here.items _ _ c.in-Some-node_due.node
    c.in-Ok-turn_back.turned c.in-Ok.ensures.items c.in_default-choice.ensures c.in-Ok-turn_back.ensures.due
    c.deref-2.ensures.value c.in-Some-node_due.ensures (top_is (λ g. g.items) _ _ c.in-Some.here c.in-Some.ensures.items)
    c.requires
