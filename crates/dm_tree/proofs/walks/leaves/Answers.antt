use Rattle.std.proofs.Common.{ap, ◌∙◌, ◌++◌, ◌∷◌, []}
use Rattle.std.proofs.lemmas.List.{drop_all}
use Rattle.dm_tree.proofs.Walked.{finds_at_first, choice_step, leaf_step, all_found}
use Rattle.dm_tree.proofs.walks.leaves.Goals as goal

pub loop-node-init : goal.loop-node-init
loop-node-init c =
    rw (c.new-path.ensures.items, c.new-found.ensures.items, c.as_slice-nodes.ensures.nodes)
    (finds_at_first _ c.as_slice-nodes.ensures.whole)

pub loop-node-preserved-in-Some : goal.loop-node-preserved-in-Some
loop-node-preserved-in-Some c =
    choice_step _ _ _ _ _ _ c.in-Some.choice c.loop-node-test.true c.in-Some.ensures
    (c.in_ok-push.ensures.items ∙ ap (λ d. c.loop-node.path.items ++ d ∷ []) c.first.ensures) c.loop-node.invariant

pub loop-node-preserved : goal.loop-node-preserved
loop-node-preserved c =
    leaf_step _ _ _ _ _ _ _ _ c.in_ok-turn_back.field-0 c.loop-node-test.true c.in_default.ensures
    (c.from_vec.ensures ∙ (c.in_ok-here.ensures.items ∙ c.deref.ensures.value)) c.in_ok-push-2.ensures.items c.in_ok-turn_back.ensures.due
    c.loop-node.invariant

pub returns : goal.returns
returns c =
    rw (← c.as_slice-nodes.ensures.nodes)
    (all_found _ _ _ _ (rw c.as_slice-nodes.ensures.nodes c.as_slice-nodes.ensures.whole)
    (drop_all _ _ c.loop-node-test.false) c.loop-node.invariant)
