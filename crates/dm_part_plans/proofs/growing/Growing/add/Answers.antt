use Rattle.std.proofs.Common.{List, ◌++◌, ◌∷◌, [], sym, ap, subst, ◌∙◌}
use Rattle.dm_rows.specs.declared.messages.Decision.{Decision}
use Rattle.dm_tree.specs.Pending.{pending}
use Rattle.dm_task.specs.Tasks.{task_of}
use Rattle.dm_traverse.proofs.Advancing.{first_is}
use Rattle.dm_traverse.proofs.Beside.{beside_is_task}
use Rattle.dm_parts.specs.declared.parts.PartNode.{PartNode}
use Rattle.dm_parts.specs.Parts.{as_node}
use Rattle.dm_part_plans.specs.Inside.Nodes.{IsTrueNode}
use Rattle.dm_part_plans.proofs.Nodes.{inner_of, grown_below, grown_turned}
use Rattle.dm_part_plans.proofs.Trees.{least_next, low_next, on_ok}
use Rattle.dm_part_plans.proofs.growing.Growing.add.Goals as goal

pub node_at-node-requires-clause-list : goal.node_at-node-requires-clause-list
node_at-node-requires-clause-list c =
    let path = c.args.self.now.path.items in
    rw c.as_slice.ensures.value (c.requires.grown.lists path (first_is path (pending path)))

pub returns-in_default-clause-grown : goal.returns-in_default-clause-grown
returns-in_default-clause-grown c =
    let t = c.args.task.now in
    let nodes = c.args.self.now.nodes.items in
    let path = c.args.self.now.path.items in
    let here = subst (λ (p : List Decision). IsTrueNode (task_of t) c.args.share.now p (as_node c.node_at-node.result)) c.as_slice.ensures.value c.node_at-node.ensures.node in
    grown_turned (task_of t) (beside_is_task t.net.now t.rows.now t.penalty t.base.now t.budget c.reveal.ensures.network c.requires.posed)
    c.args.share.now nodes c.push.new.self.items path c.turn_back.new.path.items c.node_at-node.result c.turn_back.result
    c.in_ok-push.ensures.items (sym c.choice_at.ensures ∙ c.in_default.is) c.turn_back.ensures.due here c.requires.grown

pub returns-clause-grown : goal.returns-clause-grown
returns-clause-grown c =
    let t = c.args.task.now in
    let nodes = c.args.self.now.nodes.items in
    let path = c.args.self.now.path.items in
    let choice = c.in-Some.choice in
    let is = inner_of c.node_at-node.result choice (sym c.choice_at.ensures ∙ c.in-Some.is) in
    let here = subst (λ (p : List Decision). IsTrueNode (task_of t) c.args.share.now p (as_node c.node_at-node.result)) c.as_slice.ensures.value c.node_at-node.ensures.node in
    let branch = subst (λ (n : PartNode). IsTrueNode (task_of t) c.args.share.now path (as_node n)) is here in
    grown_below (task_of t) (beside_is_task t.net.now t.rows.now t.penalty t.base.now t.budget c.reveal.ensures.network c.requires.posed)
    c.args.share.now nodes c.push.new.self.items path c.push-2.new.self.items choice
    (c.in_ok-push.ensures.items ∙ ap (λ (n : PartNode). nodes ++ n ∷ []) is)
    (c.in_ok-push-2.ensures.items ∙ ap (λ (d : Decision). path ++ d ∷ []) c.first.ensures) branch c.requires.grown

pub returns-in_default-clause-least : goal.returns-in_default-clause-least
returns-in_default-clause-least c =
    on_ok c.turn_back.result
    (least_next c.args.self.now.nodes.items c.push.new.self.items c.args.self.now.least c.least_with-self.result c.node_at-node.result
    c.in_ok-push.ensures.items c.least_with-self.ensures c.requires.least)

pub returns-clause-least : goal.returns-clause-least
returns-clause-least c =
    least_next c.args.self.now.nodes.items c.push.new.self.items c.args.self.now.least c.least_with-self.result c.node_at-node.result
    c.in_ok-push.ensures.items c.least_with-self.ensures c.requires.least

pub returns-clause-low : goal.returns-clause-low
returns-clause-low c =
    low_next c.args.self.now.least c.least_with-self.result c.node_at-node.result c.least_with-self.ensures c.requires.low c.node_at-node.ensures.low
