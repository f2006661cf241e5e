use Rattle.std.proofs.Common.{List, ◌+◌, get_or, drop, sym, subst}
use Rattle.std.proofs.lemmas.List.{drop_all}
use Rattle.dm_base.specs.declared.ids.ActId.{ActId}
use Rattle.dm_rows.specs.declared.messages.Choice.TheVariants.{Change}
use Rattle.dm_rows.specs.declared.messages.Decision.{Decision}
use Rattle.dm_tree.specs.declared.forms.Node.{Node}
use Rattle.dm_tree.specs.declared.forms.Node.TheVariants.{Inner}
use Rattle.dm_check_plans.specs.Visiting.{IsNextOpen, IsLeftToVisit}
use Rattle.dm_check_plans.proofs.Visited.{at_first, false_here, ordered_here, steps_on, steps_past, none_to_visit, next_left}
use Rattle.dm_check_parts.specs.Inside.Grounds.{task_of}
use Rattle.dm_check_parts.specs.Inside.Nodes.{IsTruePartNode}
use Rattle.dm_check_parts.proofs.Judged.{next_open}
use Rattle.dm_check_parts.proofs.grounds.Grounds.are_all_true.Goals as goal

-- what stands past the end of a list
abbrev past_end : Node
past_end = let id : ActId = record { 0 = 0 } in Inner (Change id)

pub loop-node-init : goal.loop-node-init
loop-node-init c = record {
  problem = c.requires.problem;
  left = subst (λ (p : List Decision). IsLeftToVisit (IsTruePartNode (task_of c.args.self.now) c.args.share.now) c.args.nodes.now c.args.nodes.now p) (sym c.requires.path) (at_first (IsTruePartNode (task_of c.args.self.now) c.args.share.now) c.args.nodes.now c.requires.whole);
}

pub returns-then-not-is_true-clause-tells : goal.returns-then-not-is_true-clause-tells
returns-then-not-is_true-clause-tells c =
    let n : Node = get_or c.args.nodes.now c.loop-node.node-index past_end in
    let rest : List Node = drop (c.loop-node.node-index + 1) c.args.nodes.now in
    let path = c.loop-node.problem.path in
    let left = next_left (IsTruePartNode (task_of c.args.self.now) c.args.share.now) c.args.nodes.now c.loop-node.node-index past_end path c.loop-node-test.true c.loop-node.invariant.left in
    false_here (IsTruePartNode (task_of c.args.self.now) c.args.share.now) c.args.nodes.now rest path n left c.if-not-is_true.ensures.tells

pub go_on-requires-clause-open : goal.go_on-requires-clause-open
go_on-requires-clause-open c =
    let g = c.args.self.now in
    let n : Node = get_or c.args.nodes.now c.loop-node.node-index past_end in
    let rest : List Node = drop (c.loop-node.node-index + 1) c.args.nodes.now in
    let path = c.loop-node.problem.path in
    let left = next_left (IsTruePartNode (task_of c.args.self.now) c.args.share.now) c.args.nodes.now c.loop-node.node-index past_end path c.loop-node-test.true c.loop-node.invariant.left in
    subst (λ (p : List Decision). IsNextOpen g.net.now g.rows.now p n) (sym c.is_true.ensures.path)
    (next_open g.net.now g.rows.now g.penalty g.budget c.args.share.now path n
    (λ choice is. ordered_here (IsTruePartNode (task_of c.args.self.now) c.args.share.now) c.args.nodes.now rest path n left choice is)
    c.if-not-is_true.ensures.tells)

pub returns-in-Ok-false-clause-tells : goal.returns-in-Ok-false-clause-tells
returns-in-Ok-false-clause-tells c =
    steps_past (IsTruePartNode (task_of c.args.self.now) c.args.share.now) c.args.nodes.now c.loop-node.node-index past_end c.loop-node.problem.path c.is_true.new.problem.path c.go_on.new.problem.path c.in-Ok-false.field-0
    c.loop-node-test.true c.loop-node.invariant.left c.if-not-is_true.ensures.tells c.is_true.ensures.path c.in-Ok-false.ensures.next c.in-Ok-false.field-0-test

pub loop-node-preserved : goal.loop-node-preserved
loop-node-preserved c = record {
  problem = c.in-Ok-true.ensures.problem;
  left =
      steps_on (IsTruePartNode (task_of c.args.self.now) c.args.share.now) c.args.nodes.now c.loop-node.node-index past_end c.loop-node.problem.path c.is_true.new.problem.path c.go_on.new.problem.path c.in-Ok-true.field-0
      c.loop-node-test.true c.loop-node.invariant.left c.if-not-is_true.ensures.tells c.is_true.ensures.path c.in-Ok-true.ensures.next c.in-Ok-true.field-0-test;
}

pub returns-clause-tells : goal.returns-clause-tells
returns-clause-tells c =
    none_to_visit (IsTruePartNode (task_of c.args.self.now) c.args.share.now) c.args.nodes.now (drop c.loop-node.node-index c.args.nodes.now)
    c.loop-node.problem.path (drop_all c.loop-node.node-index c.args.nodes.now c.loop-node-test.false) c.loop-node.invariant.left
