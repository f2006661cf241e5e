use Rattle.std.proofs.Common.{List, ◌+◌, get_or, drop, sym, subst}
use Rattle.std.proofs.lemmas.List.{drop_all}
use Rattle.dm_base.specs.declared.ids.ActId.{ActId}
use Rattle.dm_rows.specs.declared.messages.Choice.TheVariants.{Change}
use Rattle.dm_rows.specs.declared.messages.Decision.{Decision}
use Rattle.dm_tree.specs.declared.forms.Node.{Node}
use Rattle.dm_tree.specs.declared.forms.Node.TheVariants.{Inner}
use Rattle.dm_tree.specs.Plans.{whole_task}
use Rattle.dm_check_plans.specs.Visiting.{IsNextOpen, IsLeftToVisit}
use Rattle.dm_check_plans.specs.Inside.Visiting.{IsTrueNode}
use Rattle.dm_check_plans.proofs.Told.{next_open}
use Rattle.dm_check_plans.proofs.Visited.{at_first, false_here, ordered_here, steps_on, steps_past, none_to_visit, next_left}
use Rattle.dm_check_plans.proofs.grounds.Grounds.are_all_true.Goals as goal

-- what stands past the end of a list
abbrev past_end : Node
past_end = let id : ActId = record { 0 = 0 } in Inner (Change id)

pub loop-node-init : goal.loop-node-init
loop-node-init c = record {
  problem = c.in-Ok.ensures.problem;
  left = λ budget.
      let task = whole_task c.args.self.now.net.now c.args.self.now.rows.now c.args.self.now.penalty budget in
      subst (λ (p : List Decision). IsLeftToVisit (IsTrueNode task c.args.self.now.plan) c.args.nodes.now c.args.nodes.now p) (sym c.in-Ok.ensures.path) (at_first (IsTrueNode task c.args.self.now.plan) c.args.nodes.now c.requires.whole);
}

pub returns-then-not-is_true : goal.returns-then-not-is_true
returns-then-not-is_true c = λ budget.
    let task = whole_task c.args.self.now.net.now c.args.self.now.rows.now c.args.self.now.penalty budget in
    let n : Node = get_or c.args.nodes.now c.loop-node.node-index past_end in
    let rest : List Node = drop (c.loop-node.node-index + 1) c.args.nodes.now in
    let path = c.loop-node.problem.path in
    let left = next_left (IsTrueNode task c.args.self.now.plan) c.args.nodes.now c.loop-node.node-index past_end path c.loop-node-test.true (c.loop-node.invariant.left budget) in
    false_here (IsTrueNode task c.args.self.now.plan) c.args.nodes.now rest path n left (c.if-not-is_true.ensures.tells budget)

pub go_on-requires-clause-open : goal.go_on-requires-clause-open
go_on-requires-clause-open c =
    let net = c.args.self.now.net.now in
    let rows = c.args.self.now.rows.now in
    let task = whole_task net rows c.args.self.now.penalty 0 in
    let n : Node = get_or c.args.nodes.now c.loop-node.node-index past_end in
    let rest : List Node = drop (c.loop-node.node-index + 1) c.args.nodes.now in
    let path = c.loop-node.problem.path in
    let left = next_left (IsTrueNode task c.args.self.now.plan) c.args.nodes.now c.loop-node.node-index past_end path c.loop-node-test.true (c.loop-node.invariant.left 0) in
    subst (λ (p : List Decision). IsNextOpen net rows p n) (sym c.is_true.ensures.path)
    (next_open net rows c.args.self.now.penalty 0 path c.reveal.ensures.network c.args.self.now.plan n
    (λ choice is. ordered_here (IsTrueNode task c.args.self.now.plan) c.args.nodes.now rest path n left choice is)
    (c.if-not-is_true.ensures.tells 0))

pub returns-in-Ok-false : goal.returns-in-Ok-false
returns-in-Ok-false c = λ budget.
    steps_past (IsTrueNode (whole_task c.args.self.now.net.now c.args.self.now.rows.now c.args.self.now.penalty budget) c.args.self.now.plan) c.args.nodes.now c.loop-node.node-index past_end c.loop-node.problem.path c.is_true.new.problem.path c.go_on.new.problem.path c.in-Ok-false.field-0
    c.loop-node-test.true (c.loop-node.invariant.left budget) (c.if-not-is_true.ensures.tells budget) c.is_true.ensures.path c.in-Ok-false.ensures.next c.in-Ok-false.field-0-test

pub loop-node-preserved : goal.loop-node-preserved
loop-node-preserved c = record {
  problem = c.in-Ok-true.ensures.problem;
  left = λ budget.
      steps_on (IsTrueNode (whole_task c.args.self.now.net.now c.args.self.now.rows.now c.args.self.now.penalty budget) c.args.self.now.plan) c.args.nodes.now c.loop-node.node-index past_end c.loop-node.problem.path c.is_true.new.problem.path c.go_on.new.problem.path c.in-Ok-true.field-0
      c.loop-node-test.true (c.loop-node.invariant.left budget) (c.if-not-is_true.ensures.tells budget) c.is_true.ensures.path c.in-Ok-true.ensures.next c.in-Ok-true.field-0-test;
}

pub returns : goal.returns
returns c = λ budget.
    none_to_visit (IsTrueNode (whole_task c.args.self.now.net.now c.args.self.now.rows.now c.args.self.now.penalty budget) c.args.self.now.plan) c.args.nodes.now (drop c.loop-node.node-index c.args.nodes.now)
    c.loop-node.problem.path (drop_all c.loop-node.node-index c.args.nodes.now c.loop-node-test.false) (c.loop-node.invariant.left budget)
