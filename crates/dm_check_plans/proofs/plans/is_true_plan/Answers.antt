use Rattle.std.proofs.Common.{Bool, List, [], ◌∷◌, sym, subst}
use Rattle.dm_rows.specs.declared.messages.Decision.{Decision}
use Rattle.dm_tree.specs.declared.forms.Node.{Node}
use Rattle.dm_tree.specs.Plans.{whole_task}
use Rattle.dm_tree.specs.Trees.{IsTree}
use Rattle.dm_tree.proofs.Filled.{tree_fills}
use Rattle.dm_check_rows.specs.Claims.{Tells}
use Rattle.dm_check_plans.specs.Choosing.{AreTrueChoices}
use Rattle.dm_check_plans.specs.Inside.Visiting.{AreTrueNodes, IsToldOf}
use Rattle.dm_check_plans.proofs.Whole.{its_choices, its_leaves, plan_told}
use Rattle.dm_check_plans.proofs.plans.is_true_plan.Goals as goal

pub are_all_true-requires-clause-whole : goal.are_all_true-requires-clause-whole
are_all_true-requires-clause-whole c =
    tree_fills c.as_slice-nodes.result.now (subst IsTree (sym c.as_slice-nodes.ensures.nodes) c.as_slice-nodes.ensures.whole)

pub returns-then-not-is_told_of : goal.returns-then-not-is_told_of
returns-then-not-is_told_of c = λ p.
    let plan = c.args.plan.now in
    let task = whole_task c.args.net.now c.args.rows.now c.args.penalty c.args.budget in
    c.if-not-is_told_of.ensures
    (subst (λ (ns : List Node). IsToldOf ns plan.bound plan.mark c.args.budget) (sym c.as_slice-nodes.ensures.nodes) (its_leaves task plan p))

pub returns-in-Ok-false : goal.returns-in-Ok-false
returns-in-Ok-false c = λ p.
    let plan = c.args.plan.now in
    let task = whole_task c.args.net.now c.args.rows.now c.args.penalty c.args.budget in
    let told : Tells (AreTrueChoices task plan.choices plan.cost) c.in-Ok-false.field-0 =
    subst (λ (ds : List Decision). Tells (AreTrueChoices task ds plan.cost) c.in-Ok-false.field-0) c.as_slice-choices.ensures (c.in-Ok-false.ensures.tells c.args.budget) in
    (subst (λ (b : Bool). Tells (AreTrueChoices task plan.choices plan.cost) b) c.in-Ok-false.field-0-test told) (its_choices task plan p)

pub returns-in-Ok-are_all_true : goal.returns-in-Ok-are_all_true
returns-in-Ok-are_all_true c =
    let plan = c.args.plan.now in
    let task = whole_task c.args.net.now c.args.rows.now c.args.penalty c.args.budget in
    let told : Tells (AreTrueChoices task plan.choices plan.cost) c.in-Ok-true.field-0 =
    subst (λ (ds : List Decision). Tells (AreTrueChoices task ds plan.cost) c.in-Ok-true.field-0) c.as_slice-choices.ensures (c.in-Ok-true.ensures.tells c.args.budget) in
    plan_told task plan c.as_slice-nodes.ensures.whole
    (subst (λ (b : Bool). Tells (AreTrueChoices task plan.choices plan.cost) b) c.in-Ok-true.field-0-test told)
    (subst (λ (ns : List Node). IsToldOf ns plan.bound plan.mark c.args.budget) c.as_slice-nodes.ensures.nodes c.if-not-is_told_of.ensures)
    c.in-Ok-are_all_true.all
    (subst (λ (ns : List Node). Tells (AreTrueNodes task plan.cost ([] ∷ []) ns) c.in-Ok-are_all_true.all) c.as_slice-nodes.ensures.nodes
    (c.in-Ok-are_all_true.ensures c.args.budget))
