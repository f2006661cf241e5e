use Rattle.std.proofs.Common.{Bool, List, subst}
use Rattle.dm_rows.specs.declared.messages.Decision.{Decision}
use Rattle.dm_tree.specs.Plans.{whole_task}
use Rattle.dm_parts.specs.declared.parts.Part.{Part}
use Rattle.dm_check_rows.specs.Claims.{Tells}
use Rattle.dm_check_plans.specs.Choosing.{AreTrueChoices}
use Rattle.dm_check_parts.specs.Inside.Plans.{AreTrueTogether}
use Rattle.dm_check_parts.proofs.Together.{its_sums, its_choices, plan_told}
use Rattle.dm_check_parts.proofs.plans.is_true_plan_by_parts.Goals as goal

pub returns-then-not-has_sums : goal.returns-then-not-has_sums
returns-then-not-has_sums c = λ p. c.if-not-has_sums.ensures (its_sums c.args.net.now c.args.rows.now c.args.penalty c.args.budget c.args.plan.now p)

pub returns-in-Ok-false : goal.returns-in-Ok-false
returns-in-Ok-false c = λ p.
    let plan = c.args.plan.now in
    let task = whole_task c.args.net.now c.args.rows.now c.args.penalty c.args.budget in
    let told : Tells (AreTrueChoices task plan.choices plan.cost) c.in-Ok-false.field-0 =
    subst (λ (ds : List Decision). Tells (AreTrueChoices task ds plan.cost) c.in-Ok-false.field-0) c.as_slice.ensures (c.in-Ok-false.ensures c.args.budget) in
    (subst (λ (b : Bool). Tells (AreTrueChoices task plan.choices plan.cost) b) c.in-Ok-false.field-0-test told) (its_choices c.args.net.now c.args.rows.now c.args.penalty c.args.budget plan p)

pub returns-in-Ok : goal.returns-in-Ok
returns-in-Ok c =
    let plan = c.args.plan.now in
    let task = whole_task c.args.net.now c.args.rows.now c.args.penalty c.args.budget in
    let told : Tells (AreTrueChoices task plan.choices plan.cost) c.in-Ok-true.field-0 =
    subst (λ (ds : List Decision). Tells (AreTrueChoices task ds plan.cost) c.in-Ok-true.field-0) c.as_slice.ensures (c.in-Ok-true.ensures c.args.budget) in
    plan_told c.args.net.now c.args.rows.now c.args.penalty c.args.budget plan c.if-not-has_sums.ensures
    (subst (λ (b : Bool). Tells (AreTrueChoices task plan.choices plan.cost) b) c.in-Ok-true.field-0-test told)
    c.in-Ok.together
    (subst (λ (parts : List Part). Tells (AreTrueTogether task parts plan.rest) c.in-Ok.together) c.as_slice-2.ensures c.in-Ok.ensures)
