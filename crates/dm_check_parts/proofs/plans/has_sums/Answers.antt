use Rattle.std.proofs.Common.{◌≡◌, ◌+◌, ◌^◌, ◌≤◌, List, arith, ap, eqb, refl, subst}
use Rattle.dm_tree.specs.declared.forms.Mark.TheVariants.{Optimal}
use Rattle.dm_parts.specs.declared.parts.Part.{Part}
use Rattle.dm_parts.specs.Sizes.{nodes_of}
use Rattle.dm_check_parts.specs.Inside.Plans.{bounds_of}
use Rattle.dm_check_parts.proofs.Together.{too_large, others_told, equal_told, same_answers, other_answers, same_told, sums_told}
use Rattle.dm_check_parts.proofs.plans.has_sums.Goals as goal

pub returns-then-nodes_in-budget : goal.returns-then-nodes_in-budget
returns-then-nodes_in-budget c = λ t. let size = t.size in omega (arith, size, c.nodes_in.ensures, ap nodes_of c.as_slice-parts.ensures)

pub returns-then-is_optimal-plan : goal.returns-then-is_optimal-plan
returns-then-is_optimal-plan c = λ t.
    let plan = c.args.plan.now in
    others_told (plan.mark ≡ Optimal) (plan.bound ≡ plan.cost) c.is_optimal.result (eqb plan.bound plan.cost) c.is_optimal.ensures
    (equal_told plan.bound plan.cost (eqb plan.bound plan.cost) refl) (other_answers c.is_optimal.result (eqb plan.bound plan.cost) c.if-is_optimal-plan.true) t.mark

pub returns-in-None : goal.returns-in-None
returns-in-None c =
    too_large c.args.budget c.args.plan.now (omega arith)
    (subst (λ (parts : List Part). 2 ^ 128 ≤ bounds_of parts + c.args.plan.now.rest) c.as_slice-parts.ensures c.in-None.ensures)

pub returns-in-Some : goal.returns-in-Some
returns-in-Some c =
    let plan = c.args.plan.now in
    let size : nodes_of plan.parts ≤ c.args.budget = omega (arith, c.if-nodes_in-budget.false, c.nodes_in.ensures, ap nodes_of c.as_slice-parts.ensures) in
    sums_told c.args.budget c.in-Some.total plan
    (subst (λ (parts : List Part). c.in-Some.total ≡ bounds_of parts + plan.rest) c.as_slice-parts.ensures c.in-Some.ensures)
    (same_told (plan.mark ≡ Optimal) (plan.bound ≡ plan.cost) c.is_optimal.result (eqb plan.bound plan.cost) c.is_optimal.ensures
    (equal_told plan.bound plan.cost (eqb plan.bound plan.cost) refl) (same_answers c.is_optimal.result (eqb plan.bound plan.cost) c.if-is_optimal-plan.false))
    size (eqb c.in-Some.total plan.bound) refl
