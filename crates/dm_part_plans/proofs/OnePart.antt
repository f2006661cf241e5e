-- One part of all terms, and choices that a plan may have, make a true plan by parts.
use Rattle.std.proofs.Common.{◌≡◌, ℕ, ◌+◌, ◌≤◌, List, [], ◌∷◌, length, map, sym, ap, subst, ◌∙◌, arith, Result, Ok, Err}
use Rattle.std.specs.Prelude.{◌^◌, ◌↔◌, All, sum_by, IfOk}
use Rattle.dm_rows.specs.declared.messages.Decision.{Decision}
use Rattle.dm_tree.specs.declared.forms.Mark.TheVariants.{Optimal}
use Rattle.dm_tree.specs.declared.plans.Plan.{Plan}
use Rattle.dm_tree.specs.Plans.{Task, CostsRelaxed, IsTruePlan}
use Rattle.dm_traverse.specs.Laws.{IsTask}
use Rattle.dm_traverse.proofs.Optimal.{chosen, optimal_plans_are_optimal}
use Rattle.dm_parts.specs.declared.parts.Part.{Part}
use Rattle.dm_parts.specs.declared.parts.PartNode.{PartNode}
use Rattle.dm_parts.specs.declared.parts.PlanByParts.{PlanByParts}
use Rattle.dm_parts.specs.declared.shares.Share.{Share}
use Rattle.dm_parts.specs.Parts.{IsTruePart, IsTruePlanByParts, shares_of, task_beside}
use Rattle.dm_parts.specs.Shares.{AreApart}
use Rattle.dm_part_bounds.specs.OnePart.{all_terms, part_node, in_one_part}
use Rattle.dm_part_bounds.proofs.Low.{bounds_by_parts_hold}
use Rattle.dm_part_bounds.proofs.OnePart.{one_part_will_do}
use Rattle.dm_part_plans.specs.Inside.Chosen.{AreChosen}

abbrev part_of : Share → List PartNode → ℕ → Part
part_of share tree bound = record { share = share; tree = tree; bound = bound }

pub one_part_is_true : (task : Task) → IsTask task → (plan : Plan) → IsTruePlan task plan → (choices : List Decision) (cost : ℕ) →
    AreChosen task choices cost → (part : Part) → part.share ≡ all_terms task.net → part.tree ≡ map part_node plan.tree →
    part.bound ≡ plan.bound → (p : PlanByParts) → p.choices ≡ choices → p.cost ≡ cost → p.parts ≡ part ∷ [] → p.rest ≡ 0 →
    p.bound ≡ plan.bound → ((p.mark ≡ Optimal) ↔ (p.bound ≡ p.cost)) → IsTruePlanByParts task p
one_part_is_true task is plan true_plan choices cost made part s t b p e f g r h mark =
    let whole : IsTruePlanByParts task (in_one_part task.net plan) = one_part_will_do.plan task plan is true_plan in
    let same : part ≡ part_of (all_terms task.net) (map part_node plan.tree) plan.bound =
    ap (λ x. part_of x part.tree part.bound) s ∙ ap (λ x. part_of (all_terms task.net) x part.bound) t
    ∙ ap (λ x. part_of (all_terms task.net) (map part_node plan.tree) x) b in
    let parts : p.parts ≡ (in_one_part task.net plan).parts = g ∙ ap (λ x. x ∷ []) same in
    let bounds = ap (λ ps. sum_by (λ (q : Part). q.bound) ps) parts in
    let sum = whole.bound in
    record {
      choices = rw e made.some;
      differ = rw e made.differ;
      cost = rw (e, f) made.costs;
      parts = subst (All (IsTruePart task)) (sym parts) whole.parts;
      apart = subst (λ ps. AreApart (shares_of ps)) (sym parts) whole.apart;
      rest = subst (λ ps. CostsRelaxed (task_beside task (shares_of ps)) [] p.rest) (sym parts)
          (subst (λ c. CostsRelaxed (task_beside task (shares_of (in_one_part task.net plan).parts)) [] c) (sym r) whole.rest);
      bound = omega (arith, h, bounds, sum, r);
      mark = mark;
      size = subst (λ ps. sum_by (λ (q : Part). length q.tree) ps ≤ task.budget) (sym parts) whole.size;
    }

-- A true plan by parts that is no dearer than a plan, and whose bound is no lower, is Optimal where the budget makes the plan so.
pub enough_by_parts : (task : Task) → IsTask task → (plan : Plan) → IsTruePlan task plan → (p : PlanByParts) → IsTruePlanByParts task p →
    p.cost ≤ plan.cost → plan.bound ≤ p.bound → 2 ^ (length task.allowed + 1) ≤ task.budget + 1 → p.mark ≡ Optimal
enough_by_parts task is plan true_plan p true_parts dear low enough =
    let marked = optimal_plans_are_optimal.enough task plan is true_plan enough in
    let same = (optimal_plans_are_optimal.optimal task plan is true_plan marked).1 in
    let list = chosen task is p.choices true_parts.choices in
    let most : p.bound ≤ p.cost = bounds_by_parts_hold.plan task p p.choices p.cost is true_parts
    (record { decides = list.0; allowed = list.1; cost = true_parts.cost }) in
    true_parts.mark.1 (omega (arith, dear, low, same, most))

pub enough_made : {E : Type 0} (task : Task) → IsTask task → (plan : Plan) → IsTruePlan task plan → (r : Result PlanByParts E) →
    IfOk r (IsTruePlanByParts task) → IfOk r (λ p. p.cost ≤ plan.cost) → IfOk r (λ p. plan.bound ≤ p.bound) →
    2 ^ (length task.allowed + 1) ≤ task.budget + 1 → IfOk r (λ p. p.mark ≡ Optimal)
enough_made task is plan true_plan (Ok p) true_parts dear low enough = enough_by_parts task is plan true_plan p true_parts dear low enough
enough_made task is plan true_plan (Err error) true_parts dear low enough = tt
