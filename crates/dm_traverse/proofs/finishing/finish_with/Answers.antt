use Rattle.std.proofs.Common.{◌≡◌, ◌≤◌, ℕ, List, subst, arith}
use Rattle.std.proofs.lemmas.Result.{IfOk-weaker}
use Rattle.dm_tree.specs.declared.forms.Node.{Node}
use Rattle.dm_tree.specs.declared.plans.Plan.{Plan}
use Rattle.dm_traverse.specs.Finish.{GoesOnFrom}
use Rattle.dm_traverse.proofs.finishing.finish_with.Goals as goal

pub returns-clause-cost : goal.returns-clause-cost
returns-clause-cost c =
    IfOk-weaker _ _ _
    (λ (p : Plan) (less : p.cost ≤ c.in_ok-standing.standing.best.cost). within less c.in_ok-standing.ensures.cost)
    c.finish_standing.ensures.cost
  where
    within : {a b d : ℕ} → a ≤ b → b ≡ d → a ≤ d
    within x y = omega (arith, x, y)

pub returns-clause-goes_on : goal.returns-clause-goes_on
returns-clause-goes_on c =
    IfOk-weaker _ _ _
    (λ (p : Plan) (on : GoesOnFrom c.in_ok-standing.standing.nodes.items p.tree).
    subst (λ (ns : List Node). GoesOnFrom ns p.tree) c.in_ok-standing.ensures.nodes on) c.finish_standing.ensures.goes_on
