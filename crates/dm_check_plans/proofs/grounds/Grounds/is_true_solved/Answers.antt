use Rattle.std.proofs.Common.{sym, subst}
use Rattle.dm_tree.specs.declared.forms.Node.{Node}
use Rattle.dm_tree.specs.Plans.{whole_task}
use Rattle.dm_check_rows.specs.Claims.{Tells}
use Rattle.dm_check_plans.specs.Inside.Visiting.{IsTrueNode}
use Rattle.dm_check_plans.proofs.grounds.Grounds.is_true_solved.Goals as goal

pub returns-in-Inner : goal.returns-in-Inner
returns-in-Inner c = λ budget.
    subst (λ (n : Node). Tells (IsTrueNode (whole_task c.args.self.now.net.now c.args.self.now.rows.now c.args.self.now.penalty budget) c.args.self.now.plan c.args.problem.now.path n) c.is_true_inner.result)
    (sym c.in-Inner.is) (c.is_true_inner.ensures budget)

pub returns-in-Bound : goal.returns-in-Bound
returns-in-Bound c = λ budget.
    subst (λ (n : Node). Tells (IsTrueNode (whole_task c.args.self.now.net.now c.args.self.now.rows.now c.args.self.now.penalty budget) c.args.self.now.plan c.args.problem.now.path n) c.is_true_bound.result)
    (sym c.in-Bound.is) (c.is_true_bound.ensures budget)

pub returns-in-Open : goal.returns-in-Open
returns-in-Open c = λ budget.
    subst (λ (n : Node). Tells (IsTrueNode (whole_task c.args.self.now.net.now c.args.self.now.rows.now c.args.self.now.penalty budget) c.args.self.now.plan c.args.problem.now.path n) c.is_true_open.result)
    (sym c.in-Open.is) (c.is_true_open.ensures budget)
