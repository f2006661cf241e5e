use Rattle.std.proofs.Common.{sym, subst, refl, eqb}
use Rattle.dm_tree.specs.declared.forms.Node.{Node}
use Rattle.dm_check_rows.specs.Claims.{Tells}
use Rattle.dm_check_plans.specs.RelaxedProblems.{times_of}
use Rattle.dm_check_parts.specs.Inside.Grounds.{task_of}
use Rattle.dm_check_parts.specs.Inside.Nodes.{IsTruePartNode}
use Rattle.dm_check_parts.proofs.Judged.{branch_told, leaf_told}
use Rattle.dm_check_parts.proofs.grounds.Grounds.is_true_solved.Goals as goal

pub returns-in-Inner : goal.returns-in-Inner
returns-in-Inner c =
    let g = c.args.self.now in
    subst (λ (n : Node). Tells (IsTruePartNode (task_of g) c.args.share.now c.args.problem.now.path n) c.is_open.result) (sym c.in-Inner.is)
    (branch_told g.net.now g.rows.now g.penalty g.budget c.args.share.now c.args.problem.now.path c.requires.solved.no_cycle c.in-Inner.choice c.is_open.result c.is_open.ensures)

pub returns-in-Bound : goal.returns-in-Bound
returns-in-Bound c =
    let g = c.args.self.now in
    subst (λ (n : Node). Tells (IsTruePartNode (task_of g) c.args.share.now c.args.problem.now.path n) (eqb c.cost_within.result c.in-Bound.cost)) (sym c.in-Bound.is)
    (leaf_told g.net.now g.rows.now g.penalty g.budget c.args.share.now c.args.problem.now.path (times_of c.args.problem.now) c.requires.solved.least
    c.cost_within.result c.in-Bound.cost (eqb c.cost_within.result c.in-Bound.cost) c.cost_within.ensures.cost refl)
