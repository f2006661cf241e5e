use Rattle.std.proofs.Common.{List, subst}
use Rattle.dm_rows.specs.declared.messages.Decision.{Decision}
use Rattle.dm_check_rows.specs.Claims.{Tells}
use Rattle.dm_check_parts.specs.Inside.Grounds.{task_of}
use Rattle.dm_check_parts.specs.Inside.Nodes.{IsTruePartNode}
use Rattle.dm_check_parts.proofs.Judged.{cycle_told}
use Rattle.dm_check_parts.proofs.grounds.Grounds.is_true.Goals as goal

pub returns-in-Ok-clause-tells : goal.returns-in-Ok-clause-tells
returns-in-Ok-clause-tells c =
    subst (λ (p : List Decision). Tells (IsTruePartNode (task_of c.args.self.now) c.args.share.now p c.args.node) c.is_true_solved.result) c.solve.ensures.path c.is_true_solved.ensures

pub returns-in-Err-clause-tells : goal.returns-in-Err-clause-tells
returns-in-Err-clause-tells c =
    let g = c.args.self.now in
    cycle_told g.net.now g.rows.now g.penalty g.budget c.args.share.now c.args.problem.now.path c.reveal.ensures.network c.in-Err.ensures.cyclic c.args.node c.is_cycle.result c.is_cycle.ensures
