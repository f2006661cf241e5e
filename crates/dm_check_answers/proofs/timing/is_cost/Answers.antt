use Rattle.std.proofs.Common.{◌∙◌}
use Rattle.dm_check_answers.proofs.Rows.{no_cost}
use Rattle.dm_check_answers.proofs.timing.is_cost.Goals as goal

pub returns-in-Err-clause-tells : goal.returns-in-Err-clause-tells
returns-in-Err-clause-tells c = λ s history n net_is at within are.
    no_cost s history n c.args.net.now c.settle.new.self.rows net_is (c.settle.ensures.rows ∙ are) c.reveal.ensures.network c.in-Err.ensures.cyclic c.args.cost
