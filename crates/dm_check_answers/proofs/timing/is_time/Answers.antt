use Rattle.std.proofs.Common.{◌∙◌}
use Rattle.dm_check_answers.proofs.Rows.{no_time}
use Rattle.dm_check_answers.proofs.timing.is_time.Goals as goal

pub returns-in-Err-clause-tells : goal.returns-in-Err-clause-tells
returns-in-Err-clause-tells c = λ s history n net_is within are.
    no_time s history n c.args.net.now c.settle_times.new.self.rows net_is (c.settle_times.ensures.rows ∙ are) c.reveal.ensures.network c.in-Err.ensures.cyclic c.args.event c.args.time
