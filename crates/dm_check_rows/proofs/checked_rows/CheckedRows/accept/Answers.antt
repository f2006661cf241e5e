use Rattle.std.proofs.Common.{◌∙◌}
use Rattle.dm_check_rows.proofs.Acceptance.{refused_tells, refused_cycle}
use Rattle.dm_check_rows.proofs.checked_rows.CheckedRows.accept.Goals as goal

pub returns-in-Err-clause-tells : goal.returns-in-Err-clause-tells
returns-in-Err-clause-tells c =
    refused_tells c.args.net.now c.args.self.now.rows c.enter.new.self.rows c.args.entries c.args.message.now c.in-Err.refusal c.refused.result c.in-Err.ensures.refused c.refused.ensures.no c.refused.ensures.cause

pub returns-in-Err-settle_times-clause-tells : goal.returns-in-Err-settle_times-clause-tells
returns-in-Err-settle_times-clause-tells c =
    refused_cycle c.args.net.now c.args.self.now.rows c.settle_times.new.self.rows c.args.entries c.args.message.now (c.settle_times.ensures.rows ∙ c.in-Ok.ensures.after) c.in-Ok.ensures.passes (c.is_now.ensures.is_other c.if-is_now.false) c.in-Err-settle_times.ensures.cyclic
