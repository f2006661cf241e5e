use Rattle.std.proofs.Common.{sym, ◌∙◌}
use Rattle.dm_check.proofs.told_items.keep_plan.Goals as goal

pub returns-in-Ok : goal.returns-in-Ok
returns-in-Ok c = λ before said given same past. c.add_plan.ensures before said given (same ∙ sym c.in-Ok.ensures) past
