use Rattle.std.proofs.Common.{◌∙◌, sym}
use Rattle.dm_team.proofs.Guiding.{step_to, step_out, along_end}
use Rattle.dm_team.proofs.hints.hint_at.Goals as goal

pub loop-i-preserved : goal.loop-i-preserved
loop-i-preserved c = step_to _ _ _ _ _ _ _ c.loop-i-test.true c.in_ok-node.ensures.some c.loop-i.invariant

pub returns-in_err-node : goal.returns-in_err-node
returns-in_err-node c = c.from_residual.ensures ∙ step_out _ _ _ _ _ _ c.loop-i-test.true c.in_err-node.ensures.none c.loop-i.invariant

pub returns : goal.returns
returns c = c.hint_of.ensures ∙ (sym (along_end _ _ _ _ c.loop-i-test.false) ∙ c.loop-i.invariant)
