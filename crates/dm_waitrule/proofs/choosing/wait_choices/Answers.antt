use Rattle.std.proofs.lemmas.Result.{IfOk-weaker}
use Rattle.dm_waitrule.proofs.Bounded.{are_choices, no_cycle_with}
use Rattle.dm_waitrule.proofs.choosing.wait_choices.Goals as goal

pub returns-clause-choices : goal.returns-clause-choices
returns-clause-choices c =
    IfOk-weaker c.differences_to.result _ _
    (λ choices is. are_choices c.args.net.now c.args.rows.now c.args.rule c.in_ok-ruled.ruled.rows c.rows.result.now c.in_ok-ruled.ensures.ruled c.rows.ensures choices.items is)
    c.differences_to.ensures

pub returns-clause-no_cycle : goal.returns-clause-no_cycle
returns-clause-no_cycle c =
    IfOk-weaker c.differences_to.result _ _
    (λ choices is. no_cycle_with c.args.net.now c.reveal.ensures.network c.args.rows.now c.requires.sized c.requires.no_cycle c.args.rule choices.items
    (are_choices c.args.net.now c.args.rows.now c.args.rule c.in_ok-ruled.ruled.rows c.rows.result.now c.in_ok-ruled.ensures.ruled c.rows.ensures choices.items is))
    c.differences_to.ensures
