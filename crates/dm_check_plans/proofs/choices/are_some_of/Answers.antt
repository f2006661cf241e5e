use Rattle.std.proofs.Common.{refl, arith}
use Rattle.std.proofs.lemmas.List.{get_or_default}
use Rattle.dm_check_plans.proofs.Chosen.{some_begin, some_step, some_told}
use Rattle.dm_check_plans.proofs.choices.are_some_of.Goals as goal

pub loop-choice-init : goal.loop-choice-init
loop-choice-init c = some_begin c.args.allowed.now c.args.decisions.now

pub loop-choice-preserved : goal.loop-choice-preserved
loop-choice-preserved c =
    some_step c.args.allowed.now c.args.decisions.now c.loop-choice.choice-index c.loop-choice.next _ c.loop-choice-test.true c.loop-choice.invariant (get_or_default c.args.allowed.now c.loop-choice.choice-index _ _ c.loop-choice-test.true) c.next_after-next.result c.next_after-next.ensures

pub returns : goal.returns
returns c =
    some_told c.args.allowed.now c.args.decisions.now c.loop-choice.choice-index c.loop-choice.next _ refl (omega arith) c.loop-choice.invariant
