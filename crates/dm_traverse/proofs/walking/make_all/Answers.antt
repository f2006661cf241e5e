use Rattle.std.proofs.Common.{◌∙◌}
use Rattle.std.proofs.lemmas.List.{get_or_default}
use Rattle.dm_traverse.proofs.Fronts.{begins_with, made_list, made_cycle}
use Rattle.dm_traverse.proofs.walking.make_all.Goals as goal

pub decide_with-requires-clause-list : goal.decide_with-requires-clause-list
decide_with-requires-clause-list c =
    rw c.loop-i.invariant.rows
    (made_list _ c.reveal.ensures.network _ c.requires.evaluator.sized _ _ c.requires.list _ _ _ c.loop-i-test.true c.loop-i.invariant.path
    (get_or_default _ _ _ _ c.loop-i-test.true))

pub returns-in-Err-clause-front : goal.returns-in-Err-clause-front
returns-in-Err-clause-front c = begins_with _ _ _ (c.in-Err.ensures.unchanged ∙ c.loop-i.invariant.path)

pub returns-in-Err-clause-cycle : goal.returns-in-Err-clause-cycle
returns-in-Err-clause-cycle c =
    made_cycle _ c.reveal.ensures.network _ c.requires.evaluator.sized _ _ c.requires.list _ _ _ c.loop-i-test.true c.loop-i.invariant.path
    (get_or_default _ _ _ _ c.loop-i-test.true) (rw c.loop-i.invariant.rows at c.in-Err.ensures.cycle)

pub returns-clause-front : goal.returns-clause-front
returns-clause-front c = begins_with _ _ _ c.loop-i.invariant.path
