use Rattle.std.proofs.Common.{arith}
use Rattle.std.proofs.lemmas.List.{get_or_default}
use Rattle.dm_traverse.proofs.Fronts.{along_to, along_all}
use Rattle.dm_traverse.proofs.moving.make_along.Goals as goal

pub returns-then-not-make-clause-along : goal.returns-then-not-make-clause-along
returns-then-not-make-clause-along c =
    along_to _ _ _ _ _ _ _ c.loop-i.i _ c.loop-i.invariant.rows c.loop-i-test.true (get_or_default _ _ _ _ c.loop-i-test.true) c.loop-i.invariant.path
    c.if-not-make.ensures.made

pub returns-clause-along : goal.returns-clause-along
returns-clause-along c = along_all _ _ _ _ _ c.loop-i.i (omega (arith, c.loop-i-test.false)) c.loop-i.invariant.path
