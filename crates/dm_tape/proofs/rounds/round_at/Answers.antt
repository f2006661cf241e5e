use Rattle.std.proofs.Common.{arith}
use Rattle.dm_tape.proofs.Steps.{parts_none, parts_stop, parts_go, parts_all}
use Rattle.dm_tape.proofs.rounds.round_at.Goals as goal

pub loop-place-init : goal.loop-place-init
loop-place-init c = parts_none _ _ _ c.new-round.ensures.items

pub returns-in-Err : goal.returns-in-Err
returns-in-Err c = parts_stop _ _ _ _ _ _ c.loop-place.invariant c.loop-place-test.true c.in-Err.ensures

pub loop-place-preserved : goal.loop-place-preserved
loop-place-preserved c = parts_go _ _ _ _ _ _ _ c.in-Ok.items c.loop-place.invariant c.loop-place-test.true c.in-Ok.ensures c.in-Ok-push.ensures.items

pub returns : goal.returns
returns c = parts_all _ _ _ _ _ c.loop-place.invariant (omega arith)
