use Rattle.std.proofs.Common.{arith}
use Rattle.dm_base.specs.declared.ids.EventId.{EventId}
use Rattle.dm_check_parts.proofs.Rising.{goes_on_rising, falls_there}
use Rattle.dm_check_parts.proofs.shares.do_arrivals_ascend.Goals as goal

pub returns-then-ids-k : goal.returns-then-ids-k
returns-then-ids-k c =
    falls_there (λ (e : EventId). e.0) c.args.ids.now c.loop-k.k _ _ c.loop-k.invariant.0 (omega (arith, c.loop-k-test.true)) c.if-ids-k.true

pub loop-k-preserved : goal.loop-k-preserved
loop-k-preserved c = (
  omega arith,
  goes_on_rising (λ (e : EventId). e.0) c.args.ids.now c.loop-k.k _ _ c.loop-k.invariant.0 (omega (arith, c.loop-k-test.true)) c.if-ids-k.false
      c.loop-k.invariant.1,
)
