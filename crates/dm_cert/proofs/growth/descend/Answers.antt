use Rattle.std.proofs.Common.{sym}
use Rattle.dm_cert.proofs.Grown.{path_step, below_step, grown_step, broken_second}
use Rattle.dm_cert.proofs.growth.descend.Goals as goal

pub returns-then-not-is_first : goal.returns-then-not-is_first
returns-then-not-is_first c = λ read l below grown.
    broken_second read _ _ _ _ l _ (sym c.if-not-is_first.ensures)
    (below_step l _ _ _ _ _ c.loop-decision-test.true below c.loop-decision.invariant.path) (c.loop-decision.invariant.grown read l below grown)

pub loop-decision-preserved : goal.loop-decision-preserved
loop-decision-preserved c = record {
  path = path_step _ _ _ _ _ _ c.loop-decision-test.true c.loop-decision.invariant.path c.in_ok-push-2.ensures.items;
  grown = λ read l below grown.
      grown_step read l _ _ _ _ _ _ _ c.if-not-is_first.ensures
      (below_step l _ _ _ _ _ c.loop-decision-test.true below c.loop-decision.invariant.path)
      c.in_ok-push.ensures.items c.choice.ensures c.in_ok-push-2.ensures.items
      (c.loop-decision.invariant.grown read l below grown);
}
