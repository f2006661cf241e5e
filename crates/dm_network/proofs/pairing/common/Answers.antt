use Rattle.std.proofs.Common.{arith}
use Rattle.std.proofs.lemmas.Bool.{both_ways}
use Rattle.dm_network.proofs.TwoWay.{common_more, common_again, common_absent, common_all}
use Rattle.dm_network.proofs.pairing.common.Goals as goal
use Rattle.dm_network.proofs.pairing.common.Goals.{then-is_new+then-stands_near+in_ok-push, else-is_new, else-is_new-via-then-is_new+else-stands_near, else-is_new-via-else-is_new}

pub loop-p-preserved : goal.loop-p-preserved
loop-p-preserved c =
    elim c.if-is_new.branch [
      | then-is_new+then-stands_near+in_ok-push w ↦
          rw (w.pairs-is, w.in_ok-push.ensures.items)
          (common_more c.args.upward.now c.args.downward.now c.loop-p.p-index c.loop-p.pairs.items c.loop-p.invariant c.requires.upward c.loop-p-test.true
          (rw (← c.deref.ensures.value) (c.is_new.ensures.0 w.if-is_new.true))
          (w.stands_near.ensures.0 w.if-stands_near.true))
      | else-is_new w ↦
          rw w.pairs-is
          (elim w.else-is_new.branch [
            | else-is_new-via-then-is_new+else-stands_near v ↦
                common_absent c.args.upward.now c.args.downward.now c.loop-p.p-index c.loop-p.pairs.items c.loop-p.invariant
                (λ h. both_ways _ v.if-stands_near.false (v.stands_near.ensures.1 h))
            | else-is_new-via-else-is_new v ↦
                common_again c.args.upward.now c.args.downward.now c.loop-p.p-index c.loop-p.pairs.items c.loop-p.invariant
                (λ h. both_ways _ v.if-is_new.false (c.is_new.ensures.1 (rw c.deref.ensures.value h)))
          ])
    ]

pub returns-clause-common : goal.returns-clause-common
returns-clause-common c =
    common_all c.args.upward.now c.args.downward.now c.loop-p.p-index c.loop-p.pairs.items c.loop-p.invariant (omega arith)
