use Rattle.std.proofs.Common.{sym, subst, arith}
use Rattle.dm_tree.specs.Relaxed.{relaxed_cost_of}
use Rattle.dm_evaluate.specs.Evaluator.{times_of}
use Rattle.dm_parts.specs.declared.parts.Part.{Part}
use Rattle.dm_parts.specs.declared.shares.Share.{Share}
use Rattle.dm_parts.specs.Shares.{IsShare, within}
use Rattle.dm_part_plans.proofs.Together.{shares_more}
use Rattle.dm_part_plans.proofs.gathering.cost_of_shares.Goals as goal

pub cost_within-sum-requires-clause-share : goal.cost_within-sum-requires-clause-share
cost_within-sum-requires-clause-share c =
    subst (λ (p : Part). IsShare c.args.net.now p.share) (sym c.part-item.is)
    (c.requires.small.shares c.loop-part.part-index _ c.loop-part-test.true)

pub loop-part-preserved : goal.loop-part-preserved
loop-part-preserved c =
    let e = c.args.evaluator.now in
    let before = c.loop-part.invariant.low in
    let here = c.cost_within-sum.ensures.limit in
    record {
      sum = shares_more (λ (share : Share). relaxed_cost_of (within c.args.net.now share) e.rows e.path (times_of e) c.args.penalty)
          c.args.parts.now c.loop-part.part-index _ _ c.part-item.result _ c.loop-part-test.true c.part-item.is c.loop-part.invariant.sum
          c.cost_within-sum.ensures.cost;
      low = omega (arith, before, here);
    }
