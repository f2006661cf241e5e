use Rattle.std.proofs.Common.{arith}
use Rattle.dm_check_times.specs.KeptCosts.{charges_of}
use Rattle.dm_check_times.proofs.Weighing.{all_priced, below_none, below_more, weight_reprices}
use Rattle.dm_check_times.proofs.kept_cost.KeptCost.renew_weights.Goals as goal

pub loop-a-init : goal.loop-a-init
loop-a-init c = record {
  kept = c.requires.kept;
  reprices = below_none c.args.net.now c.args.rows.now (charges_of c.args.net.now c.args.rows.now c.args.charges.now) c.args.self.now;
}

pub loop-a-preserved : goal.loop-a-preserved
loop-a-preserved c = record {
  kept = c.renew.ensures.kept;
  reprices = below_more c.args.net.now c.args.rows.now (charges_of c.args.net.now c.args.rows.now c.args.charges.now) c.loop-a.a c.args.self.now c.loop-a.self c.renew.new.self c.loop-a.invariant.reprices
      (weight_reprices c.args.net.now c.args.rows.now (charges_of c.args.net.now c.args.rows.now c.args.charges.now) _ c.loop-a.self c.renew.new.self c.renew.ensures.renews);
}

pub returns-clause-times : goal.returns-clause-times
returns-clause-times c = c.loop-a.invariant.reprices.times

pub returns-clause-priced : goal.returns-clause-priced
returns-clause-priced c =
    all_priced c.args.net.now c.args.rows.now (charges_of c.args.net.now c.args.rows.now c.args.charges.now) c.loop-a.a c.args.self.now c.loop-a.self
    (omega (arith, c.activities-a-end.ensures.count)) c.requires.late c.loop-a.invariant.reprices
