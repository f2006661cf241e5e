use Rattle.std.proofs.Common.{ℕ, ◌≡◌, length, arith, subst}
use Rattle.dm_check_times.specs.Inside.Agreeing.{InRow}
use Rattle.dm_check_times.specs.Inside.Pricing.{Reprices}
use Rattle.dm_check_times.specs.KeptCosts.{charges_of}
use Rattle.dm_check_times.proofs.Weighing.{row_none, row_more, weight_reprices}
use Rattle.dm_check_times.proofs.kept_cost.KeptCost.renew_row.Goals as goal

pub loop-a-init : goal.loop-a-init
loop-a-init c = record {
  kept = c.requires.kept;
  reprices = row_none c.args.net.now c.args.rows.now (charges_of c.args.net.now c.args.rows.now c.args.charges.now) c.args.row.now c.args.self.now;
}

pub loop-a-preserved : goal.loop-a-preserved
loop-a-preserved c = record {
  kept = c.renew.ensures.kept;
  reprices = row_more c.args.net.now c.args.rows.now (charges_of c.args.net.now c.args.rows.now c.args.charges.now) c.args.row.now c.loop-a.a-index c.args.self.now c.loop-a.self c.renew.new.self c.loop-a.invariant.reprices
      (weight_reprices c.args.net.now c.args.rows.now (charges_of c.args.net.now c.args.rows.now c.args.charges.now) _ c.loop-a.self c.renew.new.self c.renew.ensures.renews);
}

pub returns-clause-reprices : goal.returns-clause-reprices
returns-clause-reprices c =
    let over : c.loop-a.a-index ≡ length c.args.row.now = omega arith in
    subst (λ (n : ℕ). Reprices c.args.net.now c.args.rows.now (charges_of c.args.net.now c.args.rows.now c.args.charges.now) (InRow c.args.row.now n) c.args.self.now c.loop-a.self) over c.loop-a.invariant.reprices
