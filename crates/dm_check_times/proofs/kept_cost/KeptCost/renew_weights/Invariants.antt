use Rattle.dm_check_times.specs.Inside.Agreeing.{Below}
use Rattle.dm_check_times.specs.Inside.Pricing.{Reprices}
use Rattle.dm_check_times.specs.KeptCosts.{IsKeptCostOf, charges_of}
use Rattle.dm_check_times.proofs.kept_cost.KeptCost.renew_weights.Given as goal

abbrev pub invariant-loop-a : goal.invariant-loop-a
invariant-loop-a l = record {
  kept : IsKeptCostOf l.net l.self;
  reprices : Reprices l.net l.rows (charges_of l.net l.rows l.charges) (Below l.a) l.initial.self l.self;
}
