use Rattle.dm_check_times.specs.Inside.Pricing.{HasFollowed}
use Rattle.dm_check_times.specs.KeptCosts.{IsKeptCostOf, IsPricedFor, charges_of}
use Rattle.dm_check_times.proofs.kept_cost.KeptCost.follow.Given as goal

abbrev pub invariant-loop-i : goal.invariant-loop-i
invariant-loop-i l = record {
  kept : IsKeptCostOf l.net l.self;
  priced : IsPricedFor l.net l.rows (charges_of l.net l.rows l.charges) l.self;
  followed : HasFollowed l.times l.moved l.i-index l.self.times;
}
