use Rattle.std.proofs.Common.{refl}
use Rattle.dm_check_rows.proofs.Telling.{cost_told}
use Rattle.dm_check_rows.proofs.costs.is_cost_of.Goals as goal

pub cost_of-requires-clause-as_many : goal.cost_of-requires-clause-as_many
cost_of-requires-clause-as_many c = c.requires.least.meets.size

pub returns : goal.returns
returns c = cost_told c.args.net.now c.args.rows.now c.args.times.now c.args.penalty c.args.cost c.cost_of.result _ refl c.cost_of.ensures c.requires.least
