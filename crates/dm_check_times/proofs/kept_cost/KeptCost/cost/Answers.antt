use Rattle.std.proofs.Common.{rules}
use Rattle.dm_check_times.proofs.Kept.{kept_cost}
use Rattle.dm_check_times.proofs.kept_cost.KeptCost.cost.Goals as goal

pub returns : goal.returns
returns c = λ rows charges priced.
    kept_cost c.args.net.now rows charges c.args.self.now c.requires.kept priced c.args.penalty _ (search rules)
