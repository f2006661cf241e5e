use Rattle.dm_relax.proofs.Gathering.{relaxed_from}
use Rattle.dm_relax.proofs.relaxing.relax.Goals as goal

pub returns-clause-relaxed : goal.returns-clause-relaxed
returns-clause-relaxed c =
    let r = c.in_ok-relaxation.relaxation in
    let is = c.in_ok-relaxation.ensures in
    relaxed_from c.args.net.now c.args.rows.now c.args.path.now r.set c.args.penalty c.in-Ok.times c.cost_charging-cost.result c.in_ok-violated.violated
    r.net.now r.rows.now r.path.now is.net is.rows is.path r.is_set c.in-Ok.ensures.least c.cost_charging-cost.ensures.cost c.in_ok-violated.ensures
