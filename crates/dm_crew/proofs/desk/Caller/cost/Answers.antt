use Rattle.dm_crew.proofs.Desks.{tells_cost, same_looked}
use Rattle.dm_crew.proofs.desk.Caller.cost.Goals as goal

pub returns-clause-same : goal.returns-clause-same
returns-clause-same g c = same_looked c.args.pass.now c.cost.new.pass c.cost.ensures.looked

pub returns-clause-tells : goal.returns-clause-tells
returns-clause-tells g c = tells_cost c.args.self.now.plans c.args.pass.now c.cost.new.pass c.cost.result.0 c.cost.result.1 c.cost.ensures.looked c.cost.ensures.legal c.cost.ensures.number c.cost.ensures.cost
