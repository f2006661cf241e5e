use Rattle.dm_crew.proofs.Desks.{tells_length, same_looked}
use Rattle.dm_crew.proofs.desk.Caller.length.Goals as goal

pub returns-clause-same : goal.returns-clause-same
returns-clause-same g c = same_looked c.args.pass.now c.length.new.pass c.length.ensures.looked

pub returns-clause-tells : goal.returns-clause-tells
returns-clause-tells g c = tells_length c.args.self.now.plans c.args.pass.now c.length.new.pass c.length.result c.length.ensures.looked c.length.ensures.legal c.length.ensures.number
