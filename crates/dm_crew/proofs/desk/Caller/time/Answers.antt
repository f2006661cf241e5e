use Rattle.dm_crew.proofs.Desks.{tells_time, same_looked}
use Rattle.dm_crew.proofs.desk.Caller.time.Goals as goal

pub returns-clause-same : goal.returns-clause-same
returns-clause-same g c = same_looked c.args.pass.now c.time.new.pass c.time.ensures.looked

pub returns-clause-tells : goal.returns-clause-tells
returns-clause-tells g c = tells_time c.args.self.now.plans c.args.pass.now c.time.new.pass c.args.event c.time.result c.time.ensures.looked c.time.ensures.legal c.time.ensures.number c.time.ensures.time c.time.ensures.refused_at c.time.ensures.refused
