use Rattle.dm_crew.proofs.Desks.{copied, same_looked}
use Rattle.dm_crew.proofs.desk.Caller.snapshot.Goals as goal

pub returns-clause-same : goal.returns-clause-same
returns-clause-same g c = same_looked c.args.pass.now c.snapshot.new.pass c.snapshot.ensures.looked

pub returns-clause-copied : goal.returns-clause-copied
returns-clause-copied g c = copied c.args.self.now.plans c.args.pass.now c.snapshot.new.pass c.snapshot.result c.snapshot.ensures.looked c.snapshot.ensures.legal c.snapshot.ensures.number c.snapshot.ensures.rows c.snapshot.ensures.sized c.snapshot.ensures.no_cycle
