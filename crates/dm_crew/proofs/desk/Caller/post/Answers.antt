use Rattle.dm_crew.proofs.Desks.{posts, same_posted}
use Rattle.dm_crew.proofs.desk.Caller.post.Goals as goal

pub returns-clause-same : goal.returns-clause-same
returns-clause-same g c = same_posted c.args.pass.now c.post.new.pass c.args.entry c.post.result c.post.ensures.entered c.post.ensures.looked

pub returns-clause-posts : goal.returns-clause-posts
returns-clause-posts g c = posts c.args.self.now.plans c.args.pass.now c.post.new.pass c.args.entry c.post.result c.post.ensures.entered c.post.ensures.legal c.post.ensures.looked c.post.ensures.number c.post.ensures.refused
