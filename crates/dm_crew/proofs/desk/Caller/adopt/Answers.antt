use Rattle.dm_tree.specs.Plans.{chosen}
use Rattle.dm_server.specs.Answers.{adopts}
use Rattle.dm_crew.proofs.Desks.{adopts_plan, same_posted, adoptable}
use Rattle.dm_crew.proofs.desk.Caller.adopt.Goals as goal

pub adopt-requires-clause-plan : goal.adopt-requires-clause-plan
adopt-requires-clause-plan g c = adoptable c.args.self.now.plans c.args.pass.now (chosen c.args.entry c.args.choices.now) c.requires.plan

pub returns-clause-same : goal.returns-clause-same
returns-clause-same g c = same_posted c.args.pass.now c.adopt.new.pass (adopts (chosen c.args.entry c.args.choices.now) c.args.feed c.args.line) c.adopt.result c.adopt.ensures.entered c.adopt.ensures.looked

pub returns-clause-adopts : goal.returns-clause-adopts
returns-clause-adopts g c = adopts_plan c.args.self.now.plans c.args.pass.now c.adopt.new.pass (chosen c.args.entry c.args.choices.now) c.args.feed c.args.line c.adopt.result c.adopt.ensures.entered c.adopt.ensures.legal c.adopt.ensures.number c.adopt.ensures.looked c.adopt.ensures.refused
