use Rattle.dm_server.specs.Answers.{carries}
use Rattle.dm_crew.proofs.Desks.{carries_plan, same_carried}
use Rattle.dm_crew.proofs.desk.Caller.carry.Goals as goal

pub returns-clause-same : goal.returns-clause-same
returns-clause-same g c =
    same_carried c.args.pass.now c.carry.new.pass (λ base history. carries base history c.args.choices.now c.args.feed c.args.line) c.carry.result c.carry.ensures.entered c.carry.ensures.looked

pub returns-clause-carries : goal.returns-clause-carries
returns-clause-carries g c =
    carries_plan c.args.self.now.plans c.args.pass.now c.carry.new.pass c.args.choices.now c.args.feed c.args.line c.carry.result c.carry.ensures.entered c.carry.ensures.legal c.carry.ensures.looked
    c.carry.ensures.here c.carry.ensures.refused
