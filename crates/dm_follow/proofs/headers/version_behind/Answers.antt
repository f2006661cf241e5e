use Rattle.dm_follow.proofs.HeaderSteps.{version_steps, version_stops}
use Rattle.dm_follow.proofs.headers.version_behind.Goals as goal

pub returns-in-Some : goal.returns-in-Some
returns-in-Some c = λ penalty. version_steps penalty c.in-Some._version c.args.line.now c.in-Some.ensures

pub returns-in-None : goal.returns-in-None
returns-in-None c = λ penalty. version_stops penalty c.args.line.now c.in-None.ensures
