use Rattle.std.proofs.Common.{◌-◌}
use Rattle.dm_cert.proofs.Staged.{HasGrown}
use Rattle.dm_cert.proofs.plan_reading.grown.Given as goal

abbrev pub invariant-loop-taken : goal.invariant-loop-taken
invariant-loop-taken l = HasGrown l.count l.taken l.initial.lines l.lines l.growth.nodes.items l.growth.path.items l.growth.stage

abbrev pub decreases-loop-taken : goal.decreases-loop-taken
decreases-loop-taken l = l.count - l.taken
