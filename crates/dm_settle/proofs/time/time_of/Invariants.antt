use Rattle.dm_settle.specs.Constraints.{graph_given}
use Rattle.dm_settle.specs.Inside.Sweep.{HasJoined}
use Rattle.dm_settle.proofs.time.time_of.Given as goal

abbrev pub invariant-loop-a : goal.invariant-loop-a
invariant-loop-a l = HasJoined (graph_given l.net l.constraints) l.times l.event l.into l.a-index l.time
