use Rattle.std.proofs.Common.{map}
use Rattle.dm_rounds.specs.Inside.Jobs.{BeginAll}
use Rattle.dm_rounds.proofs.beginning.begin.Given as goal

abbrev pub invariant-loop-feed : goal.invariant-loop-feed
invariant-loop-feed g l = BeginAll l.yielded (map (λ b. b.value) l.jobs.items)
