use Rattle.std.proofs.Common.{length, map}
use Rattle.dm_restore.proofs.ReadRounds.{HasRead}
use Rattle.dm_restore.proofs.rounds.read_logs.Given as goal

abbrev pub invariant-loop-content : goal.invariant-loop-content
invariant-loop-content l = HasRead l.feeds l.blocks l.rest (map (λ log. log.items) l.logs.items) l.number

abbrev pub decreases-loop-content : goal.decreases-loop-content
decreases-loop-content l = length l.rest
