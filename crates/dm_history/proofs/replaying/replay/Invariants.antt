use Rattle.dm_history.specs.Inside.Entering.{IsReplayedTo}
use Rattle.dm_history.proofs.replaying.replay.Given as goal

abbrev pub invariant-loop-place : goal.invariant-loop-place
invariant-loop-place l = IsReplayedTo l.net l.start l.entries l.place l.rows l.known
