use Rattle.std.proofs.Common.{◌+◌, ◌*◌, length}
use Rattle.dm_workers.proofs.rounds.+play.Given as goal

abbrev pub decreases-join+arg3 : goal.decreases-join+arg3
decreases-join+arg3 g l = 2 * length l.rest.now + 1

abbrev pub decreases-play_at_once : goal.decreases-play_at_once
decreases-play_at_once g l = 2 * length l.others.now
