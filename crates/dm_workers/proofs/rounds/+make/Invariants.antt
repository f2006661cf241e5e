use Rattle.std.proofs.Common.{◌+◌, ◌*◌}
use Rattle.dm_workers.proofs.rounds.+make.Given as goal

abbrev pub decreases-join+arg3 : goal.decreases-join+arg3
decreases-join+arg3 g l = 2 * l.last + 1

abbrev pub decreases-searchers_of : goal.decreases-searchers_of
decreases-searchers_of g l = 2 * l.count
