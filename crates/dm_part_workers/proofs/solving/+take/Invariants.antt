use Rattle.std.proofs.Common.{◌+◌, ◌*◌, length}
use Rattle.dm_part_workers.proofs.solving.+take.Given as goal

abbrev pub decreases-join+arg3 : goal.decreases-join+arg3
decreases-join+arg3 g l = 2 * length l.rest.now + 1

abbrev pub decreases-work_all : goal.decreases-work_all
decreases-work_all g l = 2 * length l.others.now
