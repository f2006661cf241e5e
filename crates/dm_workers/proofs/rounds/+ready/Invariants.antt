use Rattle.std.proofs.Common.{◌+◌, ◌*◌}
use Rattle.dm_workers.proofs.rounds.+ready.Given as goal

abbrev pub decreases-others : goal.decreases-others
decreases-others g l = 2 * l.last + 1

abbrev pub decreases-evaluators_of : goal.decreases-evaluators_of
decreases-evaluators_of g l = 2 * l.count
