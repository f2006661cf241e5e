use Rattle.std.proofs.Common.{◌+◌, ◌*◌}
use Rattle.dm_find.proofs.making.+ready.Given as goal

abbrev pub decreases-have_made : goal.decreases-have_made
decreases-have_made g l = 2 * l.others + 1

abbrev pub decreases-evaluators_of : goal.decreases-evaluators_of
decreases-evaluators_of g l = 2 * l.threads
