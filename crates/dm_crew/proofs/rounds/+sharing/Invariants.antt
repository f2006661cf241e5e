use Rattle.std.proofs.Common.{◌+◌, ◌*◌}
use Rattle.dm_crew.proofs.rounds.+sharing.Given as goal

abbrev pub decreases-Crew::work_all : goal.decreases-Crew::work_all
decreases-Crew::work_all g l = 2 * l.threads

abbrev pub decreases-work_rest : goal.decreases-work_rest
decreases-work_rest g l = 2 * l.others + 1
