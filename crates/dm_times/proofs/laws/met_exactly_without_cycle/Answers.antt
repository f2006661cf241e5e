use Rattle.dm_times.proofs.Meeting.{met_exactly_without_cycle}
use Rattle.dm_times.proofs.laws.met_exactly_without_cycle.Goals as goal

pub returns : goal.returns
returns c = met_exactly_without_cycle
