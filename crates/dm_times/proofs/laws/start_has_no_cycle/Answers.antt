use Rattle.dm_times.proofs.Meeting.{starts_have_no_cycle}
use Rattle.dm_times.proofs.laws.start_has_no_cycle.Goals as goal

pub returns : goal.returns
returns c = starts_have_no_cycle
