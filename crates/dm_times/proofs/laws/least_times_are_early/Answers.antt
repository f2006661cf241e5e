use Rattle.dm_times.proofs.Bounds.{least_times_are_early}
use Rattle.dm_times.proofs.laws.least_times_are_early.Goals as goal

pub returns : goal.returns
returns c = least_times_are_early
