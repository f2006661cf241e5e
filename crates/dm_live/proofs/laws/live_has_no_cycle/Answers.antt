use Rattle.dm_live.proofs.Resting.{live_has_no_cycle}
use Rattle.dm_live.proofs.laws.live_has_no_cycle.Goals as goal

pub returns : goal.returns
returns c = live_has_no_cycle
