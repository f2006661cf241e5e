use Rattle.dm_follow.proofs.Fronts as Fronts
use Rattle.dm_follow.proofs.laws.fronts_are_followed.Goals as goal

pub returns : goal.returns
returns c = Fronts.fronts_are_followed
