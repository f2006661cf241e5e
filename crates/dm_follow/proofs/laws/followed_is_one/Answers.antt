use Rattle.dm_follow.proofs.Fronts as Fronts
use Rattle.dm_follow.proofs.laws.followed_is_one.Goals as goal

pub returns : goal.returns
returns c = Fronts.followed_is_one
