use Rattle.dm_follow.proofs.Tails as Tails
use Rattle.dm_follow.proofs.laws.tails_are_one.Goals as goal

pub returns : goal.returns
returns c = Tails.tails_are_one
