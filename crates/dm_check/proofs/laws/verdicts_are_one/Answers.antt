use Rattle.dm_check.proofs.ToldOnce as ToldOnce
use Rattle.dm_check.proofs.laws.verdicts_are_one.Goals as goal

pub returns : goal.returns
returns c = ToldOnce.verdicts_are_one
