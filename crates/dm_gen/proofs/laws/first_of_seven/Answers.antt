use Rattle.dm_gen.proofs.Sizing.{first_of_seven}
use Rattle.dm_gen.proofs.laws.first_of_seven.Goals as goal

pub returns : goal.returns
returns c = first_of_seven
