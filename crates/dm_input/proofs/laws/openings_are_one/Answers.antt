use Rattle.dm_input.proofs.OneOpening.{opening_is_one}
use Rattle.dm_input.proofs.laws.openings_are_one.Goals as goal

pub returns : goal.returns
returns c = opening_is_one
