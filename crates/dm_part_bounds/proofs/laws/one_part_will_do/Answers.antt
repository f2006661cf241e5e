use Rattle.dm_part_bounds.proofs.OnePart.{one_part_will_do}
use Rattle.dm_part_bounds.proofs.laws.one_part_will_do.Goals as goal

pub returns : goal.returns
returns c = one_part_will_do
