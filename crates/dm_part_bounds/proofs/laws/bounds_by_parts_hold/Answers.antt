use Rattle.dm_part_bounds.proofs.Low.{bounds_by_parts_hold}
use Rattle.dm_part_bounds.proofs.laws.bounds_by_parts_hold.Goals as goal

pub returns : goal.returns
returns c = bounds_by_parts_hold
