use Rattle.dm_rows.proofs.Freeness.{free_where_nothing_refuses}
use Rattle.dm_rows.proofs.laws.free_where_nothing_refuses.Goals as goal

pub returns : goal.returns
returns c = free_where_nothing_refuses
