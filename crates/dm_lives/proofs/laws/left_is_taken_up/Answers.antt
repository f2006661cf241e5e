use Rattle.dm_lives.proofs.Again.{taken_up_again}
use Rattle.dm_lives.proofs.laws.left_is_taken_up.Goals as goal

pub returns : goal.returns
returns g c = taken_up_again g.S.Store
