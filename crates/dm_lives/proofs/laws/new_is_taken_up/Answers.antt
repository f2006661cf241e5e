use Rattle.dm_lives.proofs.New.{new_taken_up}
use Rattle.dm_lives.proofs.laws.new_is_taken_up.Goals as goal

pub returns : goal.returns
returns g c = new_taken_up g.S.Store
