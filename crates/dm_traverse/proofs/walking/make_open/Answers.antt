use Rattle.dm_traverse.proofs.Fronts.{begins_with, itself_in_front}
use Rattle.dm_traverse.proofs.walking.make_open.Goals as goal

pub returns-in-Ok-clause-path : goal.returns-in-Ok-clause-path
returns-in-Ok-clause-path g c = begins_with _ _ _ c.in-Ok.ensures.path

pub returns-clause-path : goal.returns-clause-path
returns-clause-path g c = itself_in_front _ _ c.in-Err.ensures.unchanged.0
