use Rattle.dm_lives.proofs.Runs.{lives_are_a_run}
use Rattle.dm_lives.proofs.laws.lives_are_a_run.Goals as goal

pub returns : goal.returns
returns c = lives_are_a_run
