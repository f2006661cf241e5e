use Rattle.dm_lives.proofs.Complete.{rounds_answer}
use Rattle.dm_lives.proofs.laws.rounds_answer_feeds.Goals as goal

pub returns : goal.returns
returns g c = rounds_answer g.T.Growing.given
