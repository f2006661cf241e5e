use Rattle.dm_lives.proofs.Cut.{fronts_answer}
use Rattle.dm_lives.proofs.laws.fronts_answer_feeds.Goals as goal

pub returns : goal.returns
returns c = fronts_answer
