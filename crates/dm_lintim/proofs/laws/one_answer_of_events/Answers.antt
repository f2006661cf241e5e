use Rattle.dm_lintim.proofs.LawLemmas.{events_one}
use Rattle.dm_lintim.proofs.laws.one_answer_of_events.Goals as goal

pub returns : goal.returns
returns c = events_one
