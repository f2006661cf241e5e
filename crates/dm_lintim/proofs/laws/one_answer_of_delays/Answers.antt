use Rattle.dm_lintim.proofs.LawLemmas.{delays_one}
use Rattle.dm_lintim.proofs.laws.one_answer_of_delays.Goals as goal

pub returns : goal.returns
returns c = delays_one
