use Rattle.dm_lintim.proofs.LawLemmas.{ids_one}
use Rattle.dm_lintim.proofs.laws.one_answer_of_ids.Goals as goal

pub returns : goal.returns
returns c = ids_one
