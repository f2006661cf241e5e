use Rattle.dm_lintim.proofs.WordLemmas.{columns_one}
use Rattle.dm_lintim.proofs.laws.one_answer_of_columns.Goals as goal

pub returns : goal.returns
returns c = columns_one
