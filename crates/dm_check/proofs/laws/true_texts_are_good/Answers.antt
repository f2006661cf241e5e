use Rattle.dm_check.proofs.Truth.WholeRuns as WholeRuns
use Rattle.dm_check.proofs.laws.true_texts_are_good.Goals as goal

pub returns : goal.returns
returns c = WholeRuns.true_texts_are_good
