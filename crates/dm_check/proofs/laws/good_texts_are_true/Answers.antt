use Rattle.dm_check.proofs.Truth.ToldRuns as ToldRuns
use Rattle.dm_check.proofs.laws.good_texts_are_true.Goals as goal

pub returns : goal.returns
returns c = ToldRuns.good_texts_are_true
