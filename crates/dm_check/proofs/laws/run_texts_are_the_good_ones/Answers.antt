use Rattle.dm_check.proofs.Truth.BothWays as BothWays
use Rattle.dm_check.proofs.laws.run_texts_are_the_good_ones.Goals as goal

pub returns : goal.returns
returns c = BothWays.run_texts_are_the_good_ones
