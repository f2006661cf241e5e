use Rattle.dm_lintim.proofs.SplitLemmas.{records_are_split}
use Rattle.dm_lintim.proofs.laws.csv_splits_plainly.Goals as goal

pub returns : goal.returns
returns c = records_are_split
