use Rattle.dm_propagate.proofs.FewRows.{two_rows}
use Rattle.dm_propagate.proofs.laws.delay_that_moves_nothing_reads_two_rows.Goals as goal

pub returns : goal.returns
returns c = λ net rows i d first last times few. two_rows net rows i d times first last few
