use Rattle.dm_lintim.proofs.DigitLemmas.{usual}
use Rattle.dm_lintim.proofs.digits.usual_number.Goals as goal

pub returns-clause-value : goal.returns-clause-value
returns-clause-value c = usual c.args.field.now c.trim_front.result.now c.number_of_few.result c.trim_front.ensures c.number_of_few.ensures.value
