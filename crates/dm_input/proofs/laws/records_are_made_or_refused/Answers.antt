use Rattle.dm_input.proofs.OneAnswer.{not_both}
use Rattle.dm_input.proofs.laws.records_are_made_or_refused.Goals as goal

pub returns : goal.returns
returns c = not_both
