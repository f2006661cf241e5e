use Rattle.dm_check.proofs.Spelled.{good_is_spelled}
use Rattle.dm_check.proofs.laws.good_texts_are_spelled.Goals as goal

pub returns : goal.returns
returns c = good_is_spelled
