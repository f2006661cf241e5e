use Rattle.dm_tape.proofs.OwnTexts.{rounds_have_own_texts}
use Rattle.dm_tape.proofs.laws.rounds_have_own_texts.Goals as goal

pub returns : goal.returns
returns c = rounds_have_own_texts
