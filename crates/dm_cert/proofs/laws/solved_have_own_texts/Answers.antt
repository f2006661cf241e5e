use Rattle.dm_cert.proofs.SpelledSolved as SpelledSolved
use Rattle.dm_cert.proofs.laws.solved_have_own_texts.Goals as goal

pub returns : goal.returns
returns c = SpelledSolved.solved_have_own_texts
