use Rattle.dm_words.proofs.serve.round_of.Goals as goal

pub returns-in_default : goal.returns-in_default
returns-in_default c = λ n is. c.in_default.ensures is.value is.given
