use Rattle.dm_words.proofs.command.read_gen.Goals as goal

pub returns-in_default-penalty_of : goal.returns-in_default-penalty_of
returns-in_default-penalty_of c = λ asked asks. c.in_default-penalty_of.ensures _ asks.penalty
