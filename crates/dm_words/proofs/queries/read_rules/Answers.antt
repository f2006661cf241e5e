use Rattle.dm_words.proofs.queries.read_rules.Goals as goal

pub returns-in_default-workers_of : goal.returns-in_default-workers_of
returns-in_default-workers_of c = λ rules asks. c.in_default-workers_of.ensures _ asks.workers

pub returns-in_default-has_flag : goal.returns-in_default-has_flag
returns-in_default-has_flag c = λ rules asks. c.in_default-has_flag.ensures _ asks.solve
