use Rattle.dm_words.proofs.queries.read_window.Goals as goal

pub returns-in_default-at_of : goal.returns-in_default-at_of
returns-in_default-at_of c = λ window asks. c.in_default-at_of.ensures _ asks.at

pub returns-in_default-held_of : goal.returns-in_default-held_of
returns-in_default-held_of c = λ window asks. c.in_default-held_of.ensures _ asks.held

pub returns-in_default-minimal_of : goal.returns-in_default-minimal_of
returns-in_default-minimal_of c = λ window asks. c.in_default-minimal_of.ensures _ asks.minimal

pub returns-in_default-has_flag : goal.returns-in_default-has_flag
returns-in_default-has_flag c = λ window asks. c.in_default-has_flag.ensures _ asks.solve
