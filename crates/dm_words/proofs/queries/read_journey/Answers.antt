use Rattle.dm_words.proofs.queries.read_journey.Goals as goal

pub returns-in_default-changes_of : goal.returns-in_default-changes_of
returns-in_default-changes_of c = λ journey asks. c.in_default-changes_of.ensures _ asks.changes
