use Rattle.std.proofs.Common.{sym, ◌∙◌}
use Rattle.dm_journal.proofs.Given.{torn_journal, unfailed_journal, whole_journal}
use Rattle.dm_journal.proofs.giving.followed.Goals as goal

pub returns-in-Torn : goal.returns-in-Torn
returns-in-Torn c = λ net rows penalty bytes is. torn_journal net rows penalty bytes _ is c.in-Torn.line _ (sym c.tail.ensures ∙ c.in-Torn.is)

pub returns-in-Whole : goal.returns-in-Whole
returns-in-Whole c = λ net rows penalty bytes is. whole_journal net rows penalty bytes _ is (sym c.tail.ensures ∙ c.in-Whole.is)

pub returns-in-Failed : goal.returns-in-Failed
returns-in-Failed c = λ net rows penalty bytes is. unfailed_journal net rows penalty bytes _ is _ (sym c.tail.ensures ∙ c.in-Failed.is)
