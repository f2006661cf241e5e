use Rattle.dm_cert.specs.PlanTexts.{node_text}
use Rattle.dm_cert.proofs.plan_text.put_inner.Goals as goal

pub returns-in-Change-clause-text : goal.returns-in-Change-clause-text
unfolding node_text
returns-in-Change-clause-text g c = rw c.in-Change.is c.put_number.ensures
