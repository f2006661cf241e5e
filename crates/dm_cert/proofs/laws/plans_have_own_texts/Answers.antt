use Rattle.dm_cert.proofs.SpelledPlans as SpelledPlans
use Rattle.dm_cert.proofs.laws.plans_have_own_texts.Goals as goal

pub returns : goal.returns
returns c = SpelledPlans.plans_have_own_texts
