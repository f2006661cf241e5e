use Rattle.dm_lintim.proofs.LawLemmas.{activities_one}
use Rattle.dm_lintim.proofs.laws.one_answer_of_activities.Goals as goal

pub returns : goal.returns
returns c = activities_one
