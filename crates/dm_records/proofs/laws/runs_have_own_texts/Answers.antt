use Rattle.dm_records.proofs.RunsSplit as RunsSplit
use Rattle.dm_records.proofs.laws.runs_have_own_texts.Goals as goal

pub returns : goal.returns
returns c = RunsSplit.runs_have_own_texts
