use Rattle.dm_records.proofs.HeldRuns as HeldRuns
use Rattle.dm_records.proofs.laws.texts_tell_one_run.Goals as goal

pub returns : goal.returns
returns c = HeldRuns.texts_tell_one_run
