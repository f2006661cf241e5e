use Rattle.dm_cert.proofs.DueLines.{logs_answer_first}
use Rattle.dm_cert.proofs.laws.logs_answer_first.Goals as goal

pub returns : goal.returns
returns c = logs_answer_first
