use Rattle.dm_cert.proofs.DueLines.{due_lines_rise}
use Rattle.dm_cert.proofs.laws.due_lines_rise.Goals as goal

pub returns : goal.returns
returns c = due_lines_rise
