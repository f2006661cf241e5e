use Rattle.dm_cert.proofs.DecisionsRead.{reads_choice}
use Rattle.dm_cert.proofs.plan_text.DecisionListed.read.Goals as goal

pub returns : goal.returns
returns c = rw c.choice_in.ensures (reads_choice c.args.line.now)
