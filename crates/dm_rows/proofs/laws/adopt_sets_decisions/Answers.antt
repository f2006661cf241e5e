use Rattle.dm_rows.proofs.Setting.{adopt_sets_decisions}
use Rattle.dm_rows.proofs.laws.adopt_sets_decisions.Goals as goal

pub returns : goal.returns
returns c = adopt_sets_decisions
