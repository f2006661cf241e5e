use Rattle.std.proofs.Common.{refl}
use Rattle.dm_check_rows.specs.Claims.{times_of}
use Rattle.dm_check_rows.proofs.Telling.{cost_told}
use Rattle.dm_check_rows.proofs.checked_rows.CheckedRows.is_cost.Goals as goal

pub returns : goal.returns
returns c = cost_told c.args.net.now c.args.self.now.rows (times_of c.args.self.now) c.args.penalty c.args.cost c.cost.result _ refl c.cost.ensures c.requires.least
