use Rattle.dm_rows.proofs.AsGraph.{active_enter_no_passed}
use Rattle.dm_times.proofs.scratch.least.Goals as goal

pub least_holding-requires-clause-enters_no_passed : goal.least_holding-requires-clause-enters_no_passed
least_holding-requires-clause-enters_no_passed c = active_enter_no_passed c.args.net.now c.args.rows.now
