use Rattle.dm_paths.specs.RowsRead.{NoneUnmet}
use Rattle.dm_check_plans.proofs.timed.TimedRows.has_unmet_from.Given as goal

abbrev pub invariant-loop-a : goal.invariant-loop-a
invariant-loop-a l = NoneUnmet l.self.net.now l.self.rows.now l.self.times.now l.p l.row l.a-index
