use Rattle.dm_rows.specs.Cost.{comes_too_early}
use Rattle.dm_check_plans.specs.Inside.Violations.{NoneFlaggedAmong}
use Rattle.dm_check_plans.proofs.timed.TimedRows.is_any_change_early.Given as goal

abbrev pub invariant-loop-a : goal.invariant-loop-a
invariant-loop-a l = NoneFlaggedAmong l.changes (comes_too_early l.self.net.now l.self.rows.now l.self.times.now) l.places l.a-index
