use Rattle.dm_check_plans.specs.Inside.Violations.{NoneFlagged}
use Rattle.dm_paths.specs.Decisions.{is_unmet_pair}
use Rattle.dm_check_plans.proofs.timed.TimedRows.is_any_pair_unmet.Given as goal

abbrev pub invariant-loop-p : goal.invariant-loop-p
invariant-loop-p l = NoneFlagged l.pairs (is_unmet_pair l.self.net.now l.self.rows.now l.self.times.now) l.p
