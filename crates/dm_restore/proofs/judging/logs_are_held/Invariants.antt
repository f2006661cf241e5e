use Rattle.std.proofs.Common.{ℕ, ◌<◌, get_or}
use Rattle.dm_records.specs.Laws.{IsHeldLog}
use Rattle.dm_restore.proofs.judging.logs_are_held.Given as goal

abbrev pub invariant-loop-log : goal.invariant-loop-log
invariant-loop-log l = (k : ℕ) (d : _) → k < l.log-index → IsHeldLog (get_or l.logs k d)
