use Rattle.std.proofs.Common.{arith}
use Rattle.dm_rows.specs.Cost.{comes_too_early}
use Rattle.dm_check_plans.proofs.Violating.{none_flagged}
use Rattle.dm_check_plans.proofs.timed.TimedRows.is_any_change_early.Goals as goal

pub returns-clause-none : goal.returns-clause-none
returns-clause-none c = λ _ changes.
    none_flagged c.args.self.now.net.now c.args.changes.now (comes_too_early c.args.self.now.net.now c.args.self.now.rows.now c.args.self.now.times.now) c.args.places.now c.requires.places changes
    (λ k lt. c.loop-a.invariant k (omega arith))
