use Rattle.std.proofs.Common.{[]}
use Rattle.dm_rows.specs.Relax.{is_relaxed_lost}
use Rattle.dm_paths.specs.Flags.{AreFlags}
use Rattle.dm_check_plans.proofs.relaxed_problem.lost_flags.Given as goal

abbrev pub invariant-loop-a : goal.invariant-loop-a
invariant-loop-a l = AreFlags (is_relaxed_lost l.net l.rows []) l.a l.flags.items
