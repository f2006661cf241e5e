use Rattle.std.proofs.Common.{[]}
use Rattle.dm_rows.specs.Relax.{is_undecided_change}
use Rattle.dm_paths.specs.Flags.{AreFlags}
use Rattle.dm_paths.proofs.free.free_changes.Given as goal

abbrev pub invariant-loop-a : goal.invariant-loop-a
invariant-loop-a l = AreFlags (is_undecided_change l.net l.rows []) l.a l.flags.items
