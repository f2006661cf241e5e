use Rattle.std.proofs.Common.{[]}
use Rattle.dm_rows.specs.Relax.{is_relaxed_active}
use Rattle.dm_paths.specs.Flags.{AreFlags}
use Rattle.dm_paths.proofs.free.binding_flags.Given as goal

abbrev pub invariant-loop-a : goal.invariant-loop-a
invariant-loop-a l = AreFlags (is_relaxed_active l.net l.rows []) l.a l.flags.items
