use Rattle.std.proofs.Common.{[]}
use Rattle.dm_rows.specs.Relax.{is_undecided_pair}
use Rattle.dm_paths.specs.Flags.{AreFlags}
use Rattle.dm_paths.proofs.free.free_pairs.Given as goal

abbrev pub invariant-loop-p : goal.invariant-loop-p
invariant-loop-p l = AreFlags (is_undecided_pair l.net l.rows []) l.p l.flags.items
