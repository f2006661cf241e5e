use Rattle.std.proofs.Common.{length}
use Rattle.dm_paths.specs.Flags.{AreFlags}
use Rattle.dm_relax.specs.Inside.Flags.{is_unmet_so_far}
use Rattle.dm_relax.proofs.unmet.unmet_from.Given as goal

abbrev pub invariant-loop-a : goal.invariant-loop-a
invariant-loop-a l = AreFlags (is_unmet_so_far l.net l.rows l.times l.small l.a) (length l.net.pairs) l.flags.items
