use Rattle.std.proofs.Common.{length, take}
use Rattle.dm_rows.specs.Relax.{is_undecided_change, is_undecided_pair}
use Rattle.dm_paths.specs.Flags.{AreFlags}
use Rattle.dm_relax.proofs.relaxation.Relaxation.new.Given as goal

abbrev pub invariant-loop-decision : goal.invariant-loop-decision
invariant-loop-decision l =
    record {
      changes : AreFlags (is_undecided_change l.net l.rows (take l.decision-index l.path)) (length l.net.activities) l.undecided.changes.items;
      pairs : AreFlags (is_undecided_pair l.net l.rows (take l.decision-index l.path)) (length l.net.pairs) l.undecided.pairs.items;
    }
