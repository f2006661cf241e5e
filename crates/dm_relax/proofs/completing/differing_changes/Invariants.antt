use Rattle.std.proofs.Common.{◌≡◌, [], ◌++◌}
use Rattle.dm_relax.specs.Inside.Differing.{differing_changes}
use Rattle.dm_relax.proofs.completing.differing_changes.Given as goal

abbrev pub invariant-loop-a : goal.invariant-loop-a
invariant-loop-a l =
    l.decisions.items ≡ [] ++ differing_changes l.relaxation.net.now l.relaxation.rows.now l.relaxation.path.now l.a
