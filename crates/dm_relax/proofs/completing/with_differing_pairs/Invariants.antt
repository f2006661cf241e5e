use Rattle.std.proofs.Common.{◌≡◌, ◌++◌}
use Rattle.dm_relax.specs.Inside.Differing.{differing_pairs}
use Rattle.dm_relax.proofs.completing.with_differing_pairs.Given as goal

abbrev pub invariant-loop-p : goal.invariant-loop-p
invariant-loop-p l =
    l.decisions.items ≡ l.initial.decisions.items
    ++ differing_pairs l.relaxation.net.now l.relaxation.rows.now l.relaxation.path.now l.times l.p
