use Rattle.std.proofs.Common.{◌≡◌, ℕ, ◌<◌, false}
use Rattle.dm_rows.specs.Relax.{is_violated_pair}
use Rattle.dm_relax.proofs.relaxing.first_violated_pair.Given as goal

abbrev pub invariant-loop-p : goal.invariant-loop-p
invariant-loop-p l =
    (k : ℕ) → k < l.p → is_violated_pair l.relaxation.net.now l.relaxation.rows.now l.relaxation.path.now l.times k ≡ false
