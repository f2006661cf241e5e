use Rattle.std.proofs.Common.{◌≡◌, ℕ, ◌<◌, false}
use Rattle.dm_rows.specs.Relax.{is_violated_change}
use Rattle.dm_relax.proofs.relaxing.first_violated_change.Given as goal

abbrev pub invariant-loop-a : goal.invariant-loop-a
invariant-loop-a l =
    (k : ℕ) → k < l.a → is_violated_change l.relaxation.net.now l.relaxation.rows.now l.relaxation.path.now l.times k ≡ false
