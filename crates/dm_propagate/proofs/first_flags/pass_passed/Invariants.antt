use Rattle.std.specs.Prelude.{◌≡◌}
use Rattle.dm_priced.specs.Priced.{IsPriced}
use Rattle.dm_rows.specs.Active.{has_passed}
use Rattle.dm_propagate.specs.Inside.Beginning.{AreFlaggedBefore}
use Rattle.dm_propagate.proofs.first_flags.pass_passed.Given as goal

abbrev pub invariant-loop-i : goal.invariant-loop-i
invariant-loop-i g l =
    IsPriced l.day.net.now l.priced × (l.priced.live ≡ l.initial.priced.live) × (l.priced.charged ≡ l.initial.priced.charged)
    × (l.priced.cancelled ≡ l.initial.priced.cancelled)
    × AreFlaggedBefore (has_passed l.day.rows.now) l.i l.priced.passed
