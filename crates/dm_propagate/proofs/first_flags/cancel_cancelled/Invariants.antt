use Rattle.std.specs.Prelude.{◌≡◌}
use Rattle.dm_priced.specs.Priced.{IsPriced}
use Rattle.dm_rows.specs.Rows.{is_cancelled}
use Rattle.dm_propagate.specs.Inside.Beginning.{AreFlaggedBefore}
use Rattle.dm_propagate.proofs.first_flags.cancel_cancelled.Given as goal

abbrev pub invariant-loop-i : goal.invariant-loop-i
invariant-loop-i g l =
    IsPriced l.day.net.now l.priced × (l.priced.live ≡ l.initial.priced.live) × (l.priced.charged ≡ l.initial.priced.charged)
    × (l.priced.passed ≡ l.initial.priced.passed)
    × AreFlaggedBefore (is_cancelled l.day.rows.now) l.i l.priced.cancelled
