use Rattle.std.specs.Prelude.{◌≡◌}
use Rattle.dm_priced.specs.Priced.{IsPriced}
use Rattle.dm_rows.specs.Cost.{is_lost_change}
use Rattle.dm_propagate.specs.Inside.Beginning.{AreFlaggedBefore}
use Rattle.dm_propagate.proofs.first_flags.charge_lost.Given as goal

abbrev pub invariant-loop-a : goal.invariant-loop-a
invariant-loop-a l =
    IsPriced l.day.net.now l.priced × (l.priced.live ≡ l.initial.priced.live) × (l.priced.passed ≡ l.initial.priced.passed)
    × (l.priced.cancelled ≡ l.initial.priced.cancelled)
    × AreFlaggedBefore (is_lost_change l.day.net.now l.day.rows.now) l.a l.priced.charged
