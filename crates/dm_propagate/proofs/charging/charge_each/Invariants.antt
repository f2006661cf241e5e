use Rattle.std.specs.Prelude.{◌≡◌}
use Rattle.dm_priced.specs.Priced.{IsPriced}
use Rattle.dm_propagate.specs.Inside.Turning.{IsAmong}
use Rattle.dm_propagate.specs.Inside.Flags.{Charges}
use Rattle.dm_propagate.proofs.charging.charge_each.Given as goal

abbrev pub invariant-loop-a : goal.invariant-loop-a
invariant-loop-a l =
    IsPriced l.day.net.now l.priced × (l.priced.live ≡ l.initial.priced.live) × (l.priced.passed ≡ l.initial.priced.passed)
    × (l.priced.cancelled ≡ l.initial.priced.cancelled)
    × Charges l.day.net.now l.day.rows.now (IsAmong l.acts l.a-index) l.initial.priced.charged l.priced.charged
