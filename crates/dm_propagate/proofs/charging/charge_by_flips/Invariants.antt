use Rattle.std.specs.Prelude.{◌≡◌}
use Rattle.dm_priced.specs.Priced.{IsPriced}
use Rattle.dm_propagate.specs.Inside.Concern.{IsOfOneBefore}
use Rattle.dm_propagate.specs.Inside.Flags.{IsNamed, Charges}
use Rattle.dm_propagate.proofs.charging.charge_by_flips.Given as goal

abbrev pub invariant-loop-flip : goal.invariant-loop-flip
invariant-loop-flip l =
    IsPriced l.day.net.now l.priced × (l.priced.live ≡ l.initial.priced.live) × (l.priced.passed ≡ l.initial.priced.passed)
    × (l.priced.cancelled ≡ l.initial.priced.cancelled)
    × Charges l.day.net.now l.day.rows.now (IsOfOneBefore IsNamed l.flips l.flip-index) l.initial.priced.charged l.priced.charged
