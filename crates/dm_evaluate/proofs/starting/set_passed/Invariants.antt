use Rattle.std.specs.Prelude.{◌≡◌}
use Rattle.dm_priced.specs.Priced.{IsPriced}
use Rattle.dm_rows.specs.Active.{has_passed}
use Rattle.dm_evaluate.specs.Inside.Starting.{FlagsOnlyTo}
use Rattle.dm_evaluate.proofs.starting.set_passed.Given as goal

abbrev pub invariant-loop-i : goal.invariant-loop-i
invariant-loop-i g l = record {
  priced : IsPriced l.net l.priced;
  live : l.priced.live ≡ l.initial.priced.live;
  charged : l.priced.charged ≡ l.initial.priced.charged;
  cancelled : l.priced.cancelled ≡ l.initial.priced.cancelled;
  passed : FlagsOnlyTo (has_passed l.rows) l.i l.priced.passed;
}
