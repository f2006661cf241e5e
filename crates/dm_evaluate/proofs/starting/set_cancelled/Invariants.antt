use Rattle.std.specs.Prelude.{◌≡◌}
use Rattle.dm_priced.specs.Priced.{IsPriced}
use Rattle.dm_rows.specs.Rows.{is_cancelled}
use Rattle.dm_evaluate.specs.Inside.Starting.{FlagsOnlyTo}
use Rattle.dm_evaluate.proofs.starting.set_cancelled.Given as goal

abbrev pub invariant-loop-i : goal.invariant-loop-i
invariant-loop-i g l = record {
  priced : IsPriced l.net l.priced;
  live : l.priced.live ≡ l.initial.priced.live;
  passed : l.priced.passed ≡ l.initial.priced.passed;
  charged : l.priced.charged ≡ l.initial.priced.charged;
  cancelled : FlagsOnlyTo (is_cancelled l.rows) l.i l.priced.cancelled;
}
