use Rattle.std.specs.Prelude.{◌≡◌, []}
use Rattle.dm_priced.specs.Priced.{IsPriced}
use Rattle.dm_rows.specs.Relax.{is_relaxed_lost}
use Rattle.dm_evaluate.specs.Inside.Starting.{FlagsOnlyTo}
use Rattle.dm_evaluate.proofs.starting.charge_lost.Given as goal

abbrev pub invariant-loop-a : goal.invariant-loop-a
invariant-loop-a l = record {
  priced : IsPriced l.net l.priced;
  live : l.priced.live ≡ l.initial.priced.live;
  passed : l.priced.passed ≡ l.initial.priced.passed;
  cancelled : l.priced.cancelled ≡ l.initial.priced.cancelled;
  charged : FlagsOnlyTo (is_relaxed_lost l.net l.rows []) l.a l.priced.charged;
}
