use Rattle.std.proofs.Common.{◌≡◌, take}
use Rattle.dm_rows.specs.Decide.{with_decisions}
use Rattle.dm_rows.specs.Rows.{IsSized}
use Rattle.dm_paths.proofs.decisions.with_decisions.Given as goal

abbrev pub invariant-loop-decision : goal.invariant-loop-decision
invariant-loop-decision l = record {
  set : l.set ≡ with_decisions l.net l.rows (take l.decision-index l.decisions);
  sized : IsSized l.net l.set;
}
