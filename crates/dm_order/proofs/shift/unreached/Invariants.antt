use Rattle.std.proofs.Common.{◌≡◌, ◌≤◌}
use Rattle.dm_order.specs.Inside.Shifting.{failing, reached_from}
use Rattle.dm_order.proofs.shift.unreached.Given as goal

abbrev pub invariant-loop-i : goal.invariant-loop-i
invariant-loop-i l = record {
  counted : l.n ≡ failing (reached_from l.causes l.low) l.i;
  within : l.n ≤ l.i;
}
