use Rattle.std.specs.Prelude.{◌≤◌, length}
use Rattle.dm_part_plans.specs.Inside.Claims.{AreNewChanges, KeepsChanges}
use Rattle.dm_part_plans.proofs.claiming.claim_changes.Given as goal

abbrev pub invariant-loop-connection : goal.invariant-loop-connection
invariant-loop-connection l =
    record {
      new : AreNewChanges l.net l.fn.flags l.flags l.ids.items;
      kept : KeepsChanges l.net l.fn.flags l.flags;
      few : length l.ids.items ≤ 65536;
    }
