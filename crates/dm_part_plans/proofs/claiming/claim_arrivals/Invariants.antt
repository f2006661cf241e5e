use Rattle.std.specs.Prelude.{◌≤◌, length}
use Rattle.dm_part_plans.specs.Inside.Claims.{AreNewArrivals, KeepsArrivals}
use Rattle.dm_part_plans.proofs.claiming.claim_arrivals.Given as goal

abbrev pub invariant-loop-arrival : goal.invariant-loop-arrival
invariant-loop-arrival l =
    record {
      new : AreNewArrivals l.net l.fn.flags l.flags l.ids.items;
      kept : KeepsArrivals l.net l.fn.flags l.flags;
      few : length l.ids.items ≤ 65536;
    }
