use Rattle.std.proofs.Common.{◌≡◌, length, vec_capacity}
use Rattle.dm_rows.proofs.Adopting.{HasNamed}
use Rattle.dm_table.proofs.resolving.resolve.Given as goal

abbrev pub invariant-loop-decision : goal.invariant-loop-decision
invariant-loop-decision l =
    record {
      named : HasNamed l.net l.rows l.decisions l.decision-index l.flips.items;
      count : length l.flips.items ≡ l.decision-index;
      room : vec_capacity l.flips ≡ vec_capacity l.initial.flips;
    }
