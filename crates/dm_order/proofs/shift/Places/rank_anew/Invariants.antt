use Rattle.std.proofs.Common.{◌≡◌, ◌+◌, length}
use Rattle.dm_order.specs.Inside.Shifting.{AreRankedAnew, AreCopied, passing, failing, reached_from}
use Rattle.dm_order.proofs.shift.Places.rank_anew.Given as goal

abbrev pub invariant-loop-i : goal.invariant-loop-i
invariant-loop-i l = record {
  other : l.next.other ≡ l.low + failing (reached_from l.causes l.low) l.i;
  reached : l.next.reached ≡ l.low + l.others + passing (reached_from l.causes l.low) l.i;
  ranks : AreRankedAnew (reached_from l.causes l.low) l.initial.self.order.items l.low l.count l.i l.initial.self.ranks.items l.self.ranks.items;
  copied : AreCopied l.initial.self.order.items l.low l.i l.self.spare.items;
  order : l.self.order.items ≡ l.initial.self.order.items;
  spare : length l.self.spare.items ≡ length l.initial.self.spare.items;
}
