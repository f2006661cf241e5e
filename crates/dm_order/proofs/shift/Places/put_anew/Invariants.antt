use Rattle.std.proofs.Common.{◌≡◌}
use Rattle.dm_order.specs.Inside.Shifting.{ArePut}
use Rattle.dm_order.proofs.shift.Places.put_anew.Given as goal

abbrev pub invariant-loop-i : goal.invariant-loop-i
invariant-loop-i l = record {
  put : ArePut l.low l.count l.i l.initial.self.ranks.items l.initial.self.spare.items l.initial.self.order.items l.self.order.items;
  ranks : l.self.ranks.items ≡ l.initial.self.ranks.items;
  spare : l.self.spare.items ≡ l.initial.self.spare.items;
}
