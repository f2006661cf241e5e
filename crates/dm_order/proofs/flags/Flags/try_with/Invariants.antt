use Rattle.std.proofs.Common.{◌≡◌, true, take}
use Rattle.dm_order.specs.Inside.Flagging.{flagged}
use Rattle.dm_order.proofs.flags.Flags.try_with.Given as goal

abbrev pub invariant-loop-a : goal.invariant-loop-a
invariant-loop-a l = record {
  tried : l.self.tried.items ≡ flagged true l.initial.self.tried.items (take l.a-index l.arcs);
  held : l.self.held.items ≡ l.initial.self.held.items;
}
