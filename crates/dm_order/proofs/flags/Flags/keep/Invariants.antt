use Rattle.std.proofs.Common.{◌≡◌, true, take}
use Rattle.dm_order.specs.Inside.Flagging.{flagged}
use Rattle.dm_order.proofs.flags.Flags.keep.Given as goal

abbrev pub invariant-loop-a : goal.invariant-loop-a
invariant-loop-a l = record {
  held : l.self.held.items ≡ flagged true l.initial.self.held.items (take l.a-index l.arcs);
  tried : l.self.tried.items ≡ l.initial.self.tried.items;
}
