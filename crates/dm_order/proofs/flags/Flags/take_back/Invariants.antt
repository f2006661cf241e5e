use Rattle.std.proofs.Common.{◌≡◌, take}
use Rattle.dm_order.specs.Inside.Flagging.{taken_back}
use Rattle.dm_order.proofs.flags.Flags.take_back.Given as goal

abbrev pub invariant-loop-a : goal.invariant-loop-a
invariant-loop-a l = record {
  tried : l.self.tried.items ≡ taken_back l.initial.self.held.items l.initial.self.tried.items (take l.a-index l.arcs);
  held : l.self.held.items ≡ l.initial.self.held.items;
}
