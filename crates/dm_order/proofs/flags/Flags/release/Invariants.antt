use Rattle.std.proofs.Common.{◌≡◌, false, take}
use Rattle.dm_order.specs.Inside.Flagging.{flagged}
use Rattle.dm_order.proofs.flags.Flags.release.Given as goal

abbrev pub invariant-loop-a : goal.invariant-loop-a
invariant-loop-a l = record {
  tried : l.self.tried.items ≡ flagged false l.initial.self.tried.items (take l.a-index l.arcs);
  held : l.self.held.items ≡ flagged false l.initial.self.held.items (take l.a-index l.arcs);
}
