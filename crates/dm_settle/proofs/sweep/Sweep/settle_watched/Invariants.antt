use Rattle.std.proofs.Common.{◌≡◌, ◌-◌, length}
use Rattle.dm_settle.specs.Settling.{arcs_swept, graph_swept}
use Rattle.dm_settle.specs.Inside.Sweep.{IsSweeping, HasRead}
use Rattle.dm_settle.proofs.sweep.Sweep.settle_watched.Given as goal

abbrev pub invariant-loop-next : goal.invariant-loop-next
invariant-loop-next g l = record {
  sweeping : IsSweeping (graph_swept l.self) l.self.ranks.now l.initial.marks l.marks l.times l.place;
  read : HasRead (arcs_swept l.self) l.self.ranks.now (record { marks = l.initial.marks; times = l.initial.times; steps = l.initial.steps }) (record { marks = l.marks; times = l.times; steps = l.steps }) l.place;
  knows : g.W.Watcher.knows l.watcher l.self.net.now l.self.constraints.now l.times;
  other_knows : g.V.Watcher.knows l.other l.self.net.now l.self.constraints.now l.times;
  flags : g.W.Watcher.flags l.watcher ≡ g.W.Watcher.flags l.initial.watcher;
}

abbrev pub decreases-loop-next : goal.decreases-loop-next
decreases-loop-next g l = length l.self.order.now - l.place
