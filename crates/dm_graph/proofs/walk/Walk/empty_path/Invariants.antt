use Rattle.std.proofs.Common.{◌≡◌, length}
use Rattle.dm_graph.specs.Inside.Walk.{IsWalk, steps_left, KeepsMet}
use Rattle.dm_graph.proofs.walk.Walk.empty_path.Given as goal

abbrev pub invariant-loop-self : goal.invariant-loop-self
invariant-loop-self l = record {
  holds : IsWalk l.by_head l.self;
  as_many : length l.self.order.items ≡ length l.initial.self.order.items;
  met : KeepsMet l.initial.self l.self;
}

abbrev pub decreases-loop-self : goal.decreases-loop-self
decreases-loop-self l = steps_left l.by_head l.self
