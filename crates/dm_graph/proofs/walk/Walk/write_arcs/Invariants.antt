use Rattle.std.proofs.Common.{◌≡◌, ℕ, ◌+◌, ◌<◌, slice_index}
use Rattle.dm_graph.specs.Inside.Walk.{path_arc}
use Rattle.dm_graph.proofs.walk.Walk.write_arcs.Given as goal

abbrev pub invariant-loop-k : goal.invariant-loop-k
invariant-loop-k l = (i : ℕ) → i < l.k → slice_index l.arcs i ≡ path_arc l.places l.self (l.self.top + i)
