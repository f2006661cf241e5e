-- What binds, as one value.
use Rattle.std.specs.Prelude.{ℕ}
use Rattle.dm_graph.specs.Graph.{Graph}
use Rattle.dm_check_times.specs.Binding.{graph_with}
use Rattle.dm_check_times.specs.declared.bindings.Bindings.{Bindings}

-- the graph of what binds, over any floors
abbrev pub graph_over : Bindings → (ℕ → ℕ) → Graph
graph_over bindings floor = graph_with bindings.net.now bindings.held.now bindings.spans.now floor
