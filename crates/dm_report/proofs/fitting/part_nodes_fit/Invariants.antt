use Rattle.std.proofs.Common.{ℕ, ◌<◌, get_or}
use Rattle.dm_cert.specs.SolvedTexts.{FitsPartNode}
use Rattle.dm_report.proofs.fitting.part_nodes_fit.Given as goal

abbrev pub invariant-loop-node : goal.invariant-loop-node
invariant-loop-node l = (k : ℕ) (d : _) → k < l.node-index → FitsPartNode (get_or l.nodes k d)
