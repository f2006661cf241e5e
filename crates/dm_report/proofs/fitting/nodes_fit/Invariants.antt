use Rattle.std.proofs.Common.{ℕ, ◌<◌, get_or}
use Rattle.dm_cert.specs.PlanTexts.{FitsNode}
use Rattle.dm_report.proofs.fitting.nodes_fit.Given as goal

abbrev pub invariant-loop-node : goal.invariant-loop-node
invariant-loop-node l = (k : ℕ) (d : _) → k < l.node-index → FitsNode (get_or l.nodes k d)
