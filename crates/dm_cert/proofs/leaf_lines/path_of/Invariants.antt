use Rattle.std.proofs.Common.{length}
use Rattle.dm_cert.specs.Inside.PlanPaths.{ReadSoFar}
use Rattle.dm_cert.proofs.leaf_lines.path_of.Given as goal

abbrev pub invariant-loop-decision : goal.invariant-loop-decision
invariant-loop-decision l = ReadSoFar l.bytes l.rest l.path.items

abbrev pub decreases-loop-decision : goal.decreases-loop-decision
decreases-loop-decision l = length l.rest
