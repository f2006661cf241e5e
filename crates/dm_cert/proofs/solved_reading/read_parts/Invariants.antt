use Rattle.dm_cert.proofs.PartsStaged.{HasParts}
use Rattle.dm_cert.proofs.solved_reading.read_parts.Given as goal

abbrev pub invariant-loop-left : goal.invariant-loop-left
invariant-loop-left l = HasParts l.fn.heading l.initial.lines l.lines l.parts.items l.left.parts l.left.nodes l.left.ids

abbrev pub decreases-loop-left : goal.decreases-loop-left
decreases-loop-left l = l.left.parts
