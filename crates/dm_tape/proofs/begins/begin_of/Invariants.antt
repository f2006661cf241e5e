use Rattle.std.proofs.Common.{◌-◌}
use Rattle.dm_tape.proofs.Leading.{Walks}
use Rattle.dm_tape.proofs.begins.begin_of.Given as goal

abbrev pub invariant-loop-lines : goal.invariant-loop-lines
invariant-loop-lines l = Walks l.bytes l.line l.lines

abbrev pub decreases-loop-lines : goal.decreases-loop-lines
decreases-loop-lines l = l.line - l.lines.line
