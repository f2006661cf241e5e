use Rattle.std.proofs.Common.{length}
use Rattle.dm_catch_up.specs.Inside.Comparing.{AreSame}
use Rattle.dm_catch_up.proofs.catching.compare_part.Given as goal

abbrev pub invariant-loop-same : goal.invariant-loop-same
invariant-loop-same l = AreSame l.part l.fn.passed l.items l.rest l.lines l.same

abbrev pub decreases-loop-same : goal.decreases-loop-same
decreases-loop-same l = length l.rest
