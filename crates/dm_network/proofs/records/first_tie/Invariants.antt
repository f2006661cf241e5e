use Rattle.dm_network.proofs.Doubles.{FrontRises}
use Rattle.dm_network.proofs.records.first_tie.Given as goal

abbrev pub invariant-loop-i : goal.invariant-loop-i
invariant-loop-i l = FrontRises l.ids l.i
