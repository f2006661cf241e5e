use Rattle.dm_propagate.specs.Inside.Beginning.{IsFixedBefore}
use Rattle.dm_propagate.proofs.first_flags.fix_passed.Given as goal

abbrev pub invariant-loop-i : goal.invariant-loop-i
invariant-loop-i g l = IsFixedBefore l.day.net.now l.day.rows.now l.i l.live
