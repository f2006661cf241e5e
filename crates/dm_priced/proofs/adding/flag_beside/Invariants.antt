use Rattle.dm_priced.specs.Inside.Adding.{HasFlaggedTails}
use Rattle.dm_priced.proofs.adding.flag_beside.Given as goal

abbrev pub invariant-loop-a : goal.invariant-loop-a
invariant-loop-a l = HasFlaggedTails l.net l.into l.a-index l.initial.beside l.beside
