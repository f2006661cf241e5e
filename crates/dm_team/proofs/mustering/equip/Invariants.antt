use Rattle.dm_team.specs.Inside.Gathering.{AreEquipped}
use Rattle.dm_team.proofs.mustering.equip.Given as goal

abbrev pub invariant-loop-worker : goal.invariant-loop-worker
invariant-loop-worker g l = AreEquipped l.fn.owners.items l.owners.items l._worker l.purses.items
