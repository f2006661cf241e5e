use Rattle.dm_team.proofs.working.Worker.take_on.Goals as goal

pub expand-requires-clause-node : goal.expand-requires-clause-node
expand-requires-clause-node g c = c.requires.picks.opens _ c.requires.fits
