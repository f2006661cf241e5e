use Rattle.dm_propagate.proofs.noting.settle_noted.Given as goal

abbrev pub ghosts-settle_from : goal.ghosts-settle_from
ghosts-settle_from g a = record { times = a.priced.now.live.times; noted = a.noting.now.moved.now.flags; name = a.noting.now.moved.ghost_name }
